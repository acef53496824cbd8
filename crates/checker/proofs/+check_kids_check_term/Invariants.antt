use Rattle.std.proofs.Common.{◌+◌, ◌*◌}
use Rattle.term.specs.Record.{records_from}
use Rattle.checker.specs.Walk.{check, kids}
use Rattle.checker.specs.WalkLaws.{Going}
use Rattle.checker.proofs.+check_kids_check_term.Given as goal

abbrev pub invariant-check_kids-loop-j : goal.invariant-check_kids-loop-j
invariant-check_kids-loop-j l =
    let g = check l.arities.entries.now l.arities.pool.now l.levels in
    Going g l.row l.records (kids g l.row l.n 0 (records_from l.records l.i) l.i) l.i l.n l.j l.next

abbrev pub decreases-check_kids : goal.decreases-check_kids
decreases-check_kids l = 2 * l.levels + 1

abbrev pub decreases-check_term : goal.decreases-check_term
decreases-check_term l = 2 * l.levels

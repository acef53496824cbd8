use Rattle.std.proofs.Common.{[], ◌-◌}
use Rattle.term.specs.Record.{records_from}
use Rattle.checker.specs.Refusal.{scan}
use Rattle.checker.specs.WalkLaws.{Scanning}
use Rattle.checker.proofs.check_records.Given as goal

abbrev pub invariant-loop-next : goal.invariant-loop-next
invariant-loop-next l =
    Scanning l.arities.entries.now l.arities.pool.now l.records (scan l.arities.entries.now l.arities.pool.now (records_from l.records 0) 0 []) l.next

abbrev pub decreases-loop-next : goal.decreases-loop-next
decreases-loop-next l = l.n - l.next

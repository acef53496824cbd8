-- `checker::check_term` and `checker::check_kids` meet their contracts: a term, and its children one level down (`Told`, `Going`).
-- Assumes nothing.
use Rattle.std.proofs.Common.{arith, ◌<◌, List, ℕ}
use Rattle.std.proofs.lemmas.Grind.{common_steps}
use Rattle.grammar.specs.KindLaws.{row-known, row_unknown}
use Rattle.checker.specs.FaultLaws.{fault_unknown, fault-known}
use Rattle.checker.specs.WalkLaws.{told_end, told-fault, some_level, told-kids, going_end, going_stopped, going_turn}
use Rattle.checker.proofs.+check_kids_check_term.Goals as goal

pub check_kids-returns-in_err-next : goal.check_kids-returns-in_err-next
check_kids-returns-in_err-next t c =
    let bad = going_stopped c.loop-j.invariant c.loop-j-test.true c.child_place-place.ensures c.in_err-next.ensures in
    grind (arith, common_steps)

pub check_kids-loop-j-preserved : goal.check_kids-loop-j-preserved
check_kids-loop-j-preserved t c = going_turn c.loop-j.invariant c.loop-j-test.true c.child_place-place.ensures c.in_ok-next.ensures

pub check_kids-returns : goal.check_kids-returns
check_kids-returns t c = going_end c.loop-j.invariant c.loop-j-test.false

pub check_term-returns-then-records-i : goal.check_term-returns-then-records-i
check_term-returns-then-records-i t c = told_end _ _ _ _ _ _ c.if-records-i.true

pub check_term-returns-then-j-ge67 : goal.check_term-returns-then-j-ge67
check_term-returns-then-j-ge67 t c =
    told-fault _ _ _ _ _ _ c.if-records-i.false c.record_at-r.ensures (fault_unknown _ _ _ _ _ (row_unknown _ _ c.position_of-j.ensures c.if-j-ge67.true))

pub check_term-overflow_sub-levels : goal.check_term-overflow_sub-levels
check_term-overflow_sub-levels t c =
    let row = row-known _ _ c.position_of-j.ensures c.if-j-ge67.false c.row_at-row.ensures in
    some_level _ _ _ _ _ (fault-known _ _ _ _ _ row c.in-Ok.ensures)

pub check_term-check_kids-requires : goal.check_term-check_kids-requires
check_term-check_kids-requires t c =
    let row = row-known _ _ c.position_of-j.ensures c.if-j-ge67.false c.row_at-row.ensures in
    let some : 0 < c.args.levels = some_level _ _ _ _ _ (fault-known _ _ _ _ _ row c.in-Ok.ensures) in
    (omega arith, omega arith)

pub check_term-returns-in-Ok : goal.check_term-returns-in-Ok
check_term-returns-in-Ok t c =
    let (entries, pool) : List ℕ × List ℕ = (c.args.arities.now.entries.now, c.args.arities.now.pool.now) in
    let row = row-known _ _ c.position_of-j.ensures c.if-j-ge67.false c.row_at-row.ensures in
    let free = fault-known entries pool c.args.place c.args.levels c.record_at-r.result row c.in-Ok.ensures in
    rw (told-kids entries pool c.args.records.now c.args.levels c.args.place c.args.i (omega arith) c.record_at-r.ensures free row)
    c.check_kids.ensures

pub check_term-returns-in-Err : goal.check_term-returns-in-Err
check_term-returns-in-Err t c =
    let row = row-known _ _ c.position_of-j.ensures c.if-j-ge67.false c.row_at-row.ensures in
    told-fault _ _ _ _ _ _ c.if-records-i.false c.record_at-r.ensures (fault-known _ _ _ _ _ row c.in-Err.ensures)

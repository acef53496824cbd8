-- `checker::check_records` meets its contract: the scan of what is left gives the whole (`Scanning`). Assumes nothing.
use Rattle.std.proofs.Common.{arith}
use Rattle.std.proofs.lemmas.Grind.{common_steps}
use Rattle.checker.specs.WalkLaws.{scanned, scan-bad, scan_turn}
use Rattle.checker.proofs.check_records.Goals as goal

pub returns-in_err-next : goal.returns-in_err-next
returns-in_err-next c =
    let bad = scan-bad c.loop-next.invariant c.loop-next-test.true c.in_err-next.ensures.fails in
    grind (arith, common_steps)

pub loop-next-preserved : goal.loop-next-preserved
loop-next-preserved c = scan_turn c.loop-next.invariant c.loop-next-test.true c.in_ok-next.ensures

pub returns : goal.returns
returns c = scanned c.loop-next.invariant c.loop-next-test.false

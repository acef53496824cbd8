-- `repack::put_entries` meets its contract. The entries that are left fill the rest (`Entering`). Assumes nothing.
use Rattle.std.proofs.Common.{arith}
use Rattle.repack.specs.RepackLaws.{entering_start, entering_fits, entering_most, entering_turn, entering_end}
use Rattle.repack.proofs.put_entries.Goals as goal

pub loop-j-init : goal.loop-j-init
loop-j-init c = entering_start _ _ _ c.args.arities.now.fit c.requires.1

pub put_entry-at-requires : goal.put_entry-at-requires
put_entry-at-requires c = entering_fits c.loop-j.invariant c.loop-j-test.true c.entry_at-e.ensures

pub loop-j-preserved : goal.loop-j-preserved
loop-j-preserved c = entering_turn c.loop-j.invariant c.loop-j-test.true c.entry_at-e.ensures c.put_entry-at.ensures

pub returns : goal.returns
returns c = entering_end c.loop-j.invariant c.loop-j-test.false

pub overflow_add-start : goal.overflow_add-start
overflow_add-start c =
    omega (arith, entering_most c.loop-j.invariant c.loop-j-test.true c.entry_at-e.ensures, c.loop-j-test.true, c.requires.0)

-- `repack::texts_len` meets its contract. The sum and the texts of the entries that are left give the whole (`Summing`). Assumes nothing.
use Rattle.std.proofs.Common.{arith}
use Rattle.repack.specs.RepackLaws.{summing_start, summing_most, summing_turn, summing_end}
use Rattle.repack.proofs.texts_len.Goals as goal

pub loop-j-init : goal.loop-j-init
loop-j-init c = summing_start _ _ c.args.arities.now.fit

pub loop-j-preserved : goal.loop-j-preserved
loop-j-preserved c = summing_turn c.loop-j.invariant c.loop-j-test.true c.entry_at-sum.ensures

pub returns : goal.returns
returns c = summing_end c.loop-j.invariant c.loop-j-test.false

pub overflow_add-sum : goal.overflow_add-sum
overflow_add-sum c =
    omega (arith, summing_most c.loop-j.invariant c.loop-j-test.true c.entry_at-sum.ensures, c.loop-j-test.true, c.requires)

-- `octets::byte_sum` meets its contract. What is added and what is left make the whole (`Summing`). Assumes nothing.
use Rattle.std.proofs.Common.{refl}
use Rattle.octets.specs.SumLaws.{summing_start, summing_turn, summing_end}
use Rattle.octets.proofs.byte_sum.Goals as goal

pub loop-byte-preserved : goal.loop-byte-preserved
loop-byte-preserved c = summing_turn c.loop-byte.invariant c.loop-byte-test.true refl

pub returns : goal.returns
returns c = summing_end c.loop-byte.invariant c.loop-byte-test.false

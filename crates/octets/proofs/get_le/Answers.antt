-- `octets::get_le` meets its contract. The loop goes from the last byte to the first: those behind it are read (`Counting`). Assumes nothing.
use Rattle.std.proofs.Common.{arith}
use Rattle.octets.specs.Reading.{counting_start, counting_turn, counting_fits, counting_end}
use Rattle.octets.proofs.get_le.Goals as goal

pub loop-i-init : goal.loop-i-init
loop-i-init c = counting_start _ _ _

pub overflow_mul-x : goal.overflow_mul-x
overflow_mul-x c = omega (arith, counting_fits c.loop-i.invariant c.loop-i-test.true c.requires.0)

pub overflow_add-x : goal.overflow_add-x
overflow_add-x c = omega (arith, counting_fits c.loop-i.invariant c.loop-i-test.true c.requires.0)

pub loop-i-preserved : goal.loop-i-preserved
loop-i-preserved c = counting_turn c.loop-i.invariant c.loop-i-test.true c.requires.1 _ c.from.ensures (omega (arith, c.from.ensures))

pub returns : goal.returns
returns c = counting_end c.loop-i.invariant c.loop-i-test.false

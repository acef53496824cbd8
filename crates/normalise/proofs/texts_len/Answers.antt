-- `normalise::texts_len` meets its contract. Assumes nothing.
use Rattle.std.proofs.Common.{arith}
use Rattle.normalise.specs.FlatLaws.{step_nearer, passing_turn, passing_sum, passing_end}
use Rattle.normalise.proofs.texts_len.Goals as goal

pub overflow_add-total : goal.overflow_add-total
overflow_add-total c = omega (arith, passing_sum c.loop-i.invariant c.args.terms.now.sound.small (omega arith) c.step_at-s.ensures)

pub loop-i-smaller : goal.loop-i-smaller
loop-i-smaller c = step_nearer (omega arith) c.step_at-s.ensures

pub loop-i-preserved : goal.loop-i-preserved
loop-i-preserved c = passing_turn c.loop-i.invariant (omega arith) c.step_at-s.ensures

pub returns : goal.returns
returns c = passing_end c.loop-i.invariant (omega arith)

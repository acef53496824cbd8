-- `normalise::put_texts` meets its contract. The texts that are left fill the rest. Assumes nothing.
use Rattle.std.proofs.Common.{arith}
use Rattle.normalise.specs.FlatLaws.{step_nearer}
use Rattle.normalise.specs.PackLaws.{texting_fits, texting_turn, texting_end}
use Rattle.normalise.proofs.put_texts.Goals as goal

pub put_text_at-at-requires : goal.put_text_at-at-requires
put_text_at-at-requires c = (c.requires.0, omega arith, texting_fits c.loop-i.invariant (omega arith) c.step_at-s.ensures)

pub loop-i-smaller : goal.loop-i-smaller
loop-i-smaller c = step_nearer (omega arith) c.step_at-s.ensures

pub loop-i-preserved : goal.loop-i-preserved
loop-i-preserved c = texting_turn c.loop-i.invariant (omega arith) c.step_at-s.ensures c.put_text_at-at.ensures

pub returns : goal.returns
returns c = texting_end c.loop-i.invariant (omega arith)

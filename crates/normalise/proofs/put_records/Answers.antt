-- `normalise::put_records` meets its contract. The records that are left fill the rest. Assumes nothing.
use Rattle.std.proofs.Common.{arith}
use Rattle.normalise.specs.FlatLaws.{step_nearer}
use Rattle.normalise.specs.PackLaws.{recording_fits, recording_most, recording_turn, recording_end}
use Rattle.normalise.proofs.put_records.Goals as goal

pub put_step_at-at-requires : goal.put_step_at-at-requires
put_step_at-at-requires c = (omega arith, recording_fits c.loop-i.invariant (omega arith) c.step_at-s.ensures)

pub overflow_add-start : goal.overflow_add-start
overflow_add-start c =
    omega (arith, recording_most c.loop-i.invariant (omega arith) c.step_at-s.ensures c.args.terms.now.sound.small, c.requires.0)

pub loop-i-smaller : goal.loop-i-smaller
loop-i-smaller c = step_nearer (omega arith) c.step_at-s.ensures

pub loop-i-preserved : goal.loop-i-preserved
loop-i-preserved c = recording_turn c.loop-i.invariant (omega arith) c.step_at-s.ensures c.put_step_at-at.ensures

pub returns : goal.returns
returns c = recording_end c.loop-i.invariant (omega arith)

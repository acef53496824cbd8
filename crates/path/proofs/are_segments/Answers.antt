-- `path::are_segments` meets its contract. The segments from the i-th on decide the whole (`Running`). Assumes nothing.
use Rattle.std.proofs.Common.{sym, ◌∙◌, arith}
use Rattle.path.specs.PathReading.{running_start, running_turn, running_bad, running_end}
use Rattle.path.proofs.are_segments.Goals as goal

pub loop-i-preserved : goal.loop-i-preserved
loop-i-preserved c = running_turn c.loop-i.invariant c.loop-i-test.true (sym c.is_segment.ensures ∙ c.if-not-is_segment.false)

pub returns-then-not-is_segment : goal.returns-then-not-is_segment
returns-then-not-is_segment c = running_bad c.loop-i.invariant c.loop-i-test.true (sym c.is_segment.ensures ∙ c.if-not-is_segment.true)

pub returns : goal.returns
returns c = running_end c.loop-i.invariant c.loop-i-test.false

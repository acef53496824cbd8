-- `taken::segment_at` meets its contract. Assumes nothing.
use Rattle.std.proofs.Common.{sym, ◌∙◌, arith}
use Rattle.path.specs.PathReading.{segment-there}
use Rattle.taken.specs.TakenLaws.{segment-found, segment_missed}
use Rattle.taken.proofs.segment_at.Goals as goal

pub overflow_add-result : goal.overflow_add-result
overflow_add-result c = omega (arith, segment-there c.args.b.now c.args.at (sym c.is_segment.ensures ∙ c.if-is_segment.true))

pub returns-then-is_segment : goal.returns-then-is_segment
returns-then-is_segment c = segment-found _ _ (sym c.is_segment.ensures ∙ c.if-is_segment.true)

pub returns-else-is_segment : goal.returns-else-is_segment
returns-else-is_segment c = segment_missed _ _ (sym c.is_segment.ensures ∙ c.if-is_segment.false)

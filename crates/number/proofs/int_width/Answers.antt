-- `number::int_width` meets its contract: each bound that x reaches doubles its width. Assumes nothing.
use Rattle.number.specs.IntegerLaws.{width_shift}
use Rattle.number.proofs.int_width.Goals as goal

pub returns : goal.returns
returns c = width_shift _ c.reached.ensures.0

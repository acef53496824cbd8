-- `descriptor::range_length` meets its contract: the text is wide enough, and the difference fits. Assumes nothing.
use mathlib.Core.Path.{refl}
use native.Mathlib.Omega.{arith}
use Rattle.descriptor.specs.Descriptor.{range_length}
use Rattle.descriptor.proofs.range_length.Goals as goal

pub overflow_add-result : goal.overflow_add-result
unfolding range_length
overflow_add-result c = omega (arith, c.get_le-min.ensures.is, c.get_le-max.ensures.is, c.requires.1.least, c.requires.1.small)

pub returns : goal.returns
unfolding range_length
returns c = rw (c.get_le-min.ensures.is, c.get_le-max.ensures.is) refl

-- `descriptor::unused_fits` meets its contract. Assumes nothing.
use Rattle.std.proofs.Common.{refl, ne_eqb}
use Rattle.descriptor.specs.Descriptor.{unused_fits}
use Rattle.descriptor.proofs.unused_fits.Goals as goal

pub returns-then-n-ne0 : goal.returns-then-n-ne0
unfolding unused_fits
returns-then-n-ne0 c = rw (ne_eqb c.args.n 0 c.if-n-ne0.true) refl

pub returns-else-n-ne0 : goal.returns-else-n-ne0
unfolding unused_fits
returns-else-n-ne0 c = rw c.if-n-ne0.false c.is_empty.ensures

-- `descriptor::space_fits` meets its contract, test by test. Assumes nothing.
use Rattle.std.proofs.Common.{refl, sym, ◌∙◌, eq-eqb, ne_eqb}
use Rattle.descriptor.specs.Descriptor.{space_fits}
use Rattle.descriptor.proofs.space_fits.Goals as goal

pub returns-then-text-w : goal.returns-then-text-w
unfolding space_fits
returns-then-text-w c = rw (sym c.flags_fit.ensures ∙ c.if-flags_fit.true, ne_eqb _ _ c.if-text-w.true) refl

pub returns-else-text-w : goal.returns-else-text-w
unfolding space_fits
returns-else-text-w c = rw (sym c.flags_fit.ensures ∙ c.if-flags_fit.true, eq-eqb _ _ c.if-text-w.false) c.range_fits.ensures

pub returns-else-flags_fit : goal.returns-else-flags_fit
unfolding space_fits
returns-else-flags_fit c = rw (sym c.flags_fit.ensures ∙ c.if-flags_fit.false) c.if-flags_fit.false

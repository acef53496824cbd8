-- `fields::in_range` meets its contract: the numbers' test and the text's. Assumes nothing.
use Rattle.std.proofs.Common.{sym, ◌∙◌}
use Rattle.fields.specs.Fields.{in_range}
use Rattle.fields.proofs.in_range.Goals as goal

pub returns-then-numbers_fit : goal.returns-then-numbers_fit
unfolding in_range
returns-then-numbers_fit c = rw (sym c.numbers_fit.ensures ∙ c.if-numbers_fit.true) c.text_fits.ensures

pub returns-else-numbers_fit : goal.returns-else-numbers_fit
unfolding in_range
returns-else-numbers_fit c = rw (sym c.numbers_fit.ensures ∙ c.if-numbers_fit.false) c.if-numbers_fit.false

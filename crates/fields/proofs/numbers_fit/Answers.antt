-- `fields::numbers_fit` meets its contract: the two limits, and the form's own rule. Assumes nothing.
use Rattle.std.proofs.Common.{sym, ◌∙◌, arith, le-leb, leb→le}
use Rattle.std.proofs.lemmas.Bool.{lt-leb}
use Rattle.octets.specs.Tests.{true_test}
use Rattle.fields.specs.Fields.{numbers_fit}
use Rattle.fields.proofs.numbers_fit.Goals.{then-a-row, else-a-row}
use Rattle.fields.proofs.numbers_fit.Goals as goal

pub returns-then-limited : goal.returns-then-limited
unfolding numbers_fit
returns-then-limited c =
    elim c.if-a-row.branch [
      | then-a-row w ↦ rw (le-leb c.args.a _ w.if-a-row.true, sym w.limited-is ∙ c.if-limited.true) c.form_fits.ensures
      | else-a-row w ↦ absurd (omega (arith, w.if-a-row.false, leb→le _ _ (true_test _ (sym w.limited-is ∙ c.if-limited.true))))
    ]

pub returns-else-limited : goal.returns-else-limited
unfolding numbers_fit
returns-else-limited c =
    elim c.if-a-row.branch [
      | then-a-row w ↦ rw (le-leb c.args.a _ w.if-a-row.true, sym w.limited-is ∙ c.if-limited.false) c.if-limited.false
      | else-a-row w ↦ rw (lt-leb c.args.a _ w.if-a-row.false) c.if-limited.false
    ]

-- `taken::parts_of` meets its contract, by the form of the numbers. Assumes nothing.
use Rattle.std.proofs.Common.{sym, ◌∙◌, ⊎_elim}
use Rattle.taken.specs.Taken.{parts_of}
use Rattle.taken.specs.TakenLaws.{x-alone, digits_from, digits_below, flags_in, flags_out}
use Rattle.taken.proofs.parts_of.Goals as goal

pub returns-in_err-checked_sub-in-Digits : goal.returns-in_err-checked_sub-in-Digits
returns-in_err-checked_sub-in-Digits c =
    rw (c.from_residual.ensures, c.in-Digits.is) (digits_below _ _ _ _ _ c.in_err-checked_sub-in-Digits.ensures)

pub returns-in_ok-checked_sub-in-Digits : goal.returns-in_ok-checked_sub-in-Digits
returns-in_ok-checked_sub-in-Digits c =
    let (l, v) = c.in_ok-checked_sub-in-Digits.ensures in rw (c.in-Digits.is, ← (digits_from _ _ _ _ _ l), ← v) c.limited.ensures

pub returns-in-MethodFlags : goal.returns-in-MethodFlags
unfolding parts_of
returns-in-MethodFlags c = rw c.in-MethodFlags.is c.limited-in-MethodFlags.ensures

pub returns-in-LevelOrder : goal.returns-in-LevelOrder
unfolding parts_of
returns-in-LevelOrder c = rw c.in-LevelOrder.is c.limited-in-LevelOrder.ensures

pub returns-then-flags_fit : goal.returns-then-flags_fit
returns-then-flags_fit c = c.limited-then-flags_fit.ensures ∙ rw c.in-FieldFlags.is (flags_in _ _ _ (sym c.flags_fit.ensures ∙ c.if-flags_fit.true))

pub returns-else-flags_fit : goal.returns-else-flags_fit
returns-else-flags_fit c = rw c.in-FieldFlags.is (flags_out _ _ _ (sym c.flags_fit.ensures ∙ c.if-flags_fit.false))

pub returns-in-IntegerX : goal.returns-in-IntegerX
unfolding parts_of
returns-in-IntegerX c =
    let r = c.limited-in-IntegerX.ensures ∙ x-alone _ _ _ in ⊎_elim (λ e. rw e r) (λ e. rw e r) c.in-IntegerX.is

-- `taken::number_at` meets its contract, by the form of the numbers. Assumes nothing.
use Rattle.std.proofs.Common.{⊎_elim}
use Rattle.taken.specs.Taken.{get_number}
use Rattle.taken.specs.TakenLaws.{digits-short}
use Rattle.taken.proofs.number_at.Goals as goal

pub le_at-requires : goal.le_at-requires
unfolding get_number
le_at-requires c = (digits-short _ _ (rw c.in-Digits.is at c.requires.0), c.requires.1)

pub returns-in-Digits : goal.returns-in-Digits
unfolding get_number
returns-in-Digits c = rw c.in-Digits.is c.le_at.ensures

pub returns-in-MethodFlags : goal.returns-in-MethodFlags
unfolding get_number
returns-in-MethodFlags c =
    let r = c.le_at-in-MethodFlags.ensures in ⊎_elim (λ e. rw e r) (λ e. rw e r) c.in-MethodFlags.is

pub returns-in-LevelOrder : goal.returns-in-LevelOrder
unfolding get_number
returns-in-LevelOrder c = rw c.in-LevelOrder.is c.le_at-in-LevelOrder.ensures

pub returns-in-IntegerX : goal.returns-in-IntegerX
unfolding get_number
returns-in-IntegerX c = rw c.in-IntegerX.is c.int_at.ensures

pub returns-in-LengthX : goal.returns-in-LengthX
unfolding get_number
returns-in-LengthX c = rw c.in-LengthX.is c.pkg_length_at.ensures

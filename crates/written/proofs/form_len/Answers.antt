-- `written::form_len` meets its contract, by the form of the numbers. Assumes nothing.
use mathlib.Core.Path.{refl, sym}
use Rattle.octets.specs.Bytes.{le}
use Rattle.octets.specs.Laws.{le-length}
use Rattle.fields.specs.Written.{form_bytes}
use Rattle.written.proofs.form_len.Goals as goal

pub returns-in-Digits : goal.returns-in-Digits
unfolding form_bytes le
returns-in-Digits c = λ a. rw c.in-Digits.is (sym (le-length _ _))

pub returns-in-MethodFlags : goal.returns-in-MethodFlags
unfolding form_bytes le
returns-in-MethodFlags c = λ a. rw c.in-MethodFlags.is refl

pub returns-in-LevelOrder : goal.returns-in-LevelOrder
unfolding form_bytes le
returns-in-LevelOrder c = λ a. rw c.in-LevelOrder.is refl

pub returns-in-FieldFlags : goal.returns-in-FieldFlags
unfolding form_bytes le
returns-in-FieldFlags c = λ a. rw c.in-FieldFlags.is refl

pub returns-in-IntegerX : goal.returns-in-IntegerX
unfolding form_bytes le
returns-in-IntegerX c = λ a. rw c.in-IntegerX.is c.int_len.ensures

pub returns-in-LengthX : goal.returns-in-LengthX
unfolding form_bytes le
returns-in-LengthX c = λ a. rw c.in-LengthX.is c.pkg_length_len.ensures.1

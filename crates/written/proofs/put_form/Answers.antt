-- `written::put_form` meets its contract, by the form of the numbers.
use mathlib.Core.Path.{◌≡◌}
use Prim.Native.Nat.{ℕ}
use native.Mathlib.Omega.{arith}
use lib.Dec.{T}
use Rattle.octets.specs.Bytes.{le}
use Rattle.octets.specs.Filling.{wrote_as}
use Rattle.grammar.specs.declared.Numbers.{Numbers}
use Rattle.fields.specs.Written.{form_bytes}
use Rattle.written.specs.Fine.{narrow}
use Rattle.written.specs.FineLaws.{digits-held, flags-held, order-held, order-bytes, length-held}
use Rattle.written.proofs.put_form.Goals as goal

as_told : (a x : ℕ) {f g : Numbers} → f ≡ g → T (narrow f a x) → T (narrow g a x)
as_told a x e t = rw e at t

pub put_digits-requires : goal.put_digits-requires
unfolding form_bytes le
put_digits-requires c =
    let e = c.in-Digits.is in
    (digits-held c.args.a c.args.x _ _ (rw e at c.requires.1), rw e at c.requires.0)

pub overflow_mul-x : goal.overflow_mul-x
unfolding form_bytes le
overflow_mul-x c = omega (arith, (flags-held c.args.a c.args.x (as_told c.args.a c.args.x c.in-MethodFlags.is c.requires.1)))

pub overflow_add-a : goal.overflow_add-a
unfolding form_bytes le
overflow_add-a c = omega (arith, (flags-held c.args.a c.args.x (as_told c.args.a c.args.x c.in-MethodFlags.is c.requires.1)))

pub put_le-requires : goal.put_le-requires
unfolding form_bytes le
put_le-requires c = rw c.in-MethodFlags.is at c.requires.0

pub overflow_mul-a : goal.overflow_mul-a
unfolding form_bytes le
overflow_mul-a c = omega (arith, (order-held c.args.a c.args.x (as_told c.args.a c.args.x c.in-LevelOrder.is c.requires.1)))

pub overflow_add-x : goal.overflow_add-x
unfolding form_bytes le
overflow_add-x c = omega (arith, (order-held c.args.a c.args.x (as_told c.args.a c.args.x c.in-LevelOrder.is c.requires.1)))

pub put_le-requires-in-LevelOrder : goal.put_le-requires-in-LevelOrder
unfolding form_bytes le
put_le-requires-in-LevelOrder c = rw c.in-LevelOrder.is at c.requires.0

pub put_le-requires-in-FieldFlags : goal.put_le-requires-in-FieldFlags
unfolding form_bytes le
put_le-requires-in-FieldFlags c = rw c.in-FieldFlags.is at c.requires.0

pub put_int-requires : goal.put_int-requires
unfolding form_bytes le
put_int-requires c = rw c.in-IntegerX.is at c.requires.0

pub create_pkg_length-requires : goal.create_pkg_length-requires
unfolding form_bytes le
create_pkg_length-requires c =
    let e = c.in-LengthX.is in
    (rw e at c.requires.0, length-held c.args.a c.args.x (rw e at c.requires.1))

pub returns-in-Digits : goal.returns-in-Digits
unfolding form_bytes le
returns-in-Digits c = rw c.in-Digits.is c.put_digits.ensures

pub returns-in-MethodFlags : goal.returns-in-MethodFlags
unfolding form_bytes le
returns-in-MethodFlags c = rw c.in-MethodFlags.is c.put_le.ensures

pub returns-in-LevelOrder : goal.returns-in-LevelOrder
unfolding form_bytes le
returns-in-LevelOrder c =
    rw c.in-LevelOrder.is (wrote_as (order-bytes c.args.a c.args.x (as_told c.args.a c.args.x c.in-LevelOrder.is c.requires.1)) c.put_le-in-LevelOrder.ensures)

pub returns-in-FieldFlags : goal.returns-in-FieldFlags
unfolding form_bytes le
returns-in-FieldFlags c = rw c.in-FieldFlags.is c.put_le-in-FieldFlags.ensures

pub returns-in-IntegerX : goal.returns-in-IntegerX
unfolding form_bytes le
returns-in-IntegerX c = rw c.in-IntegerX.is c.put_int.ensures

pub returns-in-LengthX : goal.returns-in-LengthX
unfolding form_bytes le
returns-in-LengthX c = rw c.in-LengthX.is c.create_pkg_length.ensures

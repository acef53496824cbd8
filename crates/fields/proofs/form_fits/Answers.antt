-- `fields::form_fits` meets its contract: only a field's flags are looked at. Assumes nothing.
use mathlib.Core.Path.{◌≡◌, refl}
use mathlib.Core.Bool.{true}
use Prim.Native.Nat.{ℕ}
use Rattle.grammar.specs.declared.Numbers.{Numbers}
use Rattle.grammar.specs.declared.Numbers.TheVariants.{Digits, MethodFlags, LevelOrder, FieldFlags, IntegerX, LengthX}
use Rattle.fields.specs.Fields.{form_fits}
use Rattle.fields.proofs.form_fits.Goals as goal

other : (n : Numbers) (a : ℕ) → (n ≡ FieldFlags → ⊥) → true ≡ form_fits n a
unfolding form_fits
other (Digits w b) a h = refl
other MethodFlags a h = refl
other LevelOrder a h = refl
other FieldFlags a h = absurd (h refl)
other IntegerX a h = refl
other LengthX a h = refl

pub returns-in-FieldFlags : goal.returns-in-FieldFlags
unfolding form_fits
returns-in-FieldFlags c = rw c.in-FieldFlags.is c.flags_fit.ensures

pub returns-in_default : goal.returns-in_default
unfolding form_fits
returns-in_default c = other c.args.numbers _ c.in_default.not-FieldFlags

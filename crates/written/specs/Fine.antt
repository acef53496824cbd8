-- Fields that can be written: those that no refusal in 5 and 6 keeps out, of a row whose limits fit the bytes of its numbers.
-- Assumes nothing.
use Rattle.std.specs.Prelude.{Bool, true, ◌&&◌, List, ℕ, ◌+◌, ◌*◌, ◌^◌, T, leb, ltb}
use Rattle.grammar.specs.declared.Numbers.{Numbers}
use Rattle.grammar.specs.declared.Numbers.TheVariants.{Digits, MethodFlags, LevelOrder, FieldFlags, IntegerX, LengthX}
use Rattle.grammar.specs.declared.Row.{Row}
use Rattle.grammar.specs.Forest.{Fields}
use Rattle.fields.specs.Fields.{in_range, spelled}

abbrev pub fields_of : List ℕ → ℕ → ℕ → Fields
fields_of t a x = record { text = t; a = a; x = x }

-- a and x are small enough for their form: the limits of a row, and so all numbers up to them
unfoldable pub narrow : Numbers → ℕ → ℕ → Bool
narrow (Digits n base) a x = leb n 8 && ltb (base + a) (2 ^ 32)
narrow MethodFlags a x = leb (a + 8 * x) 255
narrow LevelOrder a x = leb a 65535 && leb x 255
narrow FieldFlags a x = true
narrow IntegerX a x = true
narrow LengthX a x = leb x 268435455

abbrev pub Fine : Row → Fields → Type 0
Fine r v = T (narrow r.numbers r.alimit r.xlimit) × T (in_range r v.text v.a v.x) × T (spelled r v.text)

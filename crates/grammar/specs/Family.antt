-- Which family of kinds begins with a byte: one answer for each of the 256 leading bytes, found from the rows of the kinds.
-- Document 01, "Bytes" ("One table of 256 entries"); ACPI 6.4, 20.3 (AML Byte Stream Byte Values).
-- Assumes nothing.
use Rattle.std.specs.Prelude.{Bool, false, ◌&&◌, ◌||◌, cond, List, [], ◌∷◌, ℕ, ◌+◌, ◌/◌, ◌%◌, eqb, ltb, leb}
use Rattle.path.specs.Get.{name_start}
use Rattle.grammar.specs.declared.Place.TheVariants.{FieldEntry}
use Rattle.grammar.specs.declared.Text.{Text}
use Rattle.grammar.specs.declared.Text.TheVariants.{Unused, PathText, SegmentText, Ascii, AnyBytes, EisaText, UuidText, DescriptorText}
use Rattle.grammar.specs.declared.Numbers.{Numbers}
use Rattle.grammar.specs.declared.Numbers.TheVariants.{Digits, MethodFlags, LevelOrder, FieldFlags, IntegerX, LengthX}
use Rattle.grammar.specs.declared.Row.{Row}
use Rattle.grammar.specs.Kinds.{stands, normal_kinds}

-- an integer's: 00, 01, or one of the four prefixes
unfoldable pub begins_integer : ℕ → Bool
begins_integer b = eqb b 0x00 || eqb b 0x01 || eqb b 0x0A || eqb b 0x0B || eqb b 0x0C || eqb b 0x0E

-- of the texts that are read, only a path stands first
unfoldable pub begins_text : Text → ℕ → Bool
begins_text Unused b = false
begins_text PathText b = name_start b
begins_text SegmentText b = false
begins_text Ascii b = false
begins_text AnyBytes b = false
begins_text EisaText b = false
begins_text UuidText b = false
begins_text DescriptorText b = false

unfoldable pub begins_numbers : Numbers → ℕ → ℕ → Bool
begins_numbers (Digits n base) limit b = eqb n 1 && leb base b && leb b (base + limit)
begins_numbers MethodFlags limit b = false
begins_numbers LevelOrder limit b = false
begins_numbers FieldFlags limit b = false
begins_numbers IntegerX limit b = begins_integer b
begins_numbers LengthX limit b = false

-- a term begins with its opcode, or with its text, or with its numbers; a field's entries are not looked up by their first byte
unfoldable pub starts : Row → ℕ → Bool
starts r b =
    cond (stands r.places FieldEntry) false
    (cond (eqb r.ops 0) (begins_text r.text b || begins_numbers r.numbers r.alimit b)
    (eqb b (r.op % 256)))

-- a family's name: the kind, or the first byte of the kinds with two (5B, 92); 0 is no family
unfoldable pub family_name : Row → ℕ
family_name r = cond (ltb r.kind 256) r.kind (r.kind / 256)

unfoldable pub family_in : List Row → ℕ → ℕ
family_in [] b = 0
family_in (r ∷ rs) b = cond (starts r b) (family_name r) (family_in rs b)

unfoldable pub family_of : ℕ → ℕ
family_of b = family_in normal_kinds b

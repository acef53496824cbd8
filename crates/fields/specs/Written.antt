-- How a term's text and numbers are written, by the columns of its kind, the text first.
-- Document 01, "Bytes"; ACPI 6.4, 20.2 (AML Grammar Definition).
-- Assumes nothing.
use Rattle.std.specs.Prelude.{List, [], ◌∷◌, ◌++◌, ℕ, ◌+◌, ◌*◌}
use Rattle.octets.specs.Bytes.{le}
use Rattle.number.specs.Integer.{integer}
use Rattle.number.specs.PkgLength.{field_length}
use Rattle.path.specs.Path.{path_bytes}
use Rattle.ident.specs.Ident.{eisa_id, uuid}
use Rattle.descriptor.specs.Descriptor as descriptors
use Rattle.grammar.specs.declared.Text.{Text}
use Rattle.grammar.specs.declared.Text.TheVariants.{Unused, PathText, SegmentText, Ascii, AnyBytes, EisaText, UuidText, DescriptorText}
use Rattle.grammar.specs.declared.Numbers.{Numbers}
use Rattle.grammar.specs.declared.Numbers.TheVariants.{Digits, MethodFlags, LevelOrder, FieldFlags, IntegerX, LengthX}
use Rattle.grammar.specs.declared.Row.{Row}
use Rattle.grammar.specs.Forest.{Fields}

-- ── Text: a string ends in 00; an EISA id is written as an integer, a UUID as a buffer, a descriptor by its own row
unfoldable pub text_bytes : Text → ℕ → Fields → List ℕ
text_bytes Unused kind v = []
text_bytes PathText kind v = path_bytes v.text
text_bytes SegmentText kind v = v.text
text_bytes Ascii kind v = v.text ++ (0 ∷ [])
text_bytes AnyBytes kind v = v.text
text_bytes EisaText kind v = integer (eisa_id v.text)
text_bytes UuidText kind v = uuid v.text
text_bytes DescriptorText kind v = descriptors.descriptor (descriptors.row_of kind) v.text v.a v.x

-- ── Numbers: a method's flags are args + 8 times serialized; a power resource has its level, then its order in two bytes
unfoldable pub form_bytes : Numbers → ℕ → ℕ → List ℕ
form_bytes (Digits n base) a x = le n (base + a)
form_bytes MethodFlags a x = le 1 (a + 8 * x)
form_bytes LevelOrder a x = le 1 x ++ le 2 a
form_bytes FieldFlags a x = le 1 a
form_bytes IntegerX a x = integer x
form_bytes LengthX a x = field_length x

-- ── Both
unfoldable pub field_bytes : Row → Fields → List ℕ
field_bytes r v = text_bytes r.text r.kind v ++ form_bytes r.numbers v.a v.x

-- What a term's text and its numbers a and x may be, by the columns of its kind: out of range is 5, a malformed text 6.
-- Document 01, "Kinds" and "Refusal numbers".
-- Assumes nothing.
use Rattle.std.specs.Prelude.{Bool, true, ◌&&◌, List, ℕ, ◌/◌, ◌%◌, eqb, leb, length}
use Rattle.octets.specs.Bytes.{every}
use Rattle.path.specs.Path.{is_path, segment}
use Rattle.ident.specs.Ident.{is_eisa, is_uuid}
use Rattle.descriptor.specs.Descriptor as descriptors
use Rattle.grammar.specs.declared.Text.{Text}
use Rattle.grammar.specs.declared.Text.TheVariants.{Unused, PathText, SegmentText, Ascii, AnyBytes, EisaText, UuidText, DescriptorText}
use Rattle.grammar.specs.declared.Numbers.{Numbers}
use Rattle.grammar.specs.declared.Numbers.TheVariants.{Digits, MethodFlags, LevelOrder, FieldFlags, IntegerX, LengthX}
use Rattle.grammar.specs.declared.Row.{Row}

-- ── 5: out of range
-- access 0-5, plus 16 for lock, plus 32 times an update rule 0-2
unfoldable pub flags_fit : ℕ → Bool
flags_fit a = leb (a % 16) 5 && leb (a / 32) 2

unfoldable pub form_fits : Numbers → ℕ → Bool
form_fits (Digits n base) a = true
form_fits MethodFlags a = true
form_fits LevelOrder a = true
form_fits FieldFlags a = flags_fit a
form_fits IntegerX a = true
form_fits LengthX a = true

unfoldable pub numbers_fit : Row → ℕ → ℕ → Bool
numbers_fit r a x = leb a r.alimit && leb x r.xlimit && form_fits r.numbers a

-- a text that is not used is empty; a descriptor's numbers, and those in its text, have a row of their own
unfoldable pub text_fits : Text → ℕ → List ℕ → ℕ → ℕ → Bool
text_fits Unused kind t a x = eqb (length t) 0
text_fits PathText kind t a x = true
text_fits SegmentText kind t a x = true
text_fits Ascii kind t a x = true
text_fits AnyBytes kind t a x = true
text_fits EisaText kind t a x = true
text_fits UuidText kind t a x = true
text_fits DescriptorText kind t a x = descriptors.in_range (descriptors.row_of kind) t a x

unfoldable pub in_range : Row → List ℕ → ℕ → ℕ → Bool
in_range r t a x = numbers_fit r a x && text_fits r.text r.kind t a x

-- ── 6: malformed, or of wrong length
unfoldable pub ascii : ℕ → Bool
ascii b = leb 1 b && leb b 127

unfoldable pub text_spelled : Text → ℕ → List ℕ → Bool
text_spelled Unused kind t = true
text_spelled PathText kind t = is_path t
text_spelled SegmentText kind t = segment t
text_spelled Ascii kind t = every ascii t
text_spelled AnyBytes kind t = true
text_spelled EisaText kind t = is_eisa t
text_spelled UuidText kind t = is_uuid t
text_spelled DescriptorText kind t = descriptors.spelled (descriptors.row_of kind) t

unfoldable pub spelled : Row → List ℕ → Bool
spelled r t = text_spelled r.text r.kind t

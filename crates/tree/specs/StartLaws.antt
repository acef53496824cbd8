-- What the fields of a term without an opcode begin with: a byte by which its kind can be told.
-- Assumes nothing.
use Rattle.std.specs.Prelude.{◌≡◌, refl, Bool, true, false, ◌&&◌, List, [], ◌∷◌, ◌++◌, ℕ, zero, suc, ◌+◌, ◌%◌, ◌≤◌, ◌<◌, T, eqb, leb}
use Rattle.std.proofs.Common.{ap, arith, eqb→eq, leb→le, le→leb, ltb→lt}
use Rattle.octets.specs.Bytes.{every, is_byte, le}
use Rattle.octets.specs.Tests.{and_left, and_right, and_both, or_case}
use Rattle.number.specs.Integer.{integer, prefix}
use Rattle.number.specs.IntegerLaws.{by_form, by_width}
use Rattle.path.specs.Path.{lead_name, segment, path_bytes, is_path}
use Rattle.path.specs.Get.{name_start}
use Rattle.path.specs.PathLaws.{path-head, path-bytes-are}
use Rattle.grammar.specs.declared.Text.{Text}
use Rattle.grammar.specs.declared.Text.TheVariants.{Unused, PathText, SegmentText, Ascii, AnyBytes, EisaText, UuidText, DescriptorText}
use Rattle.grammar.specs.declared.Numbers.{Numbers}
use Rattle.grammar.specs.declared.Numbers.TheVariants.{Digits, MethodFlags, LevelOrder, FieldFlags, IntegerX, LengthX}
use Rattle.grammar.specs.declared.Row.{Row}
use Rattle.grammar.specs.Family.{begins_integer, begins_numbers}
use Rattle.grammar.specs.Forest.{Fields}
use Rattle.fields.specs.Fields.{numbers_fit, in_range, text_spelled, spelled}
use Rattle.fields.specs.Written.{text_bytes, form_bytes, field_bytes}

-- it begins with a byte that passes the test
abbrev pub Start : (ℕ → Bool) → List ℕ → Type 0
Start f x = (b : ℕ) × (bs : List ℕ) × (x ≡ b ∷ bs) × T (f b) × (b < 256)

-- ── Numbers: an integer, or one byte that holds a alone
unfoldable pub opens_form : Numbers → ℕ → Bool
opens_form (Digits n base) alimit = eqb n 1 && leb (base + alimit) 255
opens_form MethodFlags alimit = false
opens_form LevelOrder alimit = false
opens_form FieldFlags alimit = false
opens_form IntegerX alimit = true
opens_form LengthX alimit = false

short-start : (x : ℕ) → x < 2 → T (begins_integer x)
unfolding begins_integer
short-start zero h = tt
short-start (suc zero) h = tt
short-start (suc (suc x)) h = absurd (omega arith)

integer-start : (x : ℕ) → Start begins_integer (integer x)
unfolding begins_integer prefix
integer-start x =
    by_form (Start begins_integer) x
    (λ h. (x, [], refl, short-start x h, omega arith))
    λ h. by_width (λ w. Start begins_integer (prefix w ∷ le w x)) x (λ l. (0x0A, _, refl, tt, omega arith)) (λ l. (0x0B, _, refl, tt, omega arith)) (λ l. (0x0C, _, refl, tt, omega arith)) (0x0E, _, refl, tt, omega arith)

digits-start : (n base alimit a : ℕ) → n ≡ 1 → base + alimit ≤ 255 → a ≤ alimit → Start (begins_numbers (Digits n base) alimit) (le n (base + a))
unfolding begins_numbers le
digits-start n base alimit a e l h =
    let q : (base + a) % 256 ≡ base + a = omega arith in
    rw (e, q) (base + a, [], refl, and_both (leb base (base + a)) _ (le→leb base (base + a) (omega arith)) (le→leb (base + a) (base + alimit) (omega arith)), omega arith)

form_start : (f : Numbers) (alimit a x : ℕ) → T (opens_form f alimit) → a ≤ alimit → Start (begins_numbers f alimit) (form_bytes f a x)
unfolding opens_form form_bytes begins_numbers
form_start (Digits n base) alimit a x o h =
    digits-start n base alimit a (eqb→eq n 1 (and_left (eqb n 1) _ o)) (leb→le (base + alimit) 255 (and_right (eqb n 1) _ o)) h
form_start MethodFlags alimit a x o h = absurd o
form_start LevelOrder alimit a x o h = absurd o
form_start FieldFlags alimit a x o h = absurd o
form_start IntegerX alimit a x o h = integer-start x
form_start LengthX alimit a x o h = absurd o

-- ── Text: a path, a segment, or none and then the numbers
unfoldable pub opens_text : Text → Numbers → ℕ → Bool
opens_text Unused f alimit = opens_form f alimit
opens_text PathText f alimit = true
opens_text SegmentText f alimit = true
opens_text Ascii f alimit = false
opens_text AnyBytes f alimit = false
opens_text EisaText f alimit = false
opens_text UuidText f alimit = false
opens_text DescriptorText f alimit = false

unfoldable pub first_of : Text → Numbers → ℕ → ℕ → Bool
first_of Unused f alimit b = begins_numbers f alimit b
first_of PathText f alimit b = name_start b
first_of SegmentText f alimit b = lead_name b
first_of Ascii f alimit b = false
first_of AnyBytes f alimit b = false
first_of EisaText f alimit b = false
first_of UuidText f alimit b = false
first_of DescriptorText f alimit b = false

path-start : (t x : List ℕ) → T (is_path t) → Start name_start (path_bytes t ++ x)
unfolding every
path-start t x h =
    let (b, r, q, s) = path-head t h in
    let small : T (every is_byte (b ∷ r)) = rw q at (path-bytes-are t h) in
    (b, r ++ x, ap (λ y. y ++ x) q, s, ltb→lt b 256 (and_left (is_byte b) (every is_byte r) small))

lead_small : (b : ℕ) → T (lead_name b) → b < 256
unfolding lead_name
lead_small b t =
    or_case (leb 65 b && leb b 90) (eqb b 95) t (λ s. omega (arith, leb→le b 90 (and_right (leb 65 b) (leb b 90) s))) (λ s. omega (arith, eqb→eq b 95 s))

segment-start : (s x : List ℕ) → T (segment s) → Start lead_name (s ++ x)
unfolding segment
segment-start [] x t = absurd t
segment-start (b ∷ s) x t = let l : T (lead_name b) = search (and_left, and_right) in (b, s ++ x, refl, l, lead_small b l)

text-start : (y : Text) (f : Numbers) (alimit kind : ℕ) (v : Fields) → T (opens_text y f alimit) → v.a ≤ alimit → T (text_spelled y kind v.text)
    → Start (first_of y f alimit) (text_bytes y kind v ++ form_bytes f v.a v.x)
unfolding opens_text first_of text_spelled text_bytes
text-start Unused f alimit kind v o h t = form_start f alimit v.a v.x o h
text-start PathText f alimit kind v o h t = path-start v.text _ t
text-start SegmentText f alimit kind v o h t = segment-start v.text _ t
text-start Ascii f alimit kind v o h t = absurd o
text-start AnyBytes f alimit kind v o h t = absurd o
text-start EisaText f alimit kind v o h t = absurd o
text-start UuidText f alimit kind v o h t = absurd o
text-start DescriptorText f alimit kind v o h t = absurd o

-- ── The fields of a row
unfoldable pub opens : Row → Bool
opens r = opens_text r.text r.numbers r.alimit

unfoldable pub first : Row → ℕ → Bool
first r b = first_of r.text r.numbers r.alimit b

pub fields-start : (r : Row) (v : Fields) → T (opens r) → T (in_range r v.text v.a v.x) → T (spelled r v.text) → Start (first r) (field_bytes r v)
unfolding opens first field_bytes in_range numbers_fit spelled
fields-start r v o i s =
    let h : v.a ≤ r.alimit = leb→le v.a r.alimit (search (and_left, and_right)) in
    text-start r.text r.numbers r.alimit r.kind v o h s

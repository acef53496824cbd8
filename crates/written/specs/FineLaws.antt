-- Laws of fields that can be written: every row is narrow, what the tests of a row say of text and numbers, and how two parts are written.
-- For the proofs of this crate and for the encoder. Assumes nothing.
use Rattle.std.specs.Prelude.{◌≡◌, refl, ℕ, ◌+◌, ◌*◌, ◌^◌, ◌≤◌, ◌<◌, T, leb, length}
use Rattle.std.proofs.Common.{◌∙◌, ap, arith, le→leb, lt→ltb, length-append}
use Rattle.std.proofs.Math.Option.{some}
use mathlib.Core.List.{List, [], ◌∷◌, ◌++◌, flatten, append-nil}
use Rattle.std.proofs.Math.Dec.{leb→le, ltb→lt}
use Rattle.octets.specs.Tests.{and_left, and_right, and_both}
use Rattle.octets.specs.Bytes.{le}
use Rattle.octets.specs.Laws.{le_join}
use Rattle.octets.specs.Filling.{Writing, writing_start}
use Rattle.number.specs.Integer.{integer, prefix, width}
use Rattle.number.specs.PkgLength.{create_pkg_length, length_bytes, following}
use Rattle.number.specs.Buffer.{buffer_front}
use Rattle.number.specs.BufferLaws.{buffer-front}
use Rattle.ident.specs.Ident.{uuid_bytes, uuid}
use Rattle.ident.specs.IdentLaws.{uuid-length}
use Rattle.descriptor.specs.Descriptor as descriptors
use Rattle.descriptor.specs.DescriptorLaws.{Valid}
use Rattle.grammar.specs.declared.Numbers.{Numbers}
use Rattle.grammar.specs.declared.Numbers.TheVariants.{Digits, MethodFlags, LevelOrder, FieldFlags, IntegerX, LengthX}
use Rattle.grammar.specs.declared.Text.{Text}
use Rattle.grammar.specs.declared.Text.TheVariants.{DescriptorText}
use Rattle.grammar.specs.declared.Row.{Row}
use Rattle.grammar.specs.Kinds.{kinds, normal_kinds, other_kinds, row_of}
use Rattle.grammar.specs.KindLaws.{every_row, rule}
use Rattle.grammar.specs.Forest.{Fields}
use Rattle.fields.specs.Fields.{numbers_fit, text_fits, in_range, text_spelled, spelled}
use Rattle.fields.specs.Written.{text_bytes, form_bytes, field_bytes}
use Rattle.written.specs.Fine.{fields_of, narrow, Fine}

-- ── Every row is narrow
narrow_all : T (every_row (λ r. narrow r.numbers r.alimit r.xlimit) kinds)
unfolding every_row kinds normal_kinds other_kinds narrow
narrow_all = tt

pub row-narrow : (k : ℕ) {r : Row} → row_of k ≡ some r → T (narrow r.numbers r.alimit r.xlimit)
row-narrow k h = rule (λ r. narrow r.numbers r.alimit r.xlimit) narrow_all k h

-- and so are numbers up to its limits
narrow_below : (f : Numbers) (m n a x : ℕ) → T (narrow f m n) → a ≤ m → x ≤ n → T (narrow f a x)
unfolding narrow
narrow_below (Digits w base) m n a x t h k =
    let l : base + a < 2 ^ 32 = omega (arith, ltb→lt (base + m) (2 ^ 32) (and_right (leb w 8) _ t)) in
    and_both (leb w 8) _ (and_left (leb w 8) _ t) (lt→ltb (base + a) (2 ^ 32) l)
narrow_below MethodFlags m n a x t h k = le→leb (a + 8 * x) 255 (omega (arith, leb→le (m + 8 * n) 255 t))
narrow_below LevelOrder m n a x t h k =
    let l : a ≤ 65535 = omega (arith, leb→le m 65535 (and_left (leb m 65535) (leb n 255) t)) in
    let p : x ≤ 255 = omega (arith, leb→le n 255 (and_right (leb m 65535) (leb n 255) t)) in
    and_both (leb a 65535) _ (le→leb a 65535 l) (le→leb x 255 p)
narrow_below FieldFlags m n a x t h k = tt
narrow_below IntegerX m n a x t h k = tt
narrow_below LengthX m n a x t h k = le→leb x 268435455 (omega (arith, leb→le n 268435455 t))

-- ── What the tests say
module _ (r : Row) (v : Fields) (h : Fine r v) where
  pub fine-narrow : T (narrow r.numbers v.a v.x)
  unfolding in_range numbers_fit
  fine-narrow =
      let t = h.1 in
      let l : v.a ≤ r.alimit = leb→le v.a r.alimit (search (and_left, and_right)) in
      let m : v.x ≤ r.xlimit = leb→le v.x r.xlimit (search (and_left, and_right)) in
      narrow_below r.numbers r.alimit r.xlimit v.a v.x h.0 l m

  pub fine-text : T (text_fits r.text r.kind v.text v.a v.x)
  unfolding in_range
  fine-text = let t = h.1 in search (and_left, and_right)

  pub fine-spelled : T (text_spelled r.text r.kind v.text)
  unfolding spelled
  fine-spelled = h.2

-- columns that were looked up one by one
pub record Columns (r : Row) (t : Text) (k : ℕ) (f : Numbers) : Type 0 where
  pub text : t ≡ r.text
  pub kind : k ≡ r.kind
  pub numbers : f ≡ r.numbers

module _ {r : Row} {t : Text} {k : ℕ} {f : Numbers} (e : Columns r t k f) (v : Fields) (h : Fine r v) where
  pub columns-text : T (text_fits t k v.text v.a v.x)
  columns-text = rw (e.text, e.kind) (fine-text r v h)

  pub columns-spelled : T (text_spelled t k v.text)
  columns-spelled = rw (e.text, e.kind) (fine-spelled r v h)

  pub columns-narrow : T (narrow f v.a v.x)
  columns-narrow = rw e.numbers (fine-narrow r v h)

pub columns-bytes : {r : Row} {t : Text} {k : ℕ} {f : Numbers} → Columns r t k f → (v : Fields) → field_bytes r v ≡ text_bytes t k v ++ form_bytes f v.a v.x
unfolding field_bytes
columns-bytes e v = rw (e.text, e.kind, e.numbers) refl

pub valid_text : (kind : ℕ) {t : List ℕ} {a x : ℕ} → T (text_fits DescriptorText kind t a x) → T (text_spelled DescriptorText kind t)
    → Valid (descriptors.row_of kind) t a x
unfolding text_fits text_spelled
valid_text kind h s = record { ranged = h; spelt = s }

-- ── Sizes
-- r bytes are a text of this form, whatever the numbers beside it; and numbers of this form, whatever a is
abbrev pub TextTakes : Text → ℕ → List ℕ → ℕ → Type 0
TextTakes c kind t r = (a x : ℕ) → T (text_fits c kind t a x) → r ≡ length (text_bytes c kind (fields_of t a x))

abbrev pub FormTakes : Numbers → ℕ → ℕ → Type 0
FormTakes n x r = (a : ℕ) → r ≡ length (form_bytes n a x)

-- ── A UUID's buffer, and how many bytes it is
pub uuid-front : (t : List ℕ) → uuid t ≡ buffer_front 16 ++ uuid_bytes t
unfolding uuid
uuid-front t = buffer-front (uuid_bytes t) ∙ ap (λ (n : ℕ). buffer_front n ++ uuid_bytes t) (uuid-length t)

pub uuid-size : (t : List ℕ) → length (uuid t) ≡ 20
unfolding buffer_front integer prefix width create_pkg_length length_bytes following le
uuid-size t = ap length (uuid-front t) ∙ rw (length-append, uuid-length t) refl

-- ── Two writers in a row
pub two-start : {bs : List ℕ} (p q first : List ℕ) → bs ≡ p ++ q → length bs ≤ length first → Writing bs (p ∷ q ∷ []) 0 first first
unfolding flatten
two-start p q first e room = writing_start first (record { is = rw append-nil e }) room

-- ── What a form asks of its numbers
module _ (a x : ℕ) where
  pub digits-held : (n base : ℕ) → T (narrow (Digits n base) a x) → base + a < 2 ^ 32
  unfolding narrow
  digits-held n base t = ltb→lt (base + a) (2 ^ 32) (and_right (leb n 8) _ t)

  pub flags-held : T (narrow MethodFlags a x) → a + 8 * x ≤ 255
  unfolding narrow
  flags-held t = leb→le (a + 8 * x) 255 t

  pub order-held : T (narrow LevelOrder a x) → (a ≤ 65535) × (x ≤ 255)
  unfolding narrow
  order-held t = (leb→le a 65535 (and_left (leb a 65535) (leb x 255) t), leb→le x 255 (and_right (leb a 65535) (leb x 255) t))

  -- level and order are one number of three bytes
  pub order-bytes : T (narrow LevelOrder a x) → form_bytes LevelOrder a x ≡ le 3 (x + 256 * a)
  unfolding form_bytes
  order-bytes t = le_join 1 2 x a (omega (arith, (order-held t).1))

  pub length-held : T (narrow LengthX a x) → x ≤ 268435455
  unfolding narrow
  length-held t = leb→le x 268435455 t

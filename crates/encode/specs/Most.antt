-- How many bytes a term takes at most beside those of its children: 96 and its text's, whatever its fields are.
-- Assumes nothing.
use Rattle.std.specs.Prelude.{◌≡◌, refl, Bool, ◌&&◌, List, [], ◌++◌, ℕ, ◌+◌, ◌*◌, ◌≤◌, T, leb}
use Rattle.std.proofs.Math.Bool.{true, false, cond}
use Rattle.std.proofs.Math.Option.{Option, none, some}
use Rattle.std.proofs.Common.{arith}
use Rattle.std.proofs.Math.Dec.{leb→le}
use Rattle.std.proofs.Math.ListN.{length, length-append}
use Rattle.octets.specs.Bytes.{le}
use Rattle.octets.specs.Laws.{le-length}
use Rattle.octets.specs.Tests.{and_left, and_right}
use Rattle.number.specs.IntegerLaws.{integer-most}
use Rattle.number.specs.PkgLength.{pkg_length}
use Rattle.number.specs.PkgLengthLaws.{pkg_length-length, following-most}
use Rattle.number.specs.BufferLaws.{buffer-front, buffer-front-most}
use Rattle.path.specs.PathLaws.{path-most}
use Rattle.ident.specs.Ident.{eisa_id, uuid, uuid_bytes}
use Rattle.ident.specs.IdentLaws.{uuid-length}
use Rattle.descriptor.specs.Descriptor as descriptors
use Rattle.descriptor.specs.Columns.{columns_of, size_of}
use Rattle.descriptor.specs.DescriptorLaws.{solid-row}
use Rattle.grammar.specs.declared.Text.{Text}
use Rattle.grammar.specs.declared.Text.TheVariants.{Unused, PathText, SegmentText, Ascii, AnyBytes, EisaText, UuidText, DescriptorText}
use Rattle.grammar.specs.declared.Numbers.{Numbers}
use Rattle.grammar.specs.declared.Numbers.TheVariants.{Digits, MethodFlags, LevelOrder, FieldFlags, IntegerX, LengthX}
use Rattle.grammar.specs.declared.Row.{Row}
use Rattle.grammar.specs.Kinds.{opcode, normal_kinds, other_kinds, kinds, row_of, row_in, no_row}
use Rattle.grammar.specs.KindLaws.{every_row, rule}
use Rattle.grammar.specs.Forest.{Fields}
use Rattle.fields.specs.Written.{text_bytes, form_bytes, field_bytes}
use Rattle.tree.specs.Bytes.{back, behind, term_bytes}
use Rattle.frame.specs.Frame.{length_of, frame_of, front_of, before_of, body_size, term-length}
use Rattle.frame.specs.FrameLaws.{back-most, front-most}

-- ── Fields
descriptor-few : (kind : ℕ) (v : Fields) → length (descriptors.descriptor (descriptors.row_of kind) v.text v.a v.x) ≤ 46 + length v.text
unfolding descriptors.descriptor size_of columns_of
descriptor-few kind v =
    let r = descriptors.row_of kind in
    let e₁ = le-length r.a v.a in
    let e₂ = le-length r.x v.x in
    let e₃ = le-length r.zeros 0 in
    let e₄ = le-length r.space (descriptors.range_length r.space v.text) in
    simp length-append (omega (arith, (solid-row kind).size))

text-few : (t : Text) (kind : ℕ) (v : Fields) → length (text_bytes t kind v) ≤ 46 + length v.text
unfolding text_bytes uuid
text-few Unused kind v = omega arith
text-few PathText kind v = omega (arith, path-most v.text)
text-few SegmentText kind v = omega arith
text-few Ascii kind v = simp length-append (omega arith)
text-few AnyBytes kind v = omega arith
text-few EisaText kind v = omega (arith, integer-most (eisa_id v.text))
text-few UuidText kind v = rw (buffer-front (uuid_bytes v.text), length-append) (omega (arith, uuid-length v.text, buffer-front-most (length (uuid_bytes v.text))))
text-few DescriptorText kind v = descriptor-few kind v

-- the bytes of a row's opcode and of its number are few
unfoldable pub slim_form : Numbers → Bool
slim_form (Digits n base) = leb n 9
slim_form MethodFlags = true
slim_form LevelOrder = true
slim_form FieldFlags = true
slim_form IntegerX = true
slim_form LengthX = true

unfoldable pub slim : Row → Bool
slim r = leb r.ops 2 && slim_form r.numbers

form_few : (f : Numbers) (a x : ℕ) → T (slim_form f) → length (form_bytes f a x) ≤ 9
unfolding form_bytes slim_form
form_few (Digits n base) a x t = rw (le-length n (base + a)) (leb→le n 9 t)
form_few MethodFlags a x t = rw (le-length 1 (a + 8 * x)) (omega arith)
form_few LevelOrder a x t = rw length-append (omega (arith, le-length 1 x, le-length 2 a))
form_few FieldFlags a x t = rw (le-length 1 a) (omega arith)
form_few IntegerX a x t = integer-most x
form_few LengthX a x t = omega (arith, pkg_length-length false x, following-most x)

-- ── Terms: what is before the children, behind them, and around the body
module _ (r : Row) (v : Fields) (s : T (slim r)) where
  fields-few : length (field_bytes r v) ≤ 55 + length v.text
  unfolding field_bytes slim
  fields-few =
      simp length-append (omega (arith, text-few r.text r.kind v, form_few r.numbers v.a v.x (and_right (leb r.ops 2) (slim_form r.numbers) s)))

  pub ops_few : r.ops ≤ 2
  unfolding slim
  ops_few = leb→le r.ops 2 (and_left (leb r.ops 2) (slim_form r.numbers) s)

  pub around_few : (n m : ℕ) → length (before_of r v n m) + length (behind r v) ≤ 66 + length v.text
  unfolding before_of behind
  around_few n m = by r.last
    where
      by : (b : Bool) → length (cond b (front_of r.rest n m) (field_bytes r v)) + length (cond b (field_bytes r v ++ back r.rest) []) ≤ 66 + length v.text
      by true = simp length-append (omega (arith, fields-few, front-most r.rest n m, back-most r.rest))
      by false = omega (arith, fields-few)

  pub frame_few : (m : ℕ) → length (frame_of r m) ≤ 6
  unfolding frame_of opcode length_of
  frame_few m = by r.boxed
    where
      by : (b : Bool) → length (le r.ops r.op ++ cond b (pkg_length m) []) ≤ 6
      by true = simp length-append (omega (arith, le-length r.ops r.op, ops_few, pkg_length-length true m, following-most m))
      by false = simp length-append (omega (arith, le-length r.ops r.op, ops_few))

  term_few : (n : ℕ) (bs : List ℕ) → length (term_bytes r v n bs) ≤ length bs + (96 + length v.text)
  unfolding body_size
  term_few n bs = omega (arith, term-length r v n bs, frame_few (body_size r v n bs), around_few n (length bs))

all_slim : T (every_row slim kinds)
unfolding every_row slim slim_form kinds normal_kinds other_kinds
all_slim = tt

pub row-slim : (k : ℕ) {r : Row} → row_of k ≡ some r → T (slim r)
row-slim k e = rule slim all_slim k e

pub own-most : (k : ℕ) (v : Fields) (n : ℕ) (bs : List ℕ) → length (term_bytes (row_in (row_of k)) v n bs) ≤ length bs + (96 + length v.text)
unfolding row_in slim slim_form
own-most k v n bs = by (row_of k) refl
  where
    by : (o : Option Row) → row_of k ≡ o → length (term_bytes (row_in o) v n bs) ≤ length bs + (96 + length v.text)
    by none e = term_few no_row v tt n bs
    by (some r) e = term_few r v (row-slim k e) n bs

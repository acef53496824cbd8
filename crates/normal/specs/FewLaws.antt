-- How much a table's bytes can hold: of the terms of a normal forest each takes a byte of its own at least, and a text has at most twice as
-- many bytes as it takes in the table.
-- Assumes nothing.
use Rattle.std.specs.Prelude.{◌≡◌, Bool, true, false, ◌||◌, cond, List, [], ◌∷◌, ◌++◌, ℕ, suc, ◌+◌, ◌-◌, ◌*◌, ◌≤◌, T, leb, length}
use Rattle.std.proofs.Common.{ap, arith, leb→le, eqb→eq}
use Rattle.std.proofs.Math.Option.{some}
use Rattle.std.proofs.Math.ListN.{length-append}
use Rattle.octets.specs.Laws.{le-length}
use Rattle.octets.specs.Tests.{and_left, and_right, or_case}
use Rattle.path.specs.PathLaws.{path-text-length}
use Rattle.grammar.specs.declared.Place.{Place}
use Rattle.grammar.specs.declared.Text.{Text}
use Rattle.grammar.specs.declared.Text.TheVariants.{Unused, PathText, SegmentText, Ascii, AnyBytes, EisaText, UuidText, DescriptorText}
use Rattle.grammar.specs.declared.Row.{Row}
use Rattle.grammar.specs.Kinds.{opcode, normal_kinds, find, row_in, row_of, child_place}
use Rattle.grammar.specs.KindLaws.{every_row, found-rule}
use Rattle.grammar.specs.Forest.{Fields, Forest, nil, node, count, flatten}
use Rattle.fields.specs.Fields.{text_fits, in_range, text_spelled, spelled}
use Rattle.fields.specs.Written.{text_bytes, field_bytes}
use Rattle.fields.specs.WrittenLaws.{readable_text, readable, normal-readable}
use Rattle.tree.specs.Fits.{Args, fine, known, term_fits, Fits}
use Rattle.tree.specs.Bytes.{front, back, before, behind, body, box, term_bytes, bytes}
use Rattle.tree.specs.IsNormal.{normal}
use Rattle.tree.specs.StartLaws.{opens_form, opens_text, opens, fields-start}
use Rattle.tree.proofs.TableLaws.{normal-row, normal-found}
use Rattle.tree.proofs.BodyLaws.{box-least}
use Rattle.normal.specs.File.{term_texts}
use Rattle.normal.specs.SectionLaws.{texts-append}

-- ── A text, by its form
text-few : (y : Text) (kind : ℕ) (v : Fields) → T (readable_text y) → T (text_fits y kind v.text v.a v.x) → T (text_spelled y kind v.text)
    → length v.text ≤ 2 * length (text_bytes y kind v)
unfolding readable_text text_fits text_spelled text_bytes
text-few Unused kind v r f s = omega (arith, eqb→eq (length v.text) 0 f)
text-few PathText kind v r f s = let m = path-text-length v.text s in omega (arith, m.text, m.bytes, m.root, m.least)
text-few SegmentText kind v r f s = omega arith
text-few Ascii kind v r f s = omega (arith, length-append v.text (0 ∷ []))
text-few AnyBytes kind v r f s = omega arith
text-few EisaText kind v r f s = absurd r
text-few UuidText kind v r f s = absurd r
text-few DescriptorText kind v r f s = absurd r

module _ (r : Row) (v : Fields) (i : T (in_range r v.text v.a v.x)) (s : T (spelled r v.text)) (y : T (readable r)) where
  pub text-most : length v.text ≤ 2 * length (text_bytes r.text r.kind v)
  unfolding in_range spelled readable
  text-most = text-few r.text r.kind v (search and_left) (search (and_left, and_right)) s

  fields-most : length v.text ≤ 2 * length (field_bytes r v)
  unfolding field_bytes
  fields-most = simp length-append (omega (arith, text-most))

-- ── A term takes a byte of its own: of its opcode, or of its fields
begun : Row → Bool
begun r = leb 1 r.ops || opens r

begun_all : T (every_row begun normal_kinds)
unfolding every_row normal_kinds begun opens opens_text opens_form
begun_all = tt

own_byte : (k : ℕ) {r : Row} → find k normal_kinds ≡ some r → (v : Fields) → T (in_range r v.text v.a v.x) → T (spelled r v.text) → 1 ≤ r.ops + length (field_bytes r v)
unfolding begun
own_byte k {r} h v i s =
    or_case (leb 1 r.ops) (opens r) (found-rule k begun normal_kinds begun_all h)
    (λ t. omega (arith, leb→le 1 r.ops t))
    (λ t. let (b, bs, e, z, y) = fields-start r v t i s in omega (arith, ap length e))

-- so many bytes has it beside its children's
body-least : (r : Row) (v : Fields) (n : ℕ) (bs : List ℕ) → length (field_bytes r v) + length bs ≤ length (body r v n bs)
unfolding body before behind
body-least r v n bs = by r.last
  where
    by : (l : Bool) → length (field_bytes r v) + length bs ≤ length (cond l (front r.rest n bs) (field_bytes r v) ++ (bs ++ cond l (field_bytes r v ++ back r.rest) []))
    by true = simp length-append (omega arith)
    by false = simp length-append (omega arith)

term-least : (r : Row) (v : Fields) (n : ℕ) (bs : List ℕ) → r.ops + length (field_bytes r v) + length bs ≤ length (term_bytes r v n bs)
unfolding term_bytes opcode
term-least r v n bs =
    omega (arith, length-append (opcode r) (box r.boxed (body r v n bs)), le-length r.ops r.op, box-least r.boxed (body r v n bs), body-least r v n bs)

-- ── Forests
pub record Few (f : Forest) : Type 0 where
  pub records : length (flatten f) ≤ length (bytes f)
  pub texts : length (term_texts (flatten f)) ≤ 2 * length (bytes f)

few-node : (k : ℕ) (v : Fields) (c s : Forest) {r : Row} → find k normal_kinds ≡ some r → T (in_range r v.text v.a v.x) → T (spelled r v.text) → Few c → Few s → Few (node k v c s)
unfolding flatten term_texts bytes row_in
few-node k v c s {r} e i w p q =
    let o = own_byte k e v i w in
    let m = fields-most r v i w (normal-readable k e) in
    let l = term-least r v (count c) (bytes c) in
    let a = length-append (term_bytes r v (count c) (bytes c)) (bytes s) in
    let n = length-append (flatten c) (flatten s) in
    let t = length-append v.text (term_texts (flatten c) ++ term_texts (flatten s)) in
    let u = length-append (term_texts (flatten c)) (term_texts (flatten s)) in
    record {
      records = rw (normal-row k e) (omega (arith, p.records, q.records));
      texts = rw (normal-row k e, texts-append (flatten c) (flatten s)) (omega (arith, p.texts, q.texts));
    }

pub few-forest : (args : Args) (place : ℕ → Place) (l j : ℕ) (f : Forest) → Fits args place l j f → T (normal f) → Few f
unfolding Fits term_fits known fine normal flatten term_texts bytes row_in
few-forest args place l j nil h n = record { records = omega arith; texts = omega arith }
few-forest args place l j (node k v c s) h n =
    normal-found k (search (and_left, and_right)) λ r e.
    let fits : T (fine args r (place j) l v (count c)) = rw (normal-row k e) at h.0 in
    few-node k v c s e (search (and_left, and_right)) (search (and_left, and_right))
    (few-forest args (child_place (row_in (row_of k))) (l - 1) 0 c h.1 (search (and_left, and_right)))
    (few-forest args place l (suc j) s h.2 (search (and_left, and_right)))

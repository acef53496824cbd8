-- An index that is handed over is at most the record count, so it fits the C face's 32 bits; and how the calls below meet the face.
-- Assumes nothing.
use Rattle.std.specs.Prelude.{◌≡◌, refl, Bool, true, false, ◌||◌, not, cond, List, [], ◌∷◌, ◌++◌, ℕ, suc, ◌+◌, ◌-◌, ◌/◌, ◌≤◌, ◌<◌, eqb, ltb, length, drop, Result}
use Rattle.std.proofs.Common.{◌∙◌, ap, sym, arith, length-take, eqb-true}
use Rattle.std.proofs.Math.Option.{Option, none, some}
use Rattle.octets.specs.Bytes.{le_at}
use Rattle.octets.specs.Sum.{byte_sum}
use Rattle.octets.specs.Tests.{cond_case}
use Rattle.refusal.specs.declared.Fault.{Fault}
use Rattle.grammar.specs.Forest.{Forest}
use Rattle.tree.specs.Normal.{norm}
use Rattle.term.specs.declared.Record.{Record}
use Rattle.term.specs.File.{record_count, identity, layout_of}
use Rattle.term.specs.Record.{records_from}
use Rattle.term.specs.RecordLaws.{records-length}
use Rattle.arity.specs.Arity.{Arity, arities_fit}
use Rattle.checker.specs.Refusal.{Verdict, verdict, Owed, next, later, kids_of, fault_of, scan, record_section, arity_section, pool_section, refusal_of}
use Rattle.normal.specs.File.{file_of}
use Rattle.checker.specs.Described.{forest_of}
use Rattle.sdt.specs.Edit as sdt
use Rattle.sdt.specs.Edit.{Edit, Left}
use Rattle.sdt.specs.EditLaws.{left_determined}
use Rattle.encode.specs.Encode.{table_of, late_number, Answer, answer_of, Outcome, refused_by, handed, described, outcome_of, encode_of, Answered}
use Rattle.encode.specs.AcceptLaws.{layout-sized}
use Rattle.whole.specs.Whole.{list_of, normalise_of, identity_of, tree_in, read_in, read_of}
use Rattle.monitor.specs.declared.AcpiAnswer.{AcpiAnswer}
use Rattle.monitor.specs.declared.AcpiEdit.{AcpiEdit}
use Rattle.monitor.specs.Face.{verdict_of, Faced, edit_of}

-- ── Two answers to one call are equal
-- number, index, length and every byte of the output are determined
pub faced_determined : (o : Outcome) {r s : AcpiAnswer} {out out' : List ℕ} → Faced r out o → Faced s out' o → (r ≡ s) × (out ≡ out')
faced_determined o h k = (h.answer ∙ sym k.answer, h.output ∙ sym k.output)

-- and so are number, length and checksum of an edit, and every byte of its buffer
pub edited_determined : (o : sdt.Outcome) {r s : AcpiEdit} {out out' : List ℕ} → Left (edit_of r) out o → Left (edit_of s) out' o → (r ≡ s) × (out ≡ out')
edited_determined o h k =
    let (e, b) = left_determined h k in
    (ap {B = AcpiEdit} (λ (d : Edit). record { number = d.number; length = d.table.length; checksum = d.table.checksum }) e, b)

-- ── The index of a refusal
scan_index : (arities pool : List ℕ) (rs : List Record) (i : ℕ) (q : List Owed) → (scan arities pool rs i q).index ≤ i + length rs
unfolding scan
scan_index arities pool [] i [] = omega arith
scan_index arities pool [] i (o ∷ q) = omega arith
scan_index arities pool (r ∷ rs) i q =
    cond_case (λ (v : Verdict). v.index ≤ i + suc (length rs)) (eqb (fault_of arities pool (next q).place (next q).levels r) 0) _ _
    (λ t. omega (arith, scan_index arities pool rs (suc i) (kids_of (next q) r ++ later q)))
    (λ t. omega arith)

records-few : (f : List ℕ) → (layout_of f).number ≡ 0 → length (records_from (record_section f) 0) ≤ 65536
unfolding records_from
records-few f z =
    rw (records-length (record_section f) 0 (length (record_section f) / 24 - 0))
    (omega (arith, length-take ((layout_of f).arities - 60) (drop 60 f), (layout-sized f z).0))

pub refusal_index : (f : List ℕ) → (refusal_of f).index ≤ 65536
unfolding refusal_of
refusal_index f = by (eqb (layout_of f).number 0) refl
  where
    by : (b : Bool) → eqb (layout_of f).number 0 ≡ b
        → (cond (not b) (verdict (layout_of f).number 0) (cond (not (arities_fit (arity_section f) (pool_section f))) (verdict 3 0) (scan (arity_section f) (pool_section f) (records_from (record_section f) 0) 0 []))).index ≤ 65536
    by false e = omega arith
    by true e =
        cond_case (λ (v : Verdict). v.index ≤ 65536) (not (arities_fit (arity_section f) (pool_section f))) _ _
        (λ t. omega arith)
        (λ t. omega (arith, scan_index (arity_section f) (pool_section f) (records_from (record_section f) 0) 0 [], records-few f (eqb-true (layout_of f).number 0 e)))

-- ── The index of an outcome
pub record Narrow (o : Outcome) : Type 0 where
  pub narrow : o.answer.index ≤ 65536

refused-narrow : (n i : ℕ) (out : List ℕ) → i ≤ 65536 → Narrow (refused_by n i out)
unfolding refused_by
refused-narrow n i out h = record { narrow = h }

-- a refusal that names no record
plain-narrow : (n : ℕ) (out : List ℕ) → Narrow (refused_by n 0 out)
plain-narrow n out = refused-narrow n 0 out (omega arith)

either-narrow : (b : Bool) {x y : Outcome} → Narrow x → Narrow y → Narrow (cond b x y)
either-narrow true h k = h
either-narrow false h k = k

handed-narrow : (bs out : List ℕ) → Narrow (handed bs out)
unfolding handed
handed-narrow bs out =
    let h : 0 ≤ 65536 = omega arith in
    either-narrow (ltb (length out) (length bs)) (plain-narrow 14 out) (record { narrow = h })

abbrev late : List ℕ → ℕ
late f = late_number (norm (described (forest_of f)))

outcome_narrow : (make : Forest → List ℕ) (f out : List ℕ) → Narrow (outcome_of make f out)
unfolding outcome_of
outcome_narrow make f out =
    either-narrow (not (eqb (refusal_of f).number 0)) (refused-narrow (refusal_of f).number _ out (refusal_index f))
    (either-narrow (not (eqb (late f) 0)) (plain-narrow (late f) out) (handed-narrow (make (described (forest_of f))) out))

pub encode_narrow : (f out : List ℕ) → Narrow (encode_of f out)
unfolding encode_of
encode_narrow f out = outcome_narrow (table_of (identity f)) f out

pub normalise_narrow : (f out : List ℕ) → Narrow (normalise_of f out)
unfolding normalise_of
normalise_narrow f out = outcome_narrow (λ g. file_of (identity f) (list_of f) (norm g)) f out

in_narrow : (l : List Arity) (t : List ℕ) (o : Option Forest) (out : List ℕ) → Narrow (read_in l t o out)
unfolding read_in
in_narrow l t none out = plain-narrow 22 out
in_narrow l t (some f) out = handed-narrow (file_of (identity_of t) l f) out

pub read-narrow : (a t out : List ℕ) → Narrow (read_of a t out)
unfolding read_of
read-narrow a t out =
    either-narrow (not (eqb (layout_of a).number 0)) (plain-narrow (layout_of a).number out)
    (either-narrow (not (eqb (record_count a) 0)) (plain-narrow 2 out)
    (either-narrow (not (arities_fit (arity_section a) (pool_section a))) (plain-narrow 3 out)
    (either-narrow (ltb (length t) 36 || not (eqb (le_at 4 t 4) (length t))) (plain-narrow 20 out)
    (either-narrow (ltb 268435455 (length t)) (plain-narrow 12 out)
    (either-narrow (not (eqb (byte_sum t) 0)) (plain-narrow 21 out) (in_narrow (list_of a) t (tree_in (list_of a) t) out))))))

pub answered-narrow : {r : Result ℕ Fault} {out : List ℕ} {o : Outcome} → Narrow o → Answered r out o → (answer_of r).index < 4294967296
answered-narrow n h = rw h.answer (omega (arith, n.narrow))

pub verdict-narrow : (f : List ℕ) {a : Answer} → a ≡ verdict_of (refusal_of f) → a.index < 4294967296
verdict-narrow f e = rw e (omega (arith, refusal_index f))

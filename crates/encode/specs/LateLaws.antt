-- The refusals of the normal form from what the walk measures: what is no larger than a table has no body that is too large for its
-- PkgLength, so 13 never comes behind 12; and the outcome of an accepted file by the walk along its records. Assumes nothing.
use Rattle.std.specs.Prelude.{◌≡◌, refl, Bool, true, false, ◌&&◌, ◌||◌, not, cond, List, [], ℕ, ◌+◌, ◌-◌, ◌/◌, ◌≤◌, T, leb, ltb, length}
use Rattle.std.proofs.Common.{sym, ap, ◌∙◌, arith, le→leb, length-append, eq-eqb, leb-true, leb-false, lt-ltb, le-ltb, ltb-false}
use Rattle.std.proofs.Math.Option.{some}
use Rattle.std.proofs.lemmas.List.{length-map}
use Rattle.octets.specs.Tests.{and_both, or_right, test_true}
use Rattle.grammar.specs.declared.Row.{Row}
use Rattle.grammar.specs.declared.Place.TheVariants.{InList}
use Rattle.grammar.specs.Kinds.{row_of, row_in}
use Rattle.grammar.specs.Forest.{Fields, Forest, nil, node, count, depth, flatten}
use Rattle.grammar.specs.ForestLaws.{flatten-build}
use Rattle.tree.specs.Bytes.{body, term_bytes, bytes}
use Rattle.tree.specs.Normal.{norm, body_fits, roomy}
use Rattle.tree.proofs.NormalLaws.{norm-depth, bytes-norm}
use Rattle.tree.proofs.BodyLaws.{box-least}
use Rattle.term.specs.File.{identity}
use Rattle.term.specs.Record.{records_of, records_from}
use Rattle.term.specs.RecordLaws.{records-length}
use Rattle.sdt.specs.Table.{opened, sealed}
use Rattle.arity.specs.Arity.{args_of}
use Rattle.checker.specs.Refusal.{refusal_of, record_section, arity_section, pool_section}
use Rattle.checker.specs.Accepted.{accepted-forest}
use Rattle.checker.specs.Described.{term_of, forest_of}
use Rattle.encode.specs.Encode.{table_of, late_number, described, outcome_of, encode_of}
use Rattle.encode.specs.Walk.{below, walk_all}
use Rattle.encode.specs.WalkLaws.{terms_from}
use Rattle.encode.specs.Answer.{whole, figures_number, walked}

-- ── Bodies are no longer than their terms, nor are children
pub body-most : (r : Row) (v : Fields) (n : ℕ) (bs : List ℕ) → length (body r v n bs) ≤ length (term_bytes r v n bs)
unfolding term_bytes
body-most r v n bs = simp length-append (omega (arith, box-least r.boxed (body r v n bs)))

pub kids-most : (r : Row) (v : Fields) (n : ℕ) (bs : List ℕ) → length bs ≤ length (body r v n bs)
unfolding body
kids-most r v n bs = simp length-append (omega arith)

pub roomy-small : (f : Forest) → length (bytes f) ≤ 268435451 → T (roomy f)
unfolding roomy bytes body_fits
roomy-small nil h = tt
roomy-small (node k v c s) h =
    let row = row_in (row_of k) in
    let m : length (term_bytes row v (count c) (bytes c)) + length (bytes s) ≤ 268435451 = simp length-append at h in
    let p = body-most row v (count c) (bytes c) in
    let q = kids-most row v (count c) (bytes c) in
    let t : T (body_fits row v c) = or_right (not row.boxed) (leb (length (body row v (count c) (bytes c))) 268435451) (le→leb (length (body row v (count c) (bytes c))) 268435451 (omega arith)) in
    let u = roomy-small c (omega arith) in
    let w = roomy-small s (omega arith) in
    and_both (body_fits row v c && roomy c) (roomy s) (and_both (body_fits row v c) (roomy c) t u) w

-- ── 11, 12 and 13 of a normal form, by its figures
many_or_deep : (n d : ℕ) → not (leb n 65536 && leb d 64) ≡ ltb 65536 n || not (leb d 64)
many_or_deep n d = by (leb n 65536) refl
  where
    by : (b : Bool) → leb n 65536 ≡ b → not (b && leb d 64) ≡ ltb 65536 n || not (leb d 64)
    by true e = rw (le-ltb 65536 n (leb-true n 65536 e)) refl
    by false e = rw (lt-ltb 65536 n (leb-false n 65536 e)) refl

pub late_is : (n : Forest) → late_number n ≡ figures_number (length (flatten n)) (below 64 n) (length (bytes n))
unfolding late_number figures_number
late_is n = rw (many_or_deep (length (flatten n)) (depth n)) (ap (λ (k : ℕ). cond (ltb 65536 (length (flatten n)) || below 64 n) 11 k) (by (ltb 268435455 (36 + length (bytes n))) refl))
  where
    by : (b : Bool) → ltb 268435455 (36 + length (bytes n)) ≡ b → ◌≡◌ {A = ℕ} (cond b 12 (cond (not (roomy n)) 13 0)) (cond b 12 0)
    by true e = refl
    by false e = rw (test_true (roomy n) (roomy-small n (omega (arith, ltb-false 268435455 (36 + length (bytes n)) e)))) refl

-- ── An accepted file
pub terms-count : (records pool : List ℕ) → length records / 24 ≡ length (terms_from records pool 0)
unfolding terms_from records_from
terms-count records pool = sym (length-map (records_of records 0 (length records / 24 - 0)) (term_of pool) ∙ records-length records 0 (length records / 24 - 0) ∙ omega arith)

-- what the walk gives is the forest
walk_is : (f : List ℕ) (g : Forest) → forest_of f ≡ some g → depth g ≤ 64
    → whole (record_section f) (pool_section f) ≡ record { bytes = bytes g; records = length (flatten (norm g)); deep = below 64 (norm g); rest = [] }
unfolding forest_of terms_from
walk_is f g e h =
    let t : terms_from (record_section f) (pool_section f) 0 ≡ flatten g = flatten-build _ g e in
    rw (terms-count (record_section f) (pool_section f), t) (walk_all g 64 h)

-- the walk's bytes are the normal form's
pub walk-bytes : (f : List ℕ) → (refusal_of f).number ≡ 0 → (whole (record_section f) (pool_section f)).bytes ≡ bytes (norm (described (forest_of f)))
unfolding described
walk-bytes f z =
    let (g, e, h) = accepted-forest f z in
    let w = walk_is f g e (norm-depth (args_of (arity_section f) (pool_section f)) (λ _. InList) 64 0 g h) in
    rw (w, e) (bytes-norm (args_of (arity_section f) (pool_section f)) (λ _. InList) 64 0 g h)

pub outcome_accepted : (make : Forest → List ℕ) (f out : List ℕ) → (refusal_of f).number ≡ 0 → outcome_of make f out ≡ walked (make (described (forest_of f))) (whole (record_section f) (pool_section f)) out
unfolding outcome_of walked described
outcome_accepted make f out z =
    let (g, e, h) = accepted-forest f z in
    let b = bytes-norm (args_of (arity_section f) (pool_section f)) (λ _. InList) 64 0 g h in
    let w = walk_is f g e (norm-depth (args_of (arity_section f) (pool_section f)) (λ _. InList) 64 0 g h) in
    rw (w, eq-eqb (refusal_of f).number 0 z, e, late_is (norm g), b) refl

pub encode_accepted : (f out : List ℕ) → (refusal_of f).number ≡ 0
    → encode_of f out ≡ walked (sealed (opened (identity f) (whole (record_section f) (pool_section f)).bytes)) (whole (record_section f) (pool_section f)) out
unfolding encode_of table_of
encode_accepted f out z =
    outcome_accepted (table_of (identity f)) f out z
    ∙ ap (λ (bs : List ℕ). walked (sealed (opened (identity f) bs)) (whole (record_section f) (pool_section f)) out) (sym (walk-bytes f z))

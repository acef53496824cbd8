-- What the call answers and leaves, held to Encode; and the same said by what the walk along the records measures, as the code goes.
-- Assumes nothing.
use Rattle.std.specs.Prelude.{◌≡◌, Bool, true, false, ◌||◌, not, cond, List, ℕ, ◌+◌, ◌/◌, ◌≤◌, eqb, ltb, length, Result, Ok, Err}
use Rattle.std.proofs.Common.{refl, sym, ap, ap₂, ◌∙◌, arith, ne_eqb, ltb-false}
use Rattle.refusal.specs.declared.Fault.{Fault}
use Rattle.refusal.specs.declared.Refusal.{Refusal}
use Rattle.refusal.specs.Number.{number}
use Rattle.refusal.specs.NumberLaws.{number-injective, number-positive}
use Rattle.grammar.specs.Forest.{Forest}
use Rattle.term.specs.File.{identity}
use Rattle.checker.specs.Refusal.{verdict, refusal_of}
use Rattle.encode.specs.Encode.{table_of, Answer, answer_of, Outcome, refused_by, handed, outcome_of, encode_of, Answered}
use Rattle.encode.specs.Walk.{Part, list, term}
use Rattle.encode.specs.WalkLaws.{terms_from}

-- ── Two results with one answer are the same
abbrev fault : Refusal → ℕ → Fault
fault r i = record { refusal = r; index = i }

pub answer-injective : (r s : Result ℕ Fault) → answer_of r ≡ answer_of s → r ≡ s
answer-injective (Ok m) (Ok n) e = ap Ok (ap (λ (a : Answer). a.length) e)
answer-injective (Ok m) (Err g) e = let z = ap (λ (a : Answer). a.number) e in absurd (omega (arith, number-positive g.refusal))
answer-injective (Err f) (Ok n) e = let z = ap (λ (a : Answer). a.number) e in absurd (omega (arith, number-positive f.refusal))
answer-injective (Err f) (Err g) e =
    let r = number-injective f.refusal g.refusal (ap (λ (a : Answer). a.number) e) in
    ap Err (ap₂ fault r (ap (λ (a : Answer). a.index) e))

-- number, index, length and every byte of the output are determined
pub answered_determined : {r s : Result ℕ Fault} {out out' : List ℕ} {o : Outcome} → Answered r out o → Answered s out' o → (r ≡ s) × (out ≡ out')
answered_determined {r} {s} h k = (answer-injective r s (h.answer ∙ sym k.answer), h.output ∙ sym k.output)

-- 1 to 10, whatever is made of an accepted file
pub outcome_refused : (make : Forest → List ℕ) (f out : List ℕ) {v : Fault} → verdict (number v.refusal) v.index ≡ refusal_of f → Answered (Err v) out (outcome_of make f out)
unfolding outcome_of refused_by
outcome_refused make f out {v} e =
    let p = number-positive v.refusal in
    rw (← e, ne_eqb (number v.refusal) 0 (λ z. omega arith)) (record { answer = refl; output = refl })

pub encode_refused : (f out : List ℕ) {v : Fault} → verdict (number v.refusal) v.index ≡ refusal_of f → Answered (Err v) out (encode_of f out)
unfolding encode_of
encode_refused f out = outcome_refused (table_of (identity f)) f out

-- ── By what the walk along the records gives
-- all the terms of two sections
abbrev pub whole : List ℕ → List ℕ → Part
whole records pool = list (term 64) (length records / 24) (terms_from records pool 0)

-- 11 or 12, or 0, of so many records, of which some are too deep or none, and of so many bytes
unfoldable pub figures_number : ℕ → Bool → ℕ → ℕ
figures_number n deep size = cond (ltb 65536 n || deep) 11 (cond (ltb 268435455 (36 + size)) 12 0)

abbrev pub number_of : Part → ℕ
number_of p = figures_number p.records p.deep (length p.bytes)

-- bytes that are handed over, unless the figures of p refuse them
unfoldable pub walked : List ℕ → Part → List ℕ → Outcome
walked bs p out = cond (not (eqb (number_of p) 0)) (refused_by (number_of p) 0 out) (handed bs out)

-- a number that is 0 says that the records are not too many, and that the table is not too large
pub figures_within : (n : ℕ) (deep : Bool) (size : ℕ) → 0 ≡ figures_number n deep size → (n ≤ 65536) × (36 + size ≤ 268435455)
unfolding figures_number
figures_within n deep size z = by (ltb 65536 n) refl (ltb 268435455 (36 + size)) refl deep (sym z)
  where
    by : (a : Bool) → ltb 65536 n ≡ a → (b : Bool) → ltb 268435455 (36 + size) ≡ b → (d : Bool) → ◌≡◌ {A = ℕ} (cond (a || d) 11 (cond b 12 0)) 0 → (n ≤ 65536) × (36 + size ≤ 268435455)
    by true t b u d w = absurd (omega arith)
    by false t b u true w = absurd (omega arith)
    by false t true u false w = absurd (omega arith)
    by false t false u false w = (ltb-false 65536 n t, ltb-false 268435455 (36 + size) u)

pub figures_small : (n : ℕ) (deep : Bool) (size : ℕ) → 0 ≡ figures_number n deep size → 36 + size ≤ 268435455
figures_small n deep size z = (figures_within n deep size z).1

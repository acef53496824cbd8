-- A buffer in two parts, of which one is written while the other stays as it was; and a record that is read from either of two buffers
-- with the same bytes there.
-- Assumes nothing.
use Rattle.std.specs.Prelude.{◌≡◌, ℕ, zero, suc, ◌+◌, ◌-◌, ◌*◌, ◌≤◌, length, drop}
use Rattle.std.proofs.Math.Path.{refl}
use Rattle.std.proofs.Common.{sym, ◌∙◌, ap, arith, length-drop, drop_of_length-le, take-append-drop, take_all, take-take, take-add, drop-drop, take_at, drop_at, length-take-le}
use mathlib.Core.List.{List, [], ◌∷◌, ◌++◌, append_assoc, append-nil}
use Rattle.std.proofs.Math.ListN.{take}
use Rattle.std.proofs.lemmas.List.{take-append-le, drop-append-le}
use Rattle.std.proofs.Math.Seq.{take-append-add, drop-append-add}
use Rattle.octets.specs.Bytes.{le_at}
use Rattle.octets.specs.Filling.{Wrote, Filling, filling_lent, lent, returned}
use Rattle.term.specs.Record.{record_at}
use Rattle.term.specs.RecordLaws.{record-made}
use Rattle.walk.specs.Spots.{spliced, splice_length}

-- ── A part that was lent and came back written is a splice
pub returned-spliced : (at : ℕ) (cs out : List ℕ) → at + length cs ≤ length out → {n : ℕ} {ys : List ℕ} → Wrote cs (lent at out) ys n
    → returned at out ys ≡ spliced at cs out
unfolding spliced
returned-spliced at cs out r w =
    let d : length (drop at out) ≤ length out - at = rw length-drop (omega arith) in
    rw w.is (rw (take_all (length out - at) (drop at out) d, drop_of_length-le (drop at out) d, append-nil, drop-drop) refl)

pub filling_spliced : {bs : List ℕ} (cs rest : List ℕ) {at : ℕ} {first out : List ℕ} → at + length cs ≤ length out → Filling bs (cs ++ rest) at first out
    → Filling bs rest (at + length cs) first (spliced at cs out)
filling_spliced cs rest {at} {first} {out} r h =
    rw (returned-spliced at cs out r (record { count = refl; is = refl })) at (filling_lent cs rest h (record { count = refl; is = refl }))

-- ── Splices into one of two parts
splice_left : (at : ℕ) (bs u v : List ℕ) → at + length bs ≤ length u → spliced at bs (u ++ v) ≡ spliced at bs u ++ v
unfolding spliced
splice_left at bs u v h =
    rw (take-append-le at u v (omega arith), drop-append-le (at + length bs) u v h)
    (sym (append_assoc (take at u) (bs ++ drop (at + length bs) u) v ∙ ap (λ z. take at u ++ z) (append_assoc bs (drop (at + length bs) u) v)))

splice_right : (at : ℕ) (bs u v : List ℕ) → spliced (length u + at) bs (u ++ v) ≡ u ++ spliced at bs v
unfolding spliced
splice_right at bs u v =
    let e : length u + at + length bs ≡ length u + (at + length bs) = omega arith in
    rw (e, take-append-add u v at, drop-append-add u v (at + length bs)) (append_assoc u (take at v) (bs ++ drop (at + length bs) v))

module _ (pool : ℕ) (xs : List ℕ) (h : pool ≤ length xs) where
  low : length (take pool xs) ≡ pool
  low = length-take-le pool xs h

  module _ (at : ℕ) (bs : List ℕ) where
    in_front : at + length bs ≤ pool → spliced at bs xs ≡ spliced at bs (take pool xs) ++ drop pool xs
    in_front r = ap (spliced at bs) (sym (take-append-drop pool xs)) ∙ splice_left at bs (take pool xs) (drop pool xs) (rw low r)

    front_length : at + length bs ≤ pool → length (spliced at bs (take pool xs)) ≡ pool
    front_length r = splice_length at bs (take pool xs) (rw low r) ∙ low

    pub front-takes : at + length bs ≤ pool → take pool (spliced at bs xs) ≡ spliced at bs (take pool xs)
    front-takes r = rw (in_front r) (take_at (spliced at bs (take pool xs)) (drop pool xs) pool (front_length r))

    pub front_leaves : at + length bs ≤ pool → drop pool (spliced at bs xs) ≡ drop pool xs
    front_leaves r = rw (in_front r) (drop_at (spliced at bs (take pool xs)) (drop pool xs) pool (front_length r))

    in_back : spliced (pool + at) bs xs ≡ take pool xs ++ spliced at bs (drop pool xs)
    in_back =
        ap (λ k. spliced (k + at) bs xs) (sym low) ∙ ap (spliced (length (take pool xs) + at) bs) (sym (take-append-drop pool xs))
        ∙ splice_right at bs (take pool xs) (drop pool xs)

    pub back_leaves : take pool (spliced (pool + at) bs xs) ≡ take pool xs
    back_leaves = rw in_back (take_at (take pool xs) _ pool low)

    pub back-takes : drop pool (spliced (pool + at) bs xs) ≡ spliced at bs (drop pool xs)
    back-takes = rw in_back (drop_at (take pool xs) _ pool low)

-- ── What is cut out of a front
pub take_within : (k n w : ℕ) (xs : List ℕ) → k + n ≤ w → take n (drop k (take w xs)) ≡ take n (drop k xs)
take_within zero n w xs h = take-take n w xs (omega arith)
take_within (suc k) n zero xs h = absurd (omega arith)
take_within (suc k) n (suc w) [] h = refl
take_within (suc k) n (suc w) (x ∷ xs) h = take_within k n w xs (omega arith)

pub drop-front : (k m : ℕ) (xs : List ℕ) → k ≤ length xs → drop k (take (k + m) xs) ≡ take m (drop k xs)
drop-front k m xs h = rw (take-add k m xs) (drop_at (take k xs) _ k (length-take-le k xs h))

-- ── A record, by its 24 bytes
module _ (b c : List ℕ) (p : ℕ) (e : take 24 (drop p b) ≡ take 24 (drop p c)) where
  number_same : (n k at : ℕ) → k + n ≤ 24 → p + k ≡ at → le_at n b at ≡ le_at n c at
  unfolding le_at
  number_same n k at h q =
      let cut : (x : List ℕ) → take n (drop at x) ≡ take n (drop k (take 24 (drop p x))) =
      λ x. rw (← q, ← (drop-drop k p x)) (sym (take_within k n 24 (drop p x) h)) in
      rw (cut b, cut c, e) refl

pub record_same : (b c : List ℕ) (i : ℕ) → take 24 (drop (24 * i) b) ≡ take 24 (drop (24 * i) c) → record_at b i ≡ record_at c i
unfolding record_at
record_same b c i e =
    let same : (n k at : ℕ) → k + n ≤ 24 → 24 * i + k ≡ at → le_at n b at ≡ le_at n c at = number_same b c (24 * i) e in
    record-made c i
    (same 2 0 _ (omega arith) (omega arith))
    (same 2 2 _ (omega arith) refl)
    (same 4 4 _ (omega arith) refl)
    (same 8 8 _ (omega arith) refl)
    (same 4 16 _ (omega arith) refl)
    (same 4 20 _ (omega arith) refl)

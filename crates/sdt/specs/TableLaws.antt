-- Laws of a table as bytes: a sealed one sums to 0 and has its own length in its header, and sealing forgets what stood in both places.
-- Assumes nothing.
use Rattle.std.specs.Prelude.{◌≡◌, Bool, true, false, List, [], ◌∷◌, ◌++◌, ℕ, suc, ◌+◌, ◌-◌, ◌≤◌, ◌<◌, ltb, set}
use Rattle.std.proofs.Math.Path.{refl, sym}
use Rattle.std.proofs.Common.{ap, ◌∙◌, append_assoc, length-append, length-take, length-drop, length-set, get_or-append-add, get_or-take, get_or-drop, ext_get_or, ltb-true, ltb-false}
use native.Mathlib.Omega.{arith}
use Rattle.std.proofs.Math.ListN.{length, take, drop, get_or, get_or-append}
use Rattle.std.proofs.Math.Seq.{take_at, drop_at, drop-cons, length-take-le}
use Rattle.std.proofs.lemmas.List.{get_or_at, set_at}
use Rattle.octets.specs.Bytes.{le, le_at}
use Rattle.octets.specs.Laws.{le-length, value-le}
use Rattle.octets.specs.Sum.{byte_sum, negated}
use Rattle.octets.specs.SumLaws.{sums_to_zero}
use Rattle.sdt.specs.Table.{measured, sealed, appended, overwritten}

pub measured-is : (t : List ℕ) → take 4 t ++ (le 4 (length t) ++ drop 8 t) ≡ measured t
unfolding measured
measured-is t = refl

pub sealed-is : (t : List ℕ) → set (measured t) 9 (negated (byte_sum (set (measured t) 9 0))) ≡ sealed t
unfolding sealed
sealed-is t = refl

pub measured-length : (t : List ℕ) → 8 ≤ length t → length (measured t) ≡ length t
unfolding measured
measured-length t h = simp (length-append, length-take, length-drop, le-length) (omega arith)

pub sealed-length : (t : List ℕ) → 8 ≤ length t → length (sealed t) ≡ length t
unfolding sealed
sealed-length t h = length-set (measured t) 9 _ ∙ measured-length t h

pub sealed-sums : (t : List ℕ) → 10 ≤ length t → byte_sum (sealed t) ≡ 0
unfolding sealed
sealed-sums t h = sums_to_zero (measured t) 9 (rw (measured-length t (omega arith)) (omega arith))

-- ── Sealing forgets what stood at 4 to 7 and at 9
-- the first nine bytes of a measured table
abbrev first9 : List ℕ → List ℕ
first9 t = (take 4 t ++ le 4 (length t)) ++ (get_or t 8 0 ∷ [])

module _ (t : List ℕ) (h : 10 ≤ length t) where
  first8_length : length (take 4 t ++ le 4 (length t)) ≡ 8
  first8_length = simp (length-append, length-take, le-length) (omega arith)

  first9-length : length (first9 t) ≡ 9
  first9-length = simp (length-append, length-take, le-length) (omega arith)

  set_nine : (v : ℕ) → set (measured t) 9 v ≡ first9 t ++ (v ∷ drop 10 t)
  unfolding measured
  set_nine v =
      let p : drop 8 t ≡ get_or t 8 0 ∷ get_or t 9 0 ∷ drop 10 t = rw (drop-cons t 8 0 (omega arith), drop-cons t 9 0 (omega arith)) refl in
      let m : take 4 t ++ (le 4 (length t) ++ drop 8 t) ≡ first9 t ++ (get_or t 9 0 ∷ drop 10 t) = rw p (simp append_assoc) in
      rw m (set_at (first9 t) (get_or t 9 0) (drop 10 t) v 9 first9-length)

  sealed_nine : sealed t ≡ first9 t ++ (negated (byte_sum (first9 t ++ (0 ∷ drop 10 t))) ∷ drop 10 t)
  unfolding sealed
  sealed_nine = rw (set_nine 0) (set_nine _)

  -- what is read of a buffer that begins with it: its length, and its checksum
  module _ (z : List ℕ) where
    pub sealed_field : length t < 4294967296 → le_at 4 (sealed t ++ z) 4 ≡ length t
    unfolding le_at
    sealed_field k =
        let l : length (take 4 t) ≡ 4 = length-take-le 4 t (omega arith) in
        let e : sealed t ++ z ≡ take 4 t ++ (le 4 (length t) ++ (get_or t 8 0 ∷ negated (byte_sum (first9 t ++ (0 ∷ drop 10 t))) ∷ drop 10 t ++ z)) = rw sealed_nine (simp append_assoc) in
        rw (e, drop_at (take 4 t) _ 4 l, take_at (le 4 (length t)) _ 4 (le-length 4 (length t))) (value-le 4 (length t) k)

    pub sealed_byte : get_or (sealed t ++ z) 9 0 ≡ get_or (sealed t) 9 0
    sealed_byte = get_or-append (sealed t) z 0 9 (rw (sealed-length t (omega arith)) (omega arith))

-- equal but for 4 to 7 and 9
pub record Alike (t u : List ℕ) : Type 0 where
  pub size : length t ≡ length u
  pub low : (i : ℕ) → i < 4 → get_or t i 0 ≡ get_or u i 0
  pub middle : get_or t 8 0 ≡ get_or u 8 0
  pub high : (i : ℕ) → 10 ≤ i → get_or t i 0 ≡ get_or u i 0

pub alike-sealed : (t u : List ℕ) → 10 ≤ length t → Alike t u → sealed t ≡ sealed u
alike-sealed t u h a =
    let n = a.size in
    let p : take 4 t ≡ take 4 u = ext_get_or 0 (take 4 t) (take 4 u) (simp length-take (omega arith)) (λ i l. let k : i < 4 = omega (arith, length-take 4 t) in rw (get_or-take 4 t i 0 k, get_or-take 4 u i 0 k) (a.low i k)) in
    let q : drop 10 t ≡ drop 10 u = ext_get_or 0 (drop 10 t) (drop 10 u) (simp length-drop (omega arith)) (λ i l. rw (get_or-drop 10 t i 0, get_or-drop 10 u i 0) (a.high (10 + i) (omega arith))) in
    rw (sealed_nine t h, sealed_nine u (omega arith), p, q, n, a.middle) refl

pub sealed-alike : (t : List ℕ) → 10 ≤ length t → Alike (sealed t) t
sealed-alike t h = record {
  size = sealed-length t (omega arith);
  low = λ i k. rw (sealed_nine t h) (get_or-append (first9 t) _ 0 i (rw (first9-length t h) (omega arith)) ∙ get_or-append (take 4 t ++ le 4 (length t)) _ 0 i (rw (first8_length t h) (omega arith)) ∙ get_or-append (take 4 t) _ 0 i (rw (length-take-le 4 t (omega arith)) k) ∙ get_or-take 4 t i 0 k);
  middle = rw (sealed_nine t h) (get_or-append (first9 t) _ 0 8 (rw (first9-length t h) (omega arith)) ∙ get_or_at (take 4 t ++ le 4 (length t)) (get_or t 8 0) [] 0 8 (first8_length t h));
  high = λ i k. rw (sealed_nine t h) (past (first9 t) _ (drop 10 t) i (rw (first9-length t h) (omega arith)) ∙ ap (λ (j : ℕ). get_or (drop 10 t) (i - suc j) 0) (first9-length t h) ∙ get_or-drop 10 t (i - 10) 0 ∙ ap (λ (j : ℕ). get_or t j 0) (omega arith));
}
  where
    past : (p : List ℕ) (c : ℕ) (r : List ℕ) (i : ℕ) → length p < i → get_or (p ++ (c ∷ r)) i 0 ≡ get_or r (i - suc (length p)) 0
    past p c r i l = ap (λ (j : ℕ). get_or (p ++ (c ∷ r)) j 0) (omega arith) ∙ get_or-append-add p (c ∷ r) (suc (i - suc (length p))) 0

pub sealed-again : (t : List ℕ) → 10 ≤ length t → sealed (sealed t) ≡ sealed t
sealed-again t h = alike-sealed (sealed t) t (rw (sealed-length t (omega arith)) h) (sealed-alike t h)

-- ── An edit of a sealed table is that edit of the table before it was sealed
alike_edit : (f : List ℕ → List ℕ) {t u : List ℕ} → length (f t) ≡ length (f u) → ((i : ℕ) → get_or t i 0 ≡ get_or u i 0 → get_or (f t) i 0 ≡ get_or (f u) i 0) → Alike t u → Alike (f t) (f u)
alike_edit f size each a = record {
  size = size;
  low = λ i k. each i (a.low i k);
  middle = each 8 a.middle;
  high = λ i k. each i (a.high i k);
}

same-joined : (p q r s : List ℕ) (i : ℕ) → length p ≡ length q → (i < length p → get_or p i 0 ≡ get_or q i 0) → (length p ≤ i → get_or r (i - length p) 0 ≡ get_or s (i - length p) 0) → get_or (p ++ r) i 0 ≡ get_or (q ++ s) i 0
same-joined p q r s i n e f = split (ltb i (length p)) refl
  where
    split : (x : Bool) → ltb i (length p) ≡ x → get_or (p ++ r) i 0 ≡ get_or (q ++ s) i 0
    split true w = let l = ltb-true i (length p) w in get_or-append p r 0 i l ∙ e l ∙ sym (get_or-append q s 0 i (rw n at l))
    split false w =
        let l = ltb-false i (length p) w in
        ap (λ (j : ℕ). get_or (p ++ r) j 0) (omega arith) ∙ get_or-append-add p r (i - length p) 0 ∙ f l ∙ sym (get_or-append-add q s (i - length p) 0) ∙ ap (λ (j : ℕ). get_or (q ++ s) j 0) (omega arith)

pub sealed-append : (t piece : List ℕ) → 10 ≤ length t → appended (sealed t) piece ≡ appended t piece
unfolding appended
sealed-append t piece h =
    let n = sealed-length t (omega arith) in
    alike-sealed (sealed t ++ piece) (t ++ piece) (simp (length-append, n) (omega arith))
    (alike_edit (λ (x : List ℕ). x ++ piece) (simp (length-append, n)) (λ i e. same-joined (sealed t) t piece piece i n (λ l. e) (λ l. refl)) (sealed-alike t h))

module _ (offset : ℕ) (piece : List ℕ) where
  abbrev pub over : List ℕ → List ℕ
  over t = take offset t ++ (piece ++ drop (offset + length piece) t)

  pub over-length : (t : List ℕ) → offset + length piece ≤ length t → length (over t) ≡ length t
  over-length t k = simp (length-append, length-take, length-drop) (omega arith)

  over-same : (t u : List ℕ) → length t ≡ length u → offset + length piece ≤ length t → (i : ℕ) → get_or t i 0 ≡ get_or u i 0 → get_or (over t) i 0 ≡ get_or (over u) i 0
  over-same t u n k i e =
      let p = length-take-le offset t (omega arith) in
      let q = length-take-le offset u (omega arith) in
      same-joined (take offset t) (take offset u) (piece ++ drop (offset + length piece) t) (piece ++ drop (offset + length piece) u) i (p ∙ sym q)
      (λ l. let m : i < offset = omega arith in get_or-take offset t i 0 m ∙ e ∙ sym (get_or-take offset u i 0 m))
      (λ l. same-joined piece piece (drop (offset + length piece) t) (drop (offset + length piece) u) (i - length (take offset t)) refl (λ m. refl)
      (λ m. let w : offset + length piece + (i - length (take offset t) - length piece) ≡ i = omega arith in simp get_or-drop (rw w e)))

  pub sealed_write : (t : List ℕ) → 10 ≤ length t → offset + length piece ≤ length t → overwritten (sealed t) offset piece ≡ overwritten t offset piece
  unfolding overwritten
  sealed_write t h k =
      let n = sealed-length t (omega arith) in
      let g : offset + length piece ≤ length (sealed t) = omega arith in
      alike-sealed (over (sealed t)) (over t) (rw (over-length (sealed t) g) (omega arith))
      (alike_edit over (over-length (sealed t) g ∙ n ∙ sym (over-length t k)) (over-same (sealed t) t n g) (sealed-alike t h))

-- A table's parts: its identity and its terms are read off it, its sum is 0 and its length field is its length; and a table of bytes
-- for which the last two hold is made of its identity and its terms. Document 01, "Bytes" (Table).
-- Assumes nothing.
use Rattle.std.specs.Prelude.{◌≡◌, ℕ, zero, suc, ◌+◌, ◌-◌, ◌≤◌, ◌<◌, T, set, get_or}
use Rattle.std.proofs.Math.Path.{refl, ap}
use Rattle.std.proofs.Common.{sym, ◌∙◌, arith, ltb→lt, length-append, take-append-drop, length-take-le, drop-drop, get_or-take, get_or-drop, ext_get_or}
use mathlib.Core.List.{List, [], ◌∷◌, ◌++◌, append_assoc, append-nil}
use Rattle.std.proofs.Math.ListN.{length, take, drop, length-take, length-drop}
use Rattle.std.proofs.Math.Seq.{take_at, drop_at, set-get_or, drop-cons}
use Rattle.octets.specs.Bytes.{every, is_byte, le, value, le_at}
use Rattle.octets.specs.Tests.{and_left, and_right, and_both}
use Rattle.octets.specs.Laws.{le-length, le-value}
use Rattle.octets.specs.Sum.{byte_sum, negated}
use Rattle.octets.specs.SumLaws.{total-set, negated-is}
use Rattle.sdt.specs.Table.{opened, measured, sealed}
use Rattle.sdt.specs.TableLaws.{Alike, alike-sealed, sealed-alike, sealed-length, sealed-sums, sealed_field}
use Rattle.whole.specs.Whole.{identity_of}

-- a list from its parts
rejoined : (m n : ℕ) (t : List ℕ) → take m t ++ (take n (drop m t) ++ drop (m + n) t) ≡ t
rejoined m n t = ap (λ x. take m t ++ (take n (drop m t) ++ x)) (sym (drop-drop n m t)) ∙ rw (take-append-drop n (drop m t)) (take-append-drop m t)

-- ── An opened table, of an identity of 31 bytes
module _ (id c : List ℕ) (i : length id ≡ 31) where
  opened-length : length (opened id c) ≡ 36 + length c
  unfolding opened
  opened-length = simp (length-append, length-take, length-drop, le-length) (omega arith)

  opened-eight : drop 8 (opened id c) ≡ take 1 (drop 4 id) ++ (0 ∷ (drop 5 id ++ c))
  unfolding opened
  opened-eight =
      let l : length (take 4 id ++ le 4 0) ≡ 8 = simp (length-append, length-take, le-length) (omega arith) in
      let e : take 4 id ++ (le 4 0 ++ (take 1 (drop 4 id) ++ (0 ∷ (drop 5 id ++ c)))) ≡ (take 4 id ++ le 4 0) ++ (take 1 (drop 4 id) ++ (0 ∷ (drop 5 id ++ c))) = simp append_assoc in
      rw e (drop_at (take 4 id ++ le 4 0) _ 8 l)

  opened-ten : drop 10 (opened id c) ≡ drop 5 id ++ c
  opened-ten =
      let l : length (take 1 (drop 4 id) ++ (0 ∷ [])) ≡ 2 = simp (length-append, length-take, length-drop) (omega arith) in
      let e : take 1 (drop 4 id) ++ (0 ∷ (drop 5 id ++ c)) ≡ (take 1 (drop 4 id) ++ (0 ∷ [])) ++ (drop 5 id ++ c) = simp append_assoc in
      sym (drop-drop 2 8 (opened id c)) ∙ rw (opened-eight, e) (drop_at (take 1 (drop 4 id) ++ (0 ∷ [])) _ 2 l)

  opened_contents : drop 36 (opened id c) ≡ c
  opened_contents = sym (drop-drop 26 10 (opened id c)) ∙ rw opened-ten (drop_at (drop 5 id) c 26 (simp length-drop (omega arith)))

  opened-four : take 4 (opened id c) ≡ take 4 id
  unfolding opened
  opened-four = take_at (take 4 id) _ 4 (length-take-le 4 id (omega arith))

  opened-identity : identity_of (opened id c) ≡ id
  unfolding identity_of
  opened-identity =
      let p : take 1 (take 1 (drop 4 id) ++ (0 ∷ (drop 5 id ++ c))) ≡ take 1 (drop 4 id) = take_at (take 1 (drop 4 id)) _ 1 (simp (length-take, length-drop) (omega arith)) in
      let q : take 26 (drop 5 id ++ c) ≡ drop 5 id = take_at (drop 5 id) c 26 (simp length-drop (omega arith)) in
      rw (opened-four, opened-eight, opened-ten, p, q) (rejoined 4 1 id)

-- ── Tables alike have the same identity and terms
module _ {t u : List ℕ} (h : 36 ≤ length t) (a : Alike t u) where
  alike-four : take 4 t ≡ take 4 u
  alike-four =
      ext_get_or 0 (take 4 t) (take 4 u) (simp length-take (omega (arith, a.size)))
      (λ i l. let k : i < 4 = omega (arith, length-take 4 t) in rw (get_or-take 4 t i 0 k, get_or-take 4 u i 0 k) (a.low i k))

  alike-ten : drop 10 t ≡ drop 10 u
  alike-ten =
      ext_get_or 0 (drop 10 t) (drop 10 u) (simp length-drop (omega (arith, a.size)))
      (λ i l. rw (get_or-drop 10 t i 0, get_or-drop 10 u i 0) (a.high (10 + i) (omega arith)))

  alike_contents : drop 36 t ≡ drop 36 u
  alike_contents = sym (drop-drop 26 10 t) ∙ rw alike-ten (drop-drop 26 10 u)

  alike-identity : identity_of t ≡ identity_of u
  unfolding identity_of
  alike-identity =
      let s = a.size in
      let p = drop-cons t 8 0 (omega arith) in
      let q = drop-cons u 8 0 (omega arith) in
      rw (alike-four, alike-ten, p, q, a.middle) refl

-- ── A sealed table
module _ (id c : List ℕ) (i : length id ≡ 31) where
  pub table-length : length (sealed (opened id c)) ≡ 36 + length c
  table-length = sealed-length (opened id c) (omega (arith, opened-length id c i)) ∙ opened-length id c i

  alike : Alike (sealed (opened id c)) (opened id c)
  alike = sealed-alike (opened id c) (omega (arith, opened-length id c i))

  pub table_contents : drop 36 (sealed (opened id c)) ≡ c
  table_contents = alike_contents (omega (arith, table-length)) alike ∙ opened_contents id c i

  pub table-identity : identity_of (sealed (opened id c)) ≡ id
  table-identity = alike-identity (omega (arith, table-length)) alike ∙ opened-identity id c i

  pub table-sum : byte_sum (sealed (opened id c)) ≡ 0
  table-sum = sealed-sums (opened id c) (omega (arith, opened-length id c i))

  pub table_field : 36 + length c < 4294967296 → le_at 4 (sealed (opened id c)) 4 ≡ length (sealed (opened id c))
  table_field h =
      let n = opened-length id c i in
      rw append-nil at (sealed_field (opened id c) (omega arith) [] (omega arith)) ∙ sym (sealed-length (opened id c) (omega arith))

-- ── What is opened of a table's identity and terms is like it
alike_of : (t u : List ℕ) → length t ≡ length u → take 4 t ≡ take 4 u → take 1 (drop 8 t) ≡ take 1 (drop 8 u) → drop 10 t ≡ drop 10 u → Alike t u
alike_of t u n p q r = record {
  size = n;
  low = λ i k. sym (get_or-take 4 t i 0 k) ∙ rw p (get_or-take 4 u i 0 k);
  middle = eight t ∙ rw q (sym (eight u));
  high = λ i k. ten t i k ∙ rw r (sym (ten u i k));
}
  where
    eight : (t : List ℕ) → get_or t 8 0 ≡ get_or (take 1 (drop 8 t)) 0 0
    eight t = sym (get_or-take 1 (drop 8 t) 0 0 (omega arith) ∙ get_or-drop 8 t 0 0)

    ten : (t : List ℕ) (i : ℕ) → 10 ≤ i → get_or t i 0 ≡ get_or (drop 10 t) (i - 10) 0
    ten t i k = ap (λ j. get_or t j 0) (omega arith) ∙ sym (get_or-drop 10 t (i - 10) 0)

module _ (t : List ℕ) (h : 36 ≤ length t) where
  pub identity-length : length (identity_of t) ≡ 31
  unfolding identity_of
  identity-length = simp (length-append, length-take, length-drop) (omega arith)

  identity-four : take 4 (identity_of t) ≡ take 4 t
  unfolding identity_of
  identity-four = take_at (take 4 t) _ 4 (length-take-le 4 t (omega arith))

  identity-behind : drop 4 (identity_of t) ≡ take 1 (drop 8 t) ++ take 26 (drop 10 t)
  unfolding identity_of
  identity-behind = drop_at (take 4 t) _ 4 (length-take-le 4 t (omega arith))

  eight-length : length (take 1 (drop 8 t)) ≡ 1
  eight-length = simp (length-take, length-drop) (omega arith)

  identity_five : drop 5 (identity_of t) ≡ take 26 (drop 10 t)
  identity_five = sym (drop-drop 1 4 (identity_of t)) ∙ rw identity-behind (drop_at (take 1 (drop 8 t)) _ 1 eight-length)

  opened-alike : Alike (opened (identity_of t) (drop 36 t)) t
  opened-alike =
      let i = identity-length in
      let c = drop 36 t in
      let w : take 1 (drop 4 (identity_of t)) ≡ take 1 (drop 8 t) = rw identity-behind (take_at (take 1 (drop 8 t)) _ 1 eight-length) in
      let d : take 26 (drop 10 t) ++ drop 36 t ≡ drop 10 t = ap (λ x. take 26 (drop 10 t) ++ x) (sym (drop-drop 26 10 t)) ∙ take-append-drop 26 (drop 10 t) in
      alike_of (opened (identity_of t) c) t (opened-length (identity_of t) c i ∙ rw (length-drop 36 t) (omega arith))
      (opened-four (identity_of t) c i ∙ identity-four)
      (rw (opened-eight (identity_of t) c i, w) (take_at (take 1 (drop 8 t)) _ 1 eight-length))
      (opened-ten (identity_of t) c i ∙ rw identity_five d)

-- ── Bytes with their own length and sum 0 are sealed
byte_at : (t : List ℕ) (j : ℕ) → T (every is_byte t) → get_or t j 0 < 256
unfolding every
byte_at [] j h = omega arith
byte_at (b ∷ t) zero h = ltb→lt b 256 (and_left (is_byte b) (every is_byte t) h)
byte_at (b ∷ t) (suc j) h = byte_at t j (and_right (is_byte b) (every is_byte t) h)

every_drop : (t : List ℕ) (n : ℕ) → T (every is_byte t) → T (every is_byte (drop n t))
unfolding every
every_drop t zero h = h
every_drop [] (suc n) h = tt
every_drop (b ∷ t) (suc n) h = every_drop t n (and_right (is_byte b) (every is_byte t) h)

every_take : (t : List ℕ) (n : ℕ) → T (every is_byte t) → T (every is_byte (take n t))
unfolding every
every_take t zero h = tt
every_take [] (suc n) h = tt
every_take (b ∷ t) (suc n) h = and_both (is_byte b) _ (and_left (is_byte b) (every is_byte t) h) (every_take t n (and_right (is_byte b) (every is_byte t) h))

module _ (t : List ℕ) (b : T (every is_byte t)) (h : 36 ≤ length t) where
  measured-own : le_at 4 t 4 ≡ length t → measured t ≡ t
  unfolding measured le_at
  measured-own e =
      let n : length (take 4 (drop 4 t)) ≡ 4 = simp (length-take, length-drop) (omega arith) in
      let v : le 4 (value (take 4 (drop 4 t))) ≡ take 4 (drop 4 t) = ap (λ k. le k (value (take 4 (drop 4 t)))) (sym n) ∙ le-value (take 4 (drop 4 t)) (every_take (drop 4 t) 4 (every_drop t 4 b)) in
      ap (λ k. take 4 t ++ (le 4 k ++ drop 8 t)) (sym e) ∙ rw v (rejoined 4 4 t)

  checksum-own : byte_sum t ≡ 0 → get_or t 9 0 ≡ negated (byte_sum (set t 9 0))
  unfolding byte_sum
  checksum-own z = negated-is (byte_sum (set t 9 0)) (get_or t 9 0) (omega (arith, total-set t 9 0 (omega arith), z)) (byte_at t 9 b)

  sealed-own : le_at 4 t 4 ≡ length t → byte_sum t ≡ 0 → sealed t ≡ t
  unfolding sealed
  sealed-own e z = rw (measured-own e) (ap (set t 9) (sym (checksum-own z)) ∙ set-get_or t 9 0)

  pub table-back : le_at 4 t 4 ≡ length t → byte_sum t ≡ 0 → sealed (opened (identity_of t) (drop 36 t)) ≡ t
  table-back e z =
      let n = opened-length (identity_of t) (drop 36 t) (identity-length t h) in
      alike-sealed (opened (identity_of t) (drop 36 t)) t (omega arith) (opened-alike t h) ∙ sealed-own e z

-- Laws of the byte sum and of the checksum, and the loop that adds the bytes.
use Rattle.std.specs.Prelude.{◌≡◌, ℕ, zero, suc, ◌+◌, ◌%◌, ◌<◌, ◌≤◌, List, [], ◌∷◌, ◌++◌, length, drop, slice_index, slice_set}
use Rattle.std.proofs.Common.{arith, add-one, drop_of_length-le, drop-cons}
use Rattle.octets.specs.Sum.{byte_sum, negated, total}

-- ── Laws
pub total-append : (a b : List ℕ) → total (a ++ b) ≡ total a + total b
unfolding total
total-append [] b = omega arith
total-append (x ∷ a) b = let e = total-append a b in omega arith

pub sum-append : (a b : List ℕ) → byte_sum (a ++ b) ≡ (byte_sum a + byte_sum b) % 256
unfolding byte_sum
sum-append a b = omega (arith, total-append a b)

pub total-set : (bs : List ℕ) (i v : ℕ) → i < length bs → total (slice_set bs i v) + slice_index bs i ≡ total bs + v
unfolding total
total-set [] i v h = absurd (omega arith)
total-set (b ∷ bs) zero v h = omega arith
total-set (b ∷ bs) (suc i) v h = let e = total-set bs i v (omega arith) in omega arith

-- a table whose byte i is the negated sum of itself with 0 there sums to 0
pub sums_to_zero : (t : List ℕ) (i : ℕ) → i < length t → byte_sum (slice_set t i (negated (byte_sum (slice_set t i 0)))) ≡ 0
unfolding byte_sum negated
sums_to_zero t i h = omega (arith, total-set t i 0 h, total-set t i (negated (byte_sum (slice_set t i 0))) h)

-- ── The loop: the bytes from i on are left to add
pub record Summing (b : List ℕ) (s i : ℕ) : Type 0 where
  pub sum : (s + total (drop i b)) % 256 ≡ total b % 256
  pub small : s < 256

pub summing_start : (b : List ℕ) → Summing b 0 0
summing_start b = record { sum = omega arith; small = omega arith }

pub summing_turn : {b : List ℕ} {s i r : ℕ} → Summing b s i → i < length b → r ≡ (s + slice_index b i) % 256 → Summing b r (i + 1)
unfolding total
summing_turn {b} {s} {i} {r} h lt e =
    let t : total (drop i b) ≡ slice_index b i + total (drop (i + 1) b) = rw (add-one, drop-cons b i 0 lt) in
    record { sum = omega (arith, h.sum); small = omega arith }

pub summing_end : {b : List ℕ} {s i : ℕ} → Summing b s i → length b ≤ i → s ≡ byte_sum b
unfolding total byte_sum
summing_end {b} {s} {i} h le = let t : total (drop i b) ≡ 0 = rw (drop_of_length-le b le) in omega (arith, h.sum, h.small)

pub negated-is : (s r : ℕ) → (r + s) % 256 ≡ 0 → r < 256 → r ≡ negated s
unfolding negated
negated-is s r e h = omega arith

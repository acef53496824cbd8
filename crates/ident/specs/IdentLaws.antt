-- Laws of identifiers: their characters stand where the definitions say, and their values are small.
-- Assumes nothing.
use Rattle.std.specs.Prelude.{◌≡◌, refl, Bool, true, false, ◌&&◌, ◌||◌, List, ℕ, suc, ◌+◌, ◌-◌, ◌/◌, ◌^◌, ◌≤◌, ◌<◌, leb, eqb, length, take, drop, get_or}
use Rattle.std.proofs.Common.{sym, ◌∙◌, eq-eqb, ne_eqb, le-leb, leb→le, lt→ltb, get_or-take, get_or-drop, take_all}
use native.Mathlib.Omega.{arith}
use Rattle.std.proofs.Math.Nat.{div-div-eq-div-mul}
use Rattle.std.proofs.lemmas.Bool.{lt-leb}
use Rattle.std.proofs.Math.Dec.{T, eqb→eq}
use Rattle.std.proofs.Math.ListN.{length-take, length-drop}
use Rattle.std.proofs.Common.{w32}
use Rattle.std.specs.Int as int
use Rattle.octets.specs.Bytes.{every, is_byte, le, value}
use Rattle.octets.specs.Tests.{and_left, and_right, or_case, true_test}
use Rattle.ident.specs.Parts.{is_hyphened, is_pair, pair_byte}
use Rattle.ident.specs.Each.{every-at, every_map}
use Rattle.ident.specs.Ident.{is_letter, is_hex, hex_digit, char, is_eisa, swap_bytes, eisa_id, uuid_places, is_uuid, uuid_bytes}

-- ── A length and two more tests, as either identifier has them
pub sized_not : {m n : ℕ} (a b : Bool) → (m ≡ n → ⊥) → false ≡ (eqb m n && a && b)
sized_not {m} {n} a b h = rw (ne_eqb m n h) refl

pub sized_so : {m n : ℕ} → eqb m n ≡ true → m ≡ n
sized_so {m} {n} e = eqb→eq m n (true_test _ e)

-- ── Characters
pub in_range_lem : (m b n : ℕ) → T (leb m b && leb b n) → (m ≤ b) × (b ≤ n)
in_range_lem m b n t = (leb→le m b (and_left (leb m b) (leb b n) t), leb→le b n (and_right (leb m b) (leb b n) t))

pub letter_is : (b : ℕ) → T (is_letter b) → (65 ≤ b) × (b ≤ 90)
unfolding is_letter
letter_is b t = in_range_lem 65 b 90 t

-- a digit is in one of three ranges
pub hex_case : {C : Type 0} (b : ℕ) → T (is_hex b) → (48 ≤ b → b ≤ 57 → C) → (65 ≤ b → b ≤ 70 → C) → (97 ≤ b → b ≤ 102 → C) → C
unfolding is_hex
hex_case b t f g h =
    or_case (leb 48 b && leb b 57 || leb 65 b && leb b 70) (leb 97 b && leb b 102) t
    (λ s. or_case (leb 48 b && leb b 57) (leb 65 b && leb b 70) s (within 48 57 f) (within 65 70 g))
    (within 97 102 h)
  where
    within : {C : Type 0} (m n : ℕ) → (m ≤ b → b ≤ n → C) → T (leb m b && leb b n) → C
    within m n k t = let (l, u) = in_range_lem m b n t in k l u

-- where it can stand, as the code asks it
pub record Hex (b : ℕ) : Type 0 where
  pub low : 48 ≤ b
  pub upper : 57 < b → 65 ≤ b
  pub lower : 70 < b → 97 ≤ b
  pub top : b ≤ 102

pub hex_is : (b : ℕ) → T (is_hex b) → Hex b
hex_is b t =
    hex_case b t
    (λ l u. record { low = l; upper = λ h. absurd (omega arith); lower = λ h. absurd (omega arith); top = omega arith })
    (λ l u. record { low = omega arith; upper = λ h. l; lower = λ h. absurd (omega arith); top = omega arith })
    (λ l u. record { low = omega arith; upper = λ h. omega arith; lower = λ h. l; top = u })

-- its value, by which of the three ranges it is in
pub digit_figure : (b : ℕ) → b ≤ 57 → b - 48 ≡ hex_digit b
unfolding hex_digit
digit_figure b h = rw (le-leb b 57 h) refl

pub digit_upper : (b : ℕ) → 57 < b → b ≤ 70 → b - 55 ≡ hex_digit b
unfolding hex_digit
digit_upper b h k = rw (lt-leb b 57 h, le-leb b 70 k) refl

pub digit_lower : (b : ℕ) → 70 < b → b - 87 ≡ hex_digit b
unfolding hex_digit
digit_lower b h = let k : 57 < b = omega arith in rw (lt-leb b 57 k, lt-leb b 70 h) refl

pub hex_small : (b : ℕ) → T (is_hex b) → hex_digit b < 16
hex_small b t =
    hex_case b t
    (λ l u. omega (arith, digit_figure b u))
    (λ l u. omega (arith, digit_upper b (omega arith) u))
    (λ l u. omega (arith, digit_lower b (omega arith)))

-- ── EISA id
module _ (t : List ℕ) (h : T (is_eisa t)) where
  pub eisa-length : length t ≡ 7
  unfolding is_eisa
  eisa-length = eqb→eq (length t) 7 (search (and_left, and_right))

  pub letter_at : (i : ℕ) → i < 3 → T (is_letter (char t i))
  unfolding is_eisa
  letter_at i l =
      let n = eisa-length in
      let e : T (every is_letter (take 3 t)) = search (and_left, and_right) in
      rw (get_or-take 3 t i 0 l) at (every-at is_letter (take 3 t) e i (rw length-take (omega arith)))

  pub digit_at_lem : (i : ℕ) → 3 ≤ i → i < 7 → T (is_hex (char t i))
  unfolding is_eisa
  digit_at_lem i k l =
      let n = eisa-length in
      let e : T (every is_hex (drop 3 t)) = search (and_left, and_right) in
      let p : 3 + (i - 3) ≡ i = omega arith in
      rw (get_or-drop 3 t (i - 3) 0, p) at (every-at is_hex (drop 3 t) e (i - 3) (rw length-drop (omega arith)))

-- the two parts as they are lent to the tests
module _ (t : List ℕ) (n : length t ≡ 7) {r : Bool} (e : r ≡ every is_letter (take 3 t)) where
  pub eisa-not_letters : r ≡ false → false ≡ is_eisa t
  unfolding is_eisa
  eisa-not_letters f = rw (eq-eqb _ _ n, sym e ∙ f) refl

  pub eisa-digits : r ≡ true → every is_hex (take (length t - 3) (drop 3 t)) ≡ is_eisa t
  unfolding is_eisa
  eisa-digits f = rw (take_all (length t - 3) (drop 3 t) (rw length-drop (omega arith)), eq-eqb _ _ n, sym e ∙ f) refl

-- the library's method does the same
pub swap_is : (n : ℕ) → n < 2 ^ 32 → int.swap_bytes w32 n ≡ swap_bytes n
unfolding swap_bytes le value
swap_is n h =
    let e : n / 65536 ≡ n / 256 / 256 = sym (div-div-eq-div-mul n 256 256) in
    let f : n / 16777216 ≡ n / 256 / 256 / 256 = sym (div-div-eq-div-mul n 256 65536) ∙ sym (div-div-eq-div-mul (n / 256) 256 256) in
    rw (e, f) (omega arith)

pub eisa-small : (t : List ℕ) → eisa_id t < 2 ^ 32
unfolding eisa_id swap_bytes le value
eisa-small t = omega arith

-- ── UUID
pub place-small : (k : ℕ) → k < 16 → get_or uuid_places k 0 ≤ 34
unfolding every
place-small k h = leb→le (get_or uuid_places k 0) 34 (every-at (λ p. leb p 34) uuid_places tt k h)

pub uuid-length : (t : List ℕ) → length (uuid_bytes t) ≡ 16
unfolding uuid_bytes
uuid-length t = refl

-- the two tests behind that of the length
module _ (t : List ℕ) (n : length t ≡ 36) {r : Bool} (e : r ≡ is_hyphened t) where
  pub uuid-not_hyphened : r ≡ false → false ≡ is_uuid t
  unfolding is_uuid
  uuid-not_hyphened f = rw (eq-eqb _ _ n, sym e ∙ f) refl

  pub uuid-pairs : r ≡ true → every (is_pair t) uuid_places ≡ is_uuid t
  unfolding is_uuid
  uuid-pairs f = rw (eq-eqb _ _ n, sym e ∙ f) refl

module _ (t : List ℕ) (h : T (is_uuid t)) where
  pub uuid-text-length : length t ≡ 36
  unfolding is_uuid
  uuid-text-length = eqb→eq (length t) 36 (search (and_left, and_right))

  pub pairs_are : T (every (is_pair t) uuid_places)
  unfolding is_uuid
  pairs_are = search (and_left, and_right)

  pub pair_at : (k : ℕ) → k < 16 → T (is_pair t (get_or uuid_places k 0))
  pair_at k l = every-at (is_pair t) uuid_places pairs_are k l

pub pair_small : (t : List ℕ) (i : ℕ) → T (is_pair t i) → pair_byte t i < 256
pair_small t i h =
    let a = hex_small (char t i) (and_left (is_hex (char t i)) (is_hex (char t (suc i))) h) in
    let b = hex_small (char t (suc i)) (and_right (is_hex (char t i)) (is_hex (char t (suc i))) h) in
    omega arith

pub uuid-bytes-are : (t : List ℕ) → T (is_uuid t) → T (every is_byte (uuid_bytes t))
unfolding uuid_bytes
uuid-bytes-are t h = every_map (is_pair t) is_byte (pair_byte t) (λ i p. lt→ltb (pair_byte t i) 256 (pair_small t i p)) uuid_places (pairs_are t h)

-- Laws of Spelled: the text of a well_formed_lem identifier is had back with its digits raised, and so two texts are the same
-- identifier exactly if they are equal up to the case of their digits.
-- Assumes nothing.
use Rattle.std.specs.Prelude.{◌≡◌, Bool, ◌&&◌, ℕ, zero, suc, ◌+◌, ◌-◌, ◌*◌, ◌/◌, ◌%◌, ◌^◌, ◌≤◌, ◌<◌, leb, length, drop, get_or}
use Rattle.std.proofs.Math.Path.{refl, sym, ap}
use Rattle.std.proofs.Common.{◌∙◌, arith, le-leb, lt-ltb, le-ltb, ltb→lt, lt→ltb, drop_of_length-le, drop-cons}
use mathlib.Core.List.{List, [], ◌∷◌, map, reverse, map-map, map_congr_left}
use Rattle.std.proofs.lemmas.Bool.{lt-leb}
use Rattle.std.proofs.Math.Dec.{T, ltb, eqb, eqb→eq}
use Rattle.std.proofs.Math.ListN
use Rattle.octets.specs.Bytes.{every, is_byte, le, value}
use Rattle.octets.specs.Tests.{and_left, and_right, and_both, cond_case}
use Rattle.octets.specs.Laws.{le-value, value-le}
use Rattle.ident.specs.Ident.{is_hex, hex_digit, char, digit_at, is_eisa, eisa_bits, swap_bytes, eisa_id, uuid_places, hyphen_places, is_uuid, uuid_bytes}
use Rattle.ident.specs.Parts.{pair_byte, is_hyphened}
use Rattle.ident.specs.Each.{every-at}
use Rattle.ident.specs.IdentLaws.{in_range_lem, letter_is, hex_case, hex_small, digit_figure, digit_upper, digit_lower, eisa-length, letter_at, digit_at_lem, uuid-text-length, pair_at}
use Rattle.ident.specs.Spelled.{raise, raised, upper_hex, bits_text, eisa_text, digits_of, uuid_text}

-- ── Characters
raise-low : (b : ℕ) → b ≤ 96 → raise b ≡ b
unfolding raise
raise-low b h = rw (lt-leb 97 b (omega arith)) refl

raise-lower : (b : ℕ) → 97 ≤ b → b ≤ 102 → raise b ≡ b - 32
unfolding raise
raise-lower b h k = rw (le-leb 97 b h, le-leb b 102 k) refl

upper_figure : (d : ℕ) → d < 10 → upper_hex d ≡ d + 48
unfolding upper_hex
upper_figure d h = rw (lt-ltb d 10 h) refl

upper_letter : (d : ℕ) → 10 ≤ d → upper_hex d ≡ d + 55
unfolding upper_hex
upper_letter d h = rw (le-ltb d 10 h) refl

-- a digit is had back from its value
pub digit_back : (b : ℕ) → T (is_hex b) → upper_hex (hex_digit b) ≡ raise b
digit_back b t =
    hex_case b t
    (λ l u. rw (← digit_figure b u) (upper_figure (b - 48) (omega arith) ∙ omega (arith, raise-low b (omega arith))))
    (λ l u. rw (← digit_upper b (omega arith) u) (upper_letter (b - 55) (omega arith) ∙ omega (arith, raise-low b (omega arith))))
    (λ l u. rw (← digit_lower b (omega arith)) (upper_letter (b - 87) (omega arith) ∙ omega (arith, raise-lower b l u)))

-- its value does not depend on its case
pub digit_raised : (b : ℕ) → hex_digit (raise b) ≡ hex_digit b
unfolding raise
digit_raised b =
    cond_case (λ (x : ℕ). hex_digit x ≡ hex_digit b) (leb 97 b && leb b 102) (b - 32) b
    (λ t. let (l, u) = in_range_lem 97 b 102 t in sym (digit_upper (b - 32) (omega arith) (omega arith)) ∙ omega (arith, digit_lower b (omega arith)))
    (λ t. refl)

pub char-raised : (t : List ℕ) (i : ℕ) → char (raised t) i ≡ raise (char t i)
unfolding raise
char-raised t i = ListN.get_or-map raise t i 0

digit_at-raised : (t : List ℕ) (i : ℕ) → digit_at (raised t) i ≡ digit_at t i
digit_at-raised t i = ap hex_digit (char-raised t i) ∙ digit_raised (char t i)

-- ── A text by its characters
abbrev places : ℕ → ℕ → List ℕ
places k zero = []
places k (suc n) = k ∷ places (suc k) n

drop_chars : (t : List ℕ) (k n : ℕ) → length t ≡ k + n → drop k t ≡ map (char t) (places k n)
drop_chars t k zero e = drop_of_length-le t {i = k} (omega arith)
drop_chars t k (suc n) e = drop-cons t k 0 (omega arith) ∙ ap (λ (l : List ℕ). char t k ∷ l) (drop_chars t (suc k) n (omega arith))

-- the text raised, character by character
raised_chars : (t : List ℕ) (n : ℕ) → length t ≡ n → raised t ≡ map (λ i. raise (char t i)) (places 0 n)
raised_chars t n e = ap raised (drop_chars t 0 n (omega arith)) ∙ map-map raise (char t) (places 0 n)

-- ── Both directions, for either identifier
module _ {A : Type 0} (good : List ℕ → Bool) (val : List ℕ → A) (text : A → List ℕ)
    (back : (t : List ℕ) → T (good t) → text (val t) ≡ raised t) (again : (t : List ℕ) → T (good t) → val (raised t) ≡ val t) where
  same : (t u : List ℕ) → T (good t) → T (good u) → (val t ≡ val u → raised t ≡ raised u) × (raised t ≡ raised u → val t ≡ val u)
  same t u g h = (λ e. sym (back t g) ∙ ap text e ∙ back u h, λ e. sym (again t g) ∙ ap val e ∙ again u h)

-- ── EISA id
low-bytes : (xs : List ℕ) → T (every is_byte (map (λ x. x % 256) xs))
unfolding every
low-bytes [] = tt
low-bytes (x ∷ xs) = and_both (is_byte (x % 256)) _ (lt→ltb (x % 256) 256 (omega arith)) (low-bytes xs)

pub swap_swap : (n : ℕ) → n < 2 ^ 32 → swap_bytes (swap_bytes n) ≡ n
unfolding swap_bytes le
swap_swap n h =
    let e = le-value _ (low-bytes (n / 256 / 256 / 256 ∷ n / 256 / 256 ∷ n / 256 ∷ n ∷ [])) in
    ap (λ (l : List ℕ). value (reverse l)) e ∙ value-le 4 n h

-- seven numbers are had back from the bits in which they stand
bits_back : (a b c d e f g : ℕ) → a < 32 → b < 32 → c < 32 → d < 16 → e < 16 → f < 16 → g < 16 →
    bits_text (2 ^ 26 * a + 2 ^ 21 * b + 2 ^ 16 * c + 2 ^ 12 * d + 2 ^ 8 * e + 2 ^ 4 * f + g)
    ≡ (a + 64) ∷ (b + 64) ∷ (c + 64) ∷ upper_hex d ∷ upper_hex e ∷ upper_hex f ∷ upper_hex g ∷ []
unfolding bits_text
bits_back a b c d e f g ha hb hc hd he hf hg =
    let n = 2 ^ 26 * a + 2 ^ 21 * b + 2 ^ 16 * c + 2 ^ 12 * d + 2 ^ 8 * e + 2 ^ 4 * f + g in
    let ea : n / 2 ^ 26 % 32 ≡ a = omega arith in
    let eb : n / 2 ^ 21 % 32 ≡ b = omega arith in
    let ec : n / 2 ^ 16 % 32 ≡ c = omega arith in
    let ed : n / 2 ^ 12 % 16 ≡ d = omega arith in
    let ee : n / 2 ^ 8 % 16 ≡ e = omega arith in
    let ef : n / 2 ^ 4 % 16 ≡ f = omega arith in
    let eg : n % 16 ≡ g = omega arith in
    rw (ea, eb, ec, ed, ee, ef, eg) refl

module _ (t : List ℕ) (h : T (is_eisa t)) where
  letter_range : (i : ℕ) → i < 3 → (65 ≤ char t i) × (char t i ≤ 90)
  letter_range i k = letter_is (char t i) (letter_at t h i k)

  letter_back : (i : ℕ) → i < 3 → char t i - 64 + 64 ≡ raise (char t i)
  letter_back i k = let (l, u) = letter_range i k in omega (arith, raise-low (char t i) (omega arith))

  digit_small : (i : ℕ) → 3 ≤ i → i < 7 → digit_at t i < 16
  digit_small i k u = hex_small (char t i) (digit_at_lem t h i k u)

  text_digit : (i : ℕ) → 3 ≤ i → i < 7 → upper_hex (digit_at t i) ≡ raise (char t i)
  text_digit i k u = digit_back (char t i) (digit_at_lem t h i k u)

  pub bits_small : eisa_bits t < 2 ^ 32
  unfolding eisa_bits
  bits_small =
      omega (arith, letter_range 0 (omega arith), letter_range 1 (omega arith), letter_range 2 (omega arith), digit_small 3 (omega arith) (omega arith), digit_small 4 (omega arith) (omega arith), digit_small 5 (omega arith) (omega arith), digit_small 6 (omega arith) (omega arith))

  bits_text_lem : bits_text (eisa_bits t) ≡ map (λ i. raise (char t i)) (places 0 7)
  unfolding eisa_bits
  bits_text_lem =
      bits_back _ _ _ _ _ _ _
      (omega (arith, letter_range 0 (omega arith))) (omega (arith, letter_range 1 (omega arith))) (omega (arith, letter_range 2 (omega arith)))
      (digit_small 3 (omega arith) (omega arith)) (digit_small 4 (omega arith) (omega arith)) (digit_small 5 (omega arith) (omega arith)) (digit_small 6 (omega arith) (omega arith))
      ∙ rw (letter_back 0 (omega arith), letter_back 1 (omega arith), letter_back 2 (omega arith), text_digit 3 (omega arith) (omega arith), text_digit 4 (omega arith) (omega arith), text_digit 5 (omega arith) (omega arith), text_digit 6 (omega arith) (omega arith)) refl

  pub eisa-back : eisa_text (eisa_id t) ≡ raised t
  unfolding eisa_text eisa_id
  eisa-back = ap bits_text (swap_swap (eisa_bits t) bits_small) ∙ bits_text_lem ∙ sym (raised_chars t 7 (eisa-length t h))

  letter_raised : (i : ℕ) → i < 3 → char (raised t) i ≡ char t i
  letter_raised i k = let (l, u) = letter_range i k in char-raised t i ∙ raise-low (char t i) (omega arith)

  pub eisa-raised : eisa_id (raised t) ≡ eisa_id t
  unfolding eisa_id eisa_bits
  eisa-raised =
      rw (letter_raised 0 (omega arith), letter_raised 1 (omega arith), letter_raised 2 (omega arith), digit_at-raised t 3, digit_at-raised t 4, digit_at-raised t 5, digit_at-raised t 6) refl

-- equal ids exactly where the texts are equal up to the case of their digits
pub eisa-same : (t u : List ℕ) → T (is_eisa t) → T (is_eisa u) → (eisa_id t ≡ eisa_id u → raised t ≡ raised u) × (raised t ≡ raised u → eisa_id t ≡ eisa_id u)
eisa-same = same is_eisa eisa_id eisa_text eisa-back eisa-raised

-- ── UUID
pub uuid-raised : (t : List ℕ) → uuid_bytes (raised t) ≡ uuid_bytes t
unfolding uuid_bytes
uuid-raised t = map_congr_left {f = pair_byte (raised t)} {g = pair_byte t} {l = uuid_places} (λ i _. rw (digit_at-raised t i, digit_at-raised t (suc i)) refl)

get_or-map : (m : ℕ → ℕ) (ps : List ℕ) (k : ℕ) → k < length ps → get_or (map m ps) k 0 ≡ m (get_or ps k 0)
get_or-map m [] k h = absurd (omega arith)
get_or-map m (p ∷ ps) zero h = refl
get_or-map m (p ∷ ps) (suc k) h = get_or-map m ps k (omega arith)

-- where the digits of the bytes at ks stand in the text
abbrev spread : List ℕ → List ℕ
spread [] = []
spread (k ∷ ks) = get_or uuid_places k 0 ∷ suc (get_or uuid_places k 0) ∷ spread ks

module _ (t : List ℕ) (h : T (is_uuid t)) where
  pair_back : (k : ℕ) → k < 16 → (upper_hex (get_or (uuid_bytes t) k 0 / 16) ≡ raise (char t (get_or uuid_places k 0))) × (upper_hex (get_or (uuid_bytes t) k 0 % 16) ≡ raise (char t (suc (get_or uuid_places k 0))))
  unfolding uuid_bytes
  pair_back k l = halves (char t (get_or uuid_places k 0)) (char t (suc (get_or uuid_places k 0))) (get_or-map (pair_byte t) uuid_places k l) (pair_at t h k l)
    where
      halves : (a b : ℕ) {x : ℕ} → x ≡ 16 * hex_digit a + hex_digit b → T (is_hex a && is_hex b) → (upper_hex (x / 16) ≡ raise a) × (upper_hex (x % 16) ≡ raise b)
      halves a b {x} e p =
          let pa = and_left (is_hex a) (is_hex b) p in
          let pb = and_right (is_hex a) (is_hex b) p in
          let hi : x / 16 ≡ hex_digit a = omega (arith, hex_small b pb) in
          let lo : x % 16 ≡ hex_digit b = omega (arith, hex_small b pb) in
          (ap upper_hex hi ∙ digit_back a pa, ap upper_hex lo ∙ digit_back b pb)

  group_back : (ks : List ℕ) → T (every (λ k. ltb k 16) ks) → digits_of (uuid_bytes t) ks ≡ map (λ i. raise (char t i)) (spread ks)
  unfolding digits_of every
  group_back [] p = refl
  group_back (k ∷ ks) p =
      let (a, b) = pair_back k (ltb→lt k 16 (and_left (ltb k 16) (every (λ k. ltb k 16) ks) p)) in
      rw (a, b, group_back ks (and_right (ltb k 16) (every (λ k. ltb k 16) ks) p)) refl

  hyphen_back : (k : ℕ) → k < 4 → 0x2D ≡ raise (char t (get_or hyphen_places k 0))
  unfolding is_uuid
  hyphen_back k l =
      let p : T (is_hyphened t) = search (and_left, and_right) in
      let e = eqb→eq (char t (get_or hyphen_places k 0)) 0x2D (every-at (λ i. eqb (char t i) 0x2D) hyphen_places p k l) in
      omega (arith, raise-low (char t (get_or hyphen_places k 0)) (omega arith))

  pub uuid-back : uuid_text (uuid_bytes t) ≡ raised t
  unfolding uuid_text every
  uuid-back =
      rw (group_back (3 ∷ 2 ∷ 1 ∷ 0 ∷ []) tt, group_back (5 ∷ 4 ∷ []) tt, group_back (7 ∷ 6 ∷ []) tt, group_back (8 ∷ 9 ∷ []) tt, group_back (10 ∷ 11 ∷ 12 ∷ 13 ∷ 14 ∷ 15 ∷ []) tt)
      (rw (raised_chars t 36 (uuid-text-length t h)) (rw (← hyphen_back 0 (omega arith), ← hyphen_back 1 (omega arith), ← hyphen_back 2 (omega arith), ← hyphen_back 3 (omega arith)) refl))

-- equal bytes exactly where the texts are equal up to the case of their digits
pub uuid-same : (t u : List ℕ) → T (is_uuid t) → T (is_uuid u) → (uuid_bytes t ≡ uuid_bytes u → raised t ≡ raised u) × (raised t ≡ raised u → uuid_bytes t ≡ uuid_bytes u)
uuid-same = same is_uuid uuid_bytes uuid_text uuid-back (λ t _. uuid-raised t)

-- Texts had back from identifiers: an EISA id and a UUID with uppercase digits. What an identifier does not keep is the case of its
-- digits, so two texts are the same identifier exactly if they are equal once their digits are raised (`eisa-same`, `uuid-same`).
-- Assumes nothing.
use Rattle.std.specs.Prelude.{◌&&◌, cond, List, [], ◌∷◌, ◌++◌, map, ℕ, ◌+◌, ◌-◌, ◌/◌, ◌%◌, ◌^◌, leb, ltb, get_or}
use Rattle.ident.specs.Ident.{swap_bytes}

-- a to f in uppercase, other characters as they are
unfoldable pub raise : ℕ → ℕ
raise b = cond (leb 97 b && leb b 102) (b - 32) b

abbrev pub raised : List ℕ → List ℕ
raised t = map raise t

-- the digit of a value below 16
unfoldable pub upper_hex : ℕ → ℕ
upper_hex d = cond (ltb d 10) (d + 48) (d + 55)

-- ── EISA id: the letter in the low five bits of n, the digit in its low four
abbrev pub letter_of : ℕ → ℕ
letter_of n = n % 32 + 0x40

abbrev pub digit_of : ℕ → ℕ
digit_of n = upper_hex (n % 16)

unfoldable pub bits_text : ℕ → List ℕ
bits_text n =
    letter_of (n / 2 ^ 26) ∷ letter_of (n / 2 ^ 21) ∷ letter_of (n / 2 ^ 16) ∷
    digit_of (n / 2 ^ 12) ∷ digit_of (n / 2 ^ 8) ∷ digit_of (n / 2 ^ 4) ∷ digit_of n ∷ []

unfoldable pub eisa_text : ℕ → List ℕ
eisa_text n = bits_text (swap_bytes n)

-- ── UUID: the digits of the bytes that stand at the places ks of bs
unfoldable pub digits_of : List ℕ → List ℕ → List ℕ
digits_of bs [] = []
digits_of bs (k ∷ ks) = upper_hex (get_or bs k 0 / 16) ∷ upper_hex (get_or bs k 0 % 16) ∷ digits_of bs ks

unfoldable pub uuid_text : List ℕ → List ℕ
uuid_text bs =
    digits_of bs (3 ∷ 2 ∷ 1 ∷ 0 ∷ []) ++ 0x2D ∷ digits_of bs (5 ∷ 4 ∷ []) ++ 0x2D ∷ digits_of bs (7 ∷ 6 ∷ [])
    ++ 0x2D ∷ digits_of bs (8 ∷ 9 ∷ []) ++ 0x2D ∷ digits_of bs (10 ∷ 11 ∷ 12 ∷ 13 ∷ 14 ∷ 15 ∷ [])

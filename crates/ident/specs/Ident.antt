-- Identifiers spelled as text: an EISA id, which is an integer, and a UUID, which is a buffer of 16 bytes.
-- Document 01, "Bytes" (EISA, UUID); ACPI 6.4, 19.6 (EISAID, ToUUID). `EISAName` and `Uuid` of the crate.
-- Assumes nothing.
use Rattle.std.specs.Prelude.{Bool, ◌&&◌, ◌||◌, cond, List, [], ◌∷◌, map, reverse, ℕ, suc, ◌+◌, ◌-◌, ◌*◌, ◌^◌, eqb, leb, length, take, drop, get_or}
use Rattle.octets.specs.Bytes.{every, le, value}
use Rattle.number.specs.Buffer.{buffer}

unfoldable pub is_letter : ℕ → Bool
is_letter b = leb 65 b && leb b 90

-- a hexadecimal digit, in either case
unfoldable pub is_hex : ℕ → Bool
is_hex b = (leb 48 b && leb b 57) || (leb 65 b && leb b 70) || (leb 97 b && leb b 102)

unfoldable pub hex_digit : ℕ → ℕ
hex_digit b = cond (leb b 57) (b - 48) (cond (leb b 70) (b - 55) (b - 87))

-- the character at place i
abbrev pub char : List ℕ → ℕ → ℕ
char t i = get_or t i 0

abbrev pub digit_at : List ℕ → ℕ → ℕ
digit_at t i = hex_digit (char t i)

-- ── EISA id: three letters and four digits
unfoldable pub is_eisa : List ℕ → Bool
is_eisa t = eqb (length t) 7 && every is_letter (take 3 t) && every is_hex (drop 3 t)

-- letters minus 40h at bits 26, 21, 16; digits at 12, 8, 4, 0
unfoldable pub eisa_bits : List ℕ → ℕ
eisa_bits t =
    2 ^ 26 * (char t 0 - 0x40) + 2 ^ 21 * (char t 1 - 0x40) + 2 ^ 16 * (char t 2 - 0x40)
    + 2 ^ 12 * digit_at t 3 + 2 ^ 8 * digit_at t 4 + 2 ^ 4 * digit_at t 5 + digit_at t 6

-- the four bytes swapped
unfoldable pub swap_bytes : ℕ → ℕ
swap_bytes n = value (reverse (le 4 n))

unfoldable pub eisa_id : List ℕ → ℕ
eisa_id t = swap_bytes (eisa_bits t)

-- ── UUID: where each byte's two digits stand in the text, in the order in which the bytes are written
abbrev pub uuid_places : List ℕ
uuid_places = 6 ∷ 4 ∷ 2 ∷ 0 ∷ 11 ∷ 9 ∷ 16 ∷ 14 ∷ 19 ∷ 21 ∷ 24 ∷ 26 ∷ 28 ∷ 30 ∷ 32 ∷ 34 ∷ []

abbrev pub hyphen_places : List ℕ
hyphen_places = 8 ∷ 13 ∷ 18 ∷ 23 ∷ []

unfoldable pub is_uuid : List ℕ → Bool
is_uuid t =
    eqb (length t) 36 && every (λ i. eqb (char t i) 0x2D) hyphen_places
    && every (λ i. is_hex (char t i) && is_hex (char t (suc i))) uuid_places

unfoldable pub uuid_bytes : List ℕ → List ℕ
uuid_bytes t = map (λ i. 16 * digit_at t i + digit_at t (suc i)) uuid_places

unfoldable pub uuid : List ℕ → List ℕ
uuid t = buffer (uuid_bytes t)

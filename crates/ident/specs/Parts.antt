-- Parts of the identifiers' definitions by a name, for the contracts of the small functions that compute them.
-- Assumes nothing.
use Rattle.std.specs.Prelude.{Bool, ◌&&◌, List, ℕ, suc, ◌+◌, ◌-◌, ◌*◌, ◌^◌, eqb}
use Rattle.octets.specs.Bytes.{every}
use Rattle.ident.specs.Ident.{is_hex, char, digit_at, hyphen_places}

abbrev pub letter_bits : List ℕ → ℕ
letter_bits t = 2 ^ 26 * (char t 0 - 0x40) + 2 ^ 21 * (char t 1 - 0x40) + 2 ^ 16 * (char t 2 - 0x40)

abbrev pub is_hyphen : List ℕ → ℕ → Bool
is_hyphen t i = eqb (char t i) 0x2D

abbrev pub is_hyphened : List ℕ → Bool
is_hyphened t = every (is_hyphen t) hyphen_places

abbrev pub is_pair : List ℕ → ℕ → Bool
is_pair t i = is_hex (char t i) && is_hex (char t (suc i))

abbrev pub pair_byte : List ℕ → ℕ → ℕ
pair_byte t i = 16 * digit_at t i + digit_at t (suc i)

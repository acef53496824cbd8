-- The length of a body of n bytes, which counts itself, and of a field entry of n bits, which does not: 1 to 4 bytes, by the same thresholds.
-- Document 01, "Bytes" (PkgLength); ACPI 6.4, 20.2.4 (PkgLength, PkgLeadByte). `create_pkg_length` of the crate.
-- Assumes nothing.
use Rattle.std.specs.Prelude.{Bool, true, false, cond, List, [], ◌∷◌, ℕ, zero, suc, ◌+◌, ◌*◌, ◌/◌, ◌%◌, ltb}
use Rattle.octets.specs.Bytes.{le}

-- how many bytes follow the first
unfoldable pub following : ℕ → ℕ
following n = cond (ltb n 63) 0 (cond (ltb n 4094) 1 (cond (ltb n 1048573) 2 3))

-- the length's own bytes, if it counts them
abbrev pub own : Bool → ℕ → ℕ
own true k = k + 1
own false k = 0

-- the largest n: 28 bits less the length's own four bytes
abbrev pub largest : Bool → ℕ
largest true = 268435451
largest false = 268435455

-- the length m with k bytes after the first: one byte holds it; else the first has k at 64 and the low 4 bits, then 8 bits each
unfoldable pub length_bytes : ℕ → ℕ → List ℕ
length_bytes zero m = m ∷ []
length_bytes (suc k) m = (64 * suc k + m % 16) ∷ le (suc k) (m / 16)

unfoldable pub create_pkg_length : Bool → ℕ → List ℕ
create_pkg_length self n = length_bytes (following n) (n + own self (following n))

abbrev pub pkg_length : ℕ → List ℕ
pkg_length n = create_pkg_length true n

abbrev pub field_length : ℕ → List ℕ
field_length n = create_pkg_length false n

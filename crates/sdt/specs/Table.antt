-- A table as bytes: the header of 36 bytes, in which the length stands at 4 to 7 and the checksum at 9, and what follows it.
-- Document 01, "Bytes" (Table) and "The growing table"; ACPI 6.4, 5.2.6 (System Description Table Header).
-- Assumes nothing.
use Rattle.std.specs.Prelude.{List, ◌∷◌, ◌++◌, ℕ, ◌+◌, ◌-◌, length, take, drop, set, replicate}
use Rattle.octets.specs.Bytes.{le}
use Rattle.octets.specs.Sum.{byte_sum, negated}

-- a table whose length and checksum are still to be set: identity is signature 4, revision 1, and the 26 bytes behind the checksum
unfoldable pub opened : List ℕ → List ℕ → List ℕ
opened identity contents = take 4 identity ++ (le 4 0 ++ (take 1 (drop 4 identity) ++ (0 ∷ (drop 5 identity ++ contents))))

-- with its own length at 4 to 7
unfoldable pub measured : List ℕ → List ℕ
measured t = take 4 t ++ (le 4 (length t) ++ drop 8 t)

-- and then the checksum at 9, which brings the sum to 0
unfoldable pub sealed : List ℕ → List ℕ
sealed t = set (measured t) 9 (negated (byte_sum (set (measured t) 9 0)))

-- of n bytes, padded with zeros
unfoldable pub new_table : List ℕ → ℕ → List ℕ
new_table identity n = sealed (opened identity (replicate (n - 36) 0))

unfoldable pub appended : List ℕ → List ℕ → List ℕ
appended t piece = sealed (t ++ piece)

unfoldable pub overwritten : List ℕ → ℕ → List ℕ → List ℕ
overwritten t offset piece = sealed (take offset t ++ (piece ++ drop (offset + length piece) t))

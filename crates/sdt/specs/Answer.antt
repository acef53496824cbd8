-- What the functions of the crate answer, held to the definitions of Table and Edit.
-- Assumes nothing.
use Rattle.std.specs.Prelude.{◌≡◌, cond, List, ◌++◌, ℕ, ltb, length, take, drop, get_or, replicate}
use Rattle.octets.specs.Bytes.{le}
use Rattle.sdt.specs.Table.{sealed}
use Rattle.sdt.specs.Edit.{largest_table}
use Rattle.sdt.specs.declared.Sdt.{Sdt}

-- the table t is sealed in out, and r is its record
pub record Sealed (t : List ℕ) (r : Sdt) (out : List ℕ) : Type 0 where
  pub is : out ≡ sealed t
  pub length : r.length ≡ length t
  pub checksum : r.checksum ≡ get_or (sealed t) 9 0

-- the number of a size, of 12, 14 and 0
unfoldable pub size_number : ℕ → ℕ → ℕ
size_number n room = cond (ltb largest_table n) 12 (cond (ltb room n) 14 0)

abbrev pub zeros : ℕ → List ℕ
zeros n = replicate n 0

-- an opened table's first 36 bytes
unfoldable pub header : List ℕ → List ℕ
header identity = take 4 identity ++ (le 4 0 ++ (take 1 (drop 4 identity) ++ (le 1 0 ++ drop 5 identity)))

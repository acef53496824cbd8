-- Integers and lengths as they are read: strictly, so that each number has one spelling.
-- Document 01, "How strong the statements are" (Demand 3).
use Rattle.std.specs.Prelude.{◌&&◌, cond, Bool, [], ◌∷◌, ℕ, zero, suc, ◌+◌, ◌-◌, ◌*◌, ◌/◌, ◌%◌, eqb, ltb, leb}
use Rattle.std.proofs.Math.Option.{none, some}
use Rattle.octets.specs.Bytes.{Reader, ◌>>=◌, need, get_le}
use Rattle.number.specs.Integer.{width}
use Rattle.number.specs.PkgLength.{following, largest, own}

-- ── Integers
-- the width that a leading byte announces; 0 for a byte that is no prefix
unfoldable pub announced : ℕ → ℕ
announced b = cond (eqb b 0x0A) 1 (cond (eqb b 0x0B) 2 (cond (eqb b 0x0C) 4 (cond (eqb b 0x0E) 8 0)))

-- strict: a number in a longer form than its own is not read
unfoldable pub get_integer : Reader ℕ
get_integer [] = none
get_integer (b ∷ bs) = cond (ltb b 2) (some (b, bs)) (do
  (x, r) ← get_le (announced b) bs
  need (leb 2 x && eqb (width x) (announced b)) (some (x, r)))

-- ── Lengths: bits 4 and 5 of a long length must be 0, and it must be the one that is written for its n
unfoldable pub get_length : ℕ → ℕ → Reader ℕ
get_length zero b bs = some (b, bs)
get_length (suc k) b bs = need (ltb (b % 64) 16) (do
  (x, r) ← get_le (suc k) bs
  some (b % 16 + 16 * x, r))

-- m, with k bytes after the first, is the length of some n in its shortest form
unfoldable pub shortest : Bool → ℕ → ℕ → Bool
shortest self k m = leb (own self k) m && leb (m - own self k) (largest self) && eqb (following (m - own self k)) k

unfoldable pub get_pkg_length : Bool → Reader ℕ
get_pkg_length self [] = none
get_pkg_length self (b ∷ bs) = do
  (m, r) ← get_length (b / 64) b bs
  need (shortest self (b / 64) m) (some (m - own self (b / 64), r))

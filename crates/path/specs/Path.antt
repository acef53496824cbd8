-- Paths: an optional `\`, then 1 to 255 segments of four; as text, joined by dots, and as bytes, behind their number.
-- Document 01, "The term file" (Path text); ACPI 6.4, 20.2.2 (NameString, NameSeg, DualNamePath, MultiNamePath). `Path` of the crate.
-- Assumes nothing.
use Rattle.std.specs.Prelude.{Bool, true, false, ◌&&◌, ◌||◌, cond, ℕ, eqb, leb, length}
use Rattle.std.proofs.Math.Option.{Option, none, some, Option-elim}
use mathlib.Core.List.{List, [], ◌∷◌, ◌++◌, flatten}
use Rattle.octets.specs.Bytes.{◌>>=◌, need, every}

-- a segment starts with A-Z or `_`, and goes on with those or 0-9
unfoldable pub lead_name : ℕ → Bool
lead_name b = (leb 65 b && leb b 90) || eqb b 95

unfoldable pub name_char : ℕ → Bool
name_char b = lead_name b || (leb 48 b && leb b 57)

unfoldable pub segment : List ℕ → Bool
segment [] = false
segment (b ∷ bs) = lead_name b && every name_char bs && eqb (length bs) 3

pub record Path : Type 0 where
  pub root : Bool
  pub parts : List (List ℕ)

-- the backslash, which is 5C in text and bytes alike
unfoldable pub root_of : Bool → List ℕ
root_of r = cond r (0x5C ∷ []) []

unfoldable pub unroot : List ℕ → Bool × List ℕ
unroot [] = (false, [])
unroot (b ∷ t) = cond (eqb b 0x5C) (true, t) (false, b ∷ t)

-- the segments of a text: four characters, and a dot before the next four
unfoldable pub parts_of : List ℕ → Option (List (List ℕ))
parts_of (a ∷ b ∷ c ∷ d ∷ []) = need (segment (a ∷ b ∷ c ∷ d ∷ [])) (some ((a ∷ b ∷ c ∷ d ∷ []) ∷ []))
parts_of (a ∷ b ∷ c ∷ d ∷ e ∷ t) = need (segment (a ∷ b ∷ c ∷ d ∷ []) && eqb e 0x2E) (do
  ss ← parts_of t
  some ((a ∷ b ∷ c ∷ d ∷ []) ∷ ss))
parts_of [] = none
parts_of (a ∷ []) = none
parts_of (a ∷ b ∷ []) = none
parts_of (a ∷ b ∷ c ∷ []) = none

unfoldable pub path_of : List ℕ → Option Path
path_of t = do
  ss ← parts_of (unroot t).1
  need (leb (length ss) 255) (some (record { root = (unroot t).0; parts = ss }))

-- whether a text is a path
unfoldable pub is_path : List ℕ → Bool
is_path t = Option-elim (path_of t) false (λ p. true)

-- ── As bytes
-- before n segments: nothing, 2E, or 2F and n
unfoldable pub count_bytes : ℕ → List ℕ
count_bytes n = cond (eqb n 1) [] (cond (eqb n 2) (0x2E ∷ []) (0x2F ∷ n ∷ []))

unfoldable pub bytes_of : Path → List ℕ
bytes_of p = root_of p.root ++ (count_bytes (length p.parts) ++ flatten p.parts)

-- the bytes of the path that a text spells
unfoldable pub path_bytes : List ℕ → List ℕ
path_bytes t = Option-elim (path_of t) [] bytes_of

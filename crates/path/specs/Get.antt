-- Paths as they are read from bytes, strictly, and the text that is had back.
use Rattle.std.specs.Prelude.{Bool, true, ◌&&◌, ◌||◌, cond, List, [], ◌∷◌, ◌++◌, ℕ, zero, suc, eqb, leb, length}
use Rattle.std.proofs.Math.Option.{none, some, Option-elim}
use Rattle.octets.specs.Bytes.{Reader, ◌>>=◌, need, cut}
use Rattle.path.specs.Path.{Path, lead_name, root_of, segment, unroot}

unfoldable pub segments : List (List ℕ) → Bool
segments [] = true
segments (s ∷ ss) = segment s && segments ss

unfoldable pub well_formed : Path → Bool
well_formed p = segments p.parts && leb 1 (length p.parts) && leb (length p.parts) 255

-- ── As text
unfoldable pub joined : List (List ℕ) → List ℕ
joined [] = []
joined (s ∷ []) = s
joined (s ∷ r ∷ ss) = s ++ (0x2E ∷ joined (r ∷ ss))

unfoldable pub text_of : Path → List ℕ
text_of p = root_of p.root ++ joined p.parts

-- ── From bytes: 2F is followed by 3 or more
unfoldable pub get_count : Reader ℕ
get_count [] = none
get_count (b ∷ []) = cond (eqb b 0x2E) (some (2, [])) (cond (eqb b 0x2F) none (some (1, b ∷ [])))
get_count (b ∷ n ∷ bs) =
    cond (eqb b 0x2E) (some (2, n ∷ bs))
    (cond (eqb b 0x2F) (need (leb 3 n && leb n 255) (some (n, bs)))
    (some (1, b ∷ n ∷ bs)))

unfoldable pub get_parts : ℕ → Reader (List (List ℕ))
get_parts zero bs = some ([], bs)
get_parts (suc n) bs = do
  (s, r) ← cut 4 bs
  need (segment s) (do
    (ss, e) ← get_parts n r
    some (s ∷ ss, e))

unfoldable pub get_path : Reader Path
get_path bs = do
  (n, r) ← get_count (unroot bs).1
  (ss, e) ← get_parts n r
  some (record { root = (unroot bs).0; parts = ss }, e)

-- a path's text from its bytes
unfoldable pub get_path_text : Reader (List ℕ)
get_path_text bs = do
  (p, r) ← get_path bs
  some (text_of p, r)

-- its text's length
unfoldable pub get_path_length : Reader ℕ
get_path_length bs = do
  (t, r) ← get_path_text bs
  some (length t, r)

-- the text of the path whose bytes stand first, or nothing
unfoldable pub path_text : List ℕ → List ℕ
path_text bs = Option-elim (get_path_text bs) [] (λ v. v.0)

-- the bytes that may begin a path
unfoldable pub name_start : ℕ → Bool
name_start b = lead_name b || eqb b 0x5C || eqb b 0x2E || eqb b 0x2F

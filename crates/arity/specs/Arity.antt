-- The arity list: which paths take arguments, and how many; when it is refused (3), and the look-up of a path.
-- Document 01, "The term file" (An arity entry) and "Refusal numbers".
-- Assumes nothing.
use Rattle.std.specs.Prelude.{Bool, true, false, ◌&&◌, ◌||◌, cond, List, [], ◌∷◌, map, ℕ, zero, suc, ◌+◌, ◌-◌, ◌*◌, ◌/◌, eqb, ltb, leb, length}
use Rattle.octets.specs.Bytes.{begins, le_at}
use Rattle.path.specs.Path.{is_path}
use Rattle.term.specs.File.{arity_width}
use Rattle.term.specs.Record.{text_at}
use Rattle.arity.specs.declared.Entry.{Entry}

-- ── Entries of 8 bytes: text start u32, length u16, argument count u16
unfoldable pub entry_at : List ℕ → ℕ → Entry
entry_at b j = record {
  start = le_at 4 b (arity_width * j);
  len = le_at 2 b (arity_width * j + 4);
  args = le_at 2 b (arity_width * j + 6);
}

-- n entries from j on
unfoldable pub entries_of : List ℕ → ℕ → ℕ → List Entry
entries_of b j zero = []
entries_of b j (suc n) = entry_at b j ∷ entries_of b (suc j) n

-- the entries from j to the section's end
unfoldable pub entries_from : List ℕ → ℕ → List Entry
entries_from b j = entries_of b j (length b / arity_width - j)

-- a path, and its number of arguments
pub record Arity : Type 0 where
  pub text : List ℕ
  pub args : ℕ

unfoldable pub arity_in : List ℕ → Entry → Arity
arity_in pool e = record { text = text_at pool e.start e.len; args = e.args }

unfoldable pub arities_of : List ℕ → List ℕ → List Arity
arities_of b pool = map (arity_in pool) (entries_from b 0)

-- ── Texts in order: bytewise, a prefix first
unfoldable pub below : List ℕ → List ℕ → Bool
below [] [] = false
below [] (c ∷ cs) = true
below (b ∷ bs) [] = false
below (b ∷ bs) (c ∷ cs) = ltb b c || (eqb b c && below bs cs)

unfoldable pub same : List ℕ → List ℕ → Bool
same bs cs = eqb (length bs) (length cs) && begins bs cs

-- ── 3: an arity entry wrong: its text is no path in the pool, it has no or more than 7 arguments, or it is not above the one before it
unfoldable pub entry_fits : List ℕ → Entry → Bool
entry_fits pool e =
    leb (e.start + e.len) (length pool) && is_path (text_at pool e.start e.len) && leb 1 e.args && leb e.args 7

unfoldable pub entries_fit : List ℕ → List Entry → Bool
entries_fit pool [] = true
entries_fit pool (e ∷ es) = entry_fits pool e && entries_fit pool es

unfoldable pub ascend : List Arity → Bool
ascend [] = true
ascend (a ∷ l) = first l && ascend l
  where
    first : List Arity → Bool
    first [] = true
    first (b ∷ bs) = below a.text b.text

unfoldable pub arities_fit : List ℕ → List ℕ → Bool
arities_fit b pool = entries_fit pool (entries_from b 0) && ascend (arities_of b pool)

-- ── How many arguments a path takes: those of its entry; none, where it has no entry
unfoldable pub args_in : List Arity → List ℕ → ℕ
args_in [] t = 0
args_in (a ∷ l) t = cond (same a.text t) a.args (args_in l t)

unfoldable pub args_of : List ℕ → List ℕ → List ℕ → ℕ
args_of b pool t = args_in (arities_of b pool) t

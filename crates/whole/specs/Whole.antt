-- Whole files and whole tables: what a file is, the table that it encodes to, its normal form, and the reading of a table.
-- Document 01, "Bytes" (Normal form), "Refusal numbers" (Accepted means ..; Reading: ..).
-- Assumes nothing.
use Rattle.std.specs.Prelude.{◌≡◌, ◌||◌, not, cond, true, List, ◌++◌, ℕ, ◌≤◌, eqb, leb, ltb, length, take, drop}
use Rattle.std.proofs.Math.Option.{Option, none, some}
use Rattle.octets.specs.Bytes.{le_at}
use Rattle.octets.specs.Sum.{byte_sum}
use Rattle.grammar.specs.Forest.{Forest, flatten}
use Rattle.tree.specs.Normal.{norm}
use Rattle.tree.specs.Read.{parse}
use Rattle.term.specs.File.{record_count, identity, layout_of}
use Rattle.arity.specs.Arity.{Arity, arities_of, arities_fit, args_in}
use Rattle.checker.specs.Refusal.{arity_section, pool_section, refusal_of}
use Rattle.checker.specs.Described.{forest_of}
use Rattle.normal.specs.File.{file_of}
use Rattle.encode.specs.Encode.{table_of, late_number, Outcome, refused_by, handed, described, outcome_of}

-- ── A file: its arity list, its tree, its table, its normal form
unfoldable pub list_of : List ℕ → List Arity
list_of f = arities_of (arity_section f) (pool_section f)

unfoldable pub tree_of : List ℕ → Forest
tree_of f = described (forest_of f)

unfoldable pub table_for : List ℕ → List ℕ
table_for f = table_of (identity f) (tree_of f)

unfoldable pub normal_for : List ℕ → List ℕ
normal_for f = file_of (identity f) (list_of f) (norm (tree_of f))

-- none of 1 to 13 holds
pub record Accepted (f : List ℕ) : Type 0 where
  pub early : (refusal_of f).number ≡ 0
  pub late : late_number (norm (tree_of f)) ≡ 0

-- normalising is a public call with encoding's refusals
unfoldable pub normalise_of : List ℕ → List ℕ → Outcome
normalise_of f out = outcome_of (λ g. file_of (identity f) (list_of f) (norm g)) f out

-- ── Reading a table, with the arity list of a file that has no record
unfoldable pub identity_of : List ℕ → List ℕ
identity_of t = take 4 t ++ (take 1 (drop 8 t) ++ take 26 (drop 10 t))

-- the terms, if their records are not too many; 22 if there are none such
unfoldable pub tree_in : List Arity → List ℕ → Option Forest
tree_in l t = few_in (parse (args_in l) (drop 36 t))
  where
    few_in : Option Forest → Option Forest
    few_in none = none
    few_in (some f) = cond (leb (length (flatten f)) 65536) (some f) none

unfoldable pub read_in : List Arity → List ℕ → Option Forest → List ℕ → Outcome
read_in l t none out = refused_by 22 0 out
read_in l t (some f) out = handed (file_of (identity_of t) l f) out

-- 1, 2, 3 of the arity file; 20, 12, 21, 22, 14
unfoldable pub read_of : List ℕ → List ℕ → List ℕ → Outcome
read_of a t out =
    cond (not (eqb (layout_of a).number 0)) (refused_by (layout_of a).number 0 out)
    (cond (not (eqb (record_count a) 0)) (refused_by 2 0 out)
    (cond (not (arities_fit (arity_section a) (pool_section a))) (refused_by 3 0 out)
    (cond (ltb (length t) 36 || not (eqb (le_at 4 t 4) (length t))) (refused_by 20 0 out)
    (cond (ltb 268435455 (length t)) (refused_by 12 0 out)
    (cond (not (eqb (byte_sum t) 0)) (refused_by 21 0 out)
    (read_in (list_of a) t (tree_in (list_of a) t) out))))))

-- ── Which tables are whose
-- an arity file that may be read by: neither 1, 2 nor 3 holds
pub record Plain (a : List ℕ) : Type 0 where
  pub layout : (layout_of a).number ≡ 0
  pub none : record_count a ≡ 0
  pub fit : arities_fit (arity_section a) (pool_section a) ≡ true

-- a table that may be read: neither 20, 12 nor 21 holds
pub record Framed (t : List ℕ) : Type 0 where
  pub least : 36 ≤ length t
  pub own : le_at 4 t 4 ≡ length t
  pub most : length t ≤ 268435455
  pub sum : byte_sum t ≡ 0

-- f is an accepted file with the arity list of a, and t is its table
pub record Gives (a f t : List ℕ) : Type 0 where
  pub accepted : Accepted f
  pub list : list_of f ≡ list_of a
  pub table : table_for f ≡ t

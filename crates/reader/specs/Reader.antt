-- Reading by the sections of an arity file, as the code goes: the table's own refusals, the terms, and the file in the parts in which it is
-- written. Assumes nothing.
use Rattle.std.specs.Prelude.{◌≡◌, true, ◌||◌, not, cond, List, ◌++◌, ℕ, ◌≤◌, eqb, ltb, length, drop}
use Rattle.std.proofs.Math.Option.{Option, some}
use Rattle.octets.specs.Bytes.{le_at}
use Rattle.octets.specs.Sum.{byte_sum}
use Rattle.grammar.specs.Forest.{Forest, flatten}
use Rattle.tree.specs.Read.{parse}
use Rattle.arity.specs.Arity.{arities_of, arities_fit, args_of}
use Rattle.normal.specs.File.{records_bytes, term_texts, arities_bytes, arity_texts, file_of}
use Rattle.encode.specs.Encode.{Outcome, described}
use Rattle.whole.specs.Whole.{identity_of, tree_in, read_in, Framed}

-- 20, 12 or 21, or 0
unfoldable pub table_number : List ℕ → ℕ
table_number t =
    cond (ltb (length t) 36 || not (eqb (le_at 4 t 4) (length t))) 20
    (cond (ltb 268435455 (length t)) 12
    (cond (not (eqb (byte_sum t) 0)) 21 0))

-- the terms of a table t, with the arity section a and the pool p
abbrev pub terms : List ℕ → List ℕ → List ℕ → Option Forest
terms a p t = parse (args_of a p) (drop 36 t)

-- what is written of them
unfoldable pub list_bytes : List ℕ → List ℕ → List ℕ
list_bytes a p = arities_bytes 0 (arities_of a p) ++ arity_texts (arities_of a p)

unfoldable pub body_bytes : List ℕ → List ℕ → List ℕ → List ℕ
body_bytes a p t =
    records_bytes (length (arity_texts (arities_of a p))) (flatten (described (terms a p t))) ++ (list_bytes a p ++ term_texts (flatten (described (terms a p t))))

unfoldable pub read_file : List ℕ → List ℕ → List ℕ → List ℕ
read_file a p t = file_of (identity_of t) (arities_of a p) (described (terms a p t))

unfoldable pub read_sections : List ℕ → List ℕ → List ℕ → List ℕ → Outcome
read_sections a p t out = read_in (arities_of a p) t (tree_in (arities_of a p) t) out

-- ── What is known when neither 1, 2, 3 nor 20, 12, 21 holds
pub record Ready (a p t : List ℕ) : Type 0 where
  pub framed : Framed t
  pub fit : arities_fit a p ≡ true
  pub few : length a ≤ 32768

-- and when 22 does not hold either: the terms, of so many records and bytes of text
pub record Held (a p t : List ℕ) (n texts : ℕ) : Type 0 where
  pub forest : Forest
  pub is : terms a p t ≡ some forest
  pub counted : n ≡ length (flatten forest)
  pub texted : texts ≡ length (term_texts (flatten forest))
  pub few : n ≤ 65536
  pub short : texts ≤ 536870910

-- and there is room for bs
pub record Room (bs a p t : List ℕ) (n names texts : ℕ) (out : List ℕ) : Type 0 where
  pub held : Held a p t n texts
  pub named : names ≡ length (arity_texts (arities_of a p))
  pub room : length bs ≤ length out

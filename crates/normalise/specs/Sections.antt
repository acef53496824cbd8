-- The sections of a file as the call cuts them: the tree that they hold, its normal-form file, and what is known of them when nothing
-- in 1 to 10 refuses the file. Assumes nothing.
use Rattle.std.specs.Prelude.{◌≡◌, true, List, ℕ, ◌≤◌, length}
use Rattle.grammar.specs.Forest.{Forest, depth, flatten, build}
use Rattle.tree.specs.Normal.{norm}
use Rattle.arity.specs.Arity.{arities_of, arities_fit}
use Rattle.normal.specs.File.{arity_texts, file_of}
use Rattle.encode.specs.Encode.{described}
use Rattle.encode.specs.WalkLaws.{terms_from}
use Rattle.normalise.specs.FlatLaws.{normal_from, texts_from}
use Rattle.normalise.specs.Pack.{Slender}

unfoldable pub tree_in : List ℕ → List ℕ → Forest
tree_in records pool = described (build (terms_from records pool 0))

abbrev pub normal_file : List ℕ → List ℕ → List ℕ → List ℕ → List ℕ
normal_file id records arities pool = file_of id (arities_of arities pool) (norm (tree_in records pool))

pub record Sections (id records arities pool : List ℕ) : Type 0 where
  pub own : length id ≡ 31
  pub terms : terms_from records pool 0 ≡ flatten (tree_in records pool)
  pub levels : depth (tree_in records pool) ≤ 64
  pub fit : arities_fit arities pool ≡ true
  pub few : length arities ≤ 32768

-- and what the writer asks, when 11 to 14 do not refuse it either: so many records, bytes of arity texts, bytes of record texts
pub record Measures (id records arities pool : List ℕ) (n names texts : ℕ) (out : List ℕ) : Type 0 where
  pub sections : Sections id records arities pool
  pub slender : Slender records pool
  pub normal : flatten (norm (tree_in records pool)) ≡ normal_from records pool 0
  pub counted : n ≡ length (normal_from records pool 0)
  pub most : n ≤ 65536
  pub named : names ≡ length (arity_texts (arities_of arities pool))
  pub texted : texts ≡ texts_from records pool 0
  pub room : length (normal_file id records arities pool) ≤ length out

-- What fits the fields of a normal-form file: the identity, the numbers of terms and arities, and the sizes of what each of them says.
-- Document 01, "The term file".
-- Assumes nothing.
use Rattle.std.specs.Prelude.{◌≡◌, List, [], ◌∷◌, ℕ, ◌+◌, ◌≤◌, ◌<◌, T, length}
use Rattle.grammar.specs.Forest.{Forest, Term, flatten}
use Rattle.path.specs.Path.{is_path}
use Rattle.arity.specs.Arity.{Arity}
use Rattle.normal.specs.File.{term_texts, arity_texts}

unfoldable pub Every : {A : Type 0} → (A → Type 0) → List A → Type 0
Every P [] = Unit {0}
Every P (a ∷ l) = P a × Every P l

-- kind and `a` fit 16 bits, the child count 32 and `x` 64
pub record TermSizes (t : Term) : Type 0 where
  pub kind : t.kind < 65536
  pub a : t.fields.a < 65536
  pub kids : t.kids < 4294967296
  pub x : t.fields.x < 18446744073709551616

-- text length and argument count fit 16 bits
pub record AritySizes (a : Arity) : Type 0 where
  pub text : length a.text < 65536
  pub args : a.args < 65536

-- the pool fits 32 bits, and so does each text's place and length in it
pub record Writable (identity : List ℕ) (arities : List Arity) (f : Forest) : Type 0 where
  pub identity-length : length identity ≡ 31
  pub few-arities : length arities ≤ 4096
  pub few-terms : length (flatten f) ≤ 65536
  pub each_arity : Every AritySizes arities
  pub each-term : Every TermSizes (flatten f)
  pub pool : length (arity_texts arities) + length (term_texts (flatten f)) < 4294967296

-- an arity that may be listed: a path with 1 to 7 arguments
pub record Callable (a : Arity) : Type 0 where
  pub path : T (is_path a.text)
  pub low : 1 ≤ a.args
  pub high : a.args ≤ 7

-- What a term file describes: a forest of terms. Each term has a kind, its fields and its children; records are its terms in preorder.
-- Document 01, "The term file" ("Records stand in preorder; the top level is a list").
-- Assumes nothing.
use Rattle.std.proofs.Math.Option.{Option, none, some}
use Rattle.std.specs.Prelude.{List, [], ◌∷◌, ◌++◌, ℕ, zero, suc, max}
use Rattle.octets.specs.Bytes.{◌>>=◌}

-- a term's text, and its numbers a and x
pub record Fields : Type 0 where
  pub text : List ℕ
  pub a : ℕ
  pub x : ℕ

-- a forest is empty, or its first term's kind, fields and children, and the terms after it
pub data Forest : Type 0 where
  nil : Forest
  node : ℕ → Fields → Forest → Forest → Forest

-- the terms at the top
unfoldable pub count : Forest → ℕ
count nil = 0
count (node k v c s) = suc (count s)

unfoldable pub depth : Forest → ℕ
depth nil = 0
depth (node k v c s) = max (suc (depth c)) (depth s)

-- ── As records: kind, fields and number of children of each term, children behind their parent
pub record Term : Type 0 where
  pub kind : ℕ
  pub fields : Fields
  pub kids : ℕ

unfoldable pub flatten : Forest → List Term
flatten nil = []
flatten (node k v c s) = record { kind = k; fields = v; kids = count c } ∷ (flatten c ++ flatten s)

-- the first n terms of a forest, and the rest
unfoldable pub split : ℕ → Forest → Option (Forest × Forest)
split zero f = some (nil, f)
split (suc n) nil = none
split (suc n) (node k v c s) = do
  (f, g) ← split n s
  some (node k v c f, g)

-- the forest of records, from the last to the first: a term's children are the first terms of what follows it
unfoldable pub build : List Term → Option Forest
build [] = some nil
build (r ∷ rs) = do
  f ← build rs
  (c, s) ← split r.kids f
  some (node r.kind r.fields c s)

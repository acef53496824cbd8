-- A single term that may stand in a place, is normal and can be written; and its bytes. Assumes nothing.
use Rattle.std.specs.Prelude.{List, ℕ, T}
use Rattle.grammar.specs.declared.Place.{Place}
use Rattle.grammar.specs.Kinds.{row_of, row_in}
use Rattle.grammar.specs.Forest.{Fields, Forest, nil, count}
use Rattle.tree.specs.Fits.{Args, Fits}
use Rattle.tree.specs.Bytes.{term_bytes, bytes}
use Rattle.tree.specs.Normal.{roomy}
use Rattle.tree.specs.IsNormal.{normal}
use Rattle.tree.specs.Read.{Tree, onto}

abbrev pub tree : ℕ → Fields → Forest → Tree
tree k v c = record { kind = k; body = record { fields = v; kids = c } }

unfoldable pub tree_bytes : Tree → List ℕ
tree_bytes t = term_bytes (row_in (row_of t.kind)) t.body.fields (count t.body.kids) (bytes t.body.kids)

-- the term as a forest fits at a place with l levels left, is normal, and each body in it has room
unfoldable pub Good : Args → ℕ → Place → Tree → Type 0
Good args l p t = Fits args (λ _. p) l 0 (onto t nil) × T (normal (onto t nil)) × T (roomy (onto t nil))

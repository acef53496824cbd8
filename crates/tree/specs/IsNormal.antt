-- Which forests are in normal form: for laws about them.
use Rattle.std.specs.Prelude.{Bool, true, false, ◌&&◌, ℕ}
use Rattle.std.proofs.Math.Option.{Option, none, some}
use Rattle.grammar.specs.declared.Row.{Row}
use Rattle.grammar.specs.Kinds.{normal_kinds, find}
use Rattle.grammar.specs.Forest.{Forest, nil, node}

-- a kind that stands in normal forms
unfoldable pub is_normal : ℕ → Bool
is_normal k = present (find k normal_kinds)
  where
    present : Option Row → Bool
    present none = false
    present (some r) = true

unfoldable pub normal : Forest → Bool
normal nil = true
normal (node k v c s) = is_normal k && normal c && normal s

-- Which forests a term file may describe: each term is of a known kind, has the fields and the number of children that its kind
-- asks for, stands where its kind may stand, and is not too deep. Document 01, "Kinds" and "Refusal numbers" (4 to 9).
-- Assumes nothing.
use Rattle.std.specs.Prelude.{Bool, false, ◌&&◌, not, List, ℕ, suc, ◌-◌, T, eqb}
use Rattle.std.proofs.Math.Option.{Option, none, some}
use Rattle.grammar.specs.declared.Place.{Place}
use Rattle.grammar.specs.declared.Row.{Row}
use Rattle.grammar.specs.Kinds.{stands, child_place, counts, args_at, row_of, row_in}
use Rattle.grammar.specs.Forest.{Fields, Forest, nil, node, count}
use Rattle.fields.specs.Fields.{in_range, spelled}

-- how many arguments each path takes
abbrev pub Args : Type 0
Args = List ℕ → ℕ

-- a term with n children, by its row, in a place, with so many levels left
unfoldable pub fine : Args → Row → Place → ℕ → Fields → ℕ → Bool
fine args row p l v n =
    in_range row v.text v.a v.x && spelled row v.text
    && counts row.rest row.operands (args_at p (args v.text)) n && stands row.places p && not (eqb l 0)

unfoldable pub known : Args → Option Row → Place → ℕ → Fields → ℕ → Bool
known args none p l v n = false
known args (some row) p l v n = fine args row p l v n

unfoldable pub term_fits : Args → Place → ℕ → ℕ → Fields → ℕ → Bool
term_fits args p l k v n = known args (row_of k) p l v n

-- the terms of a forest, of which term j stands in the place of j
unfoldable pub Fits : Args → (ℕ → Place) → ℕ → ℕ → Forest → Type 0
Fits args place l j nil = Unit {0}
Fits args place l j (node k v c s) =
    T (term_fits args (place j) l k v (count c)) × Fits args (child_place (row_in (row_of k))) (l - 1) 0 c × Fits args place l (suc j) s

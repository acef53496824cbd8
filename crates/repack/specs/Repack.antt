-- Names for what a normal-form file is written in: the header up to its identity, a record by its six numbers, an arity entry by its
-- three, and the arities of the entries from an index on. Assumes nothing.
use Rattle.std.specs.Prelude.{List, ◌++◌, map, ℕ, ◌+◌, ◌*◌}
use Rattle.octets.specs.Bytes.{le}
use Rattle.term.specs.declared.Record.{Record}
use Rattle.term.specs.File.{magic}
use Rattle.arity.specs.Arity.{Arity, arity_in, entries_from}

-- two numbers of n bytes each
unfoldable pub two : ℕ → ℕ → ℕ → List ℕ
two n a b = le n a ++ le n b

unfoldable pub head_bytes : ℕ → ℕ → ℕ → List ℕ
head_bytes records arities pool =
    magic ++ (two 4 records 60 ++ (two 4 arities (60 + 24 * records) ++ two 4 pool (60 + 24 * records + 8 * arities)))

unfoldable pub packed : Record → List ℕ
packed r = two 2 r.kind r.a ++ (le 4 r.kids ++ (le 8 r.x ++ two 4 r.start r.len))

unfoldable pub entry_bytes : ℕ → ℕ → ℕ → List ℕ
entry_bytes start len args = le 4 start ++ (le 2 len ++ le 2 args)

unfoldable pub arities_from : List ℕ → List ℕ → ℕ → List Arity
arities_from b pool j = map (arity_in pool) (entries_from b j)

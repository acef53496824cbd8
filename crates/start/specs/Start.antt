-- Which kind of term begins with these bytes, as the code that reads a table answers it: by the kind's place in the table of kinds.
use Rattle.std.specs.Prelude.{◌≡◌, Bool, true, ◌&&◌, cond, List, ℕ, ◌<◌, ltb, MatchOption}
use Rattle.std.specs.Prelude as rust
use Rattle.std.proofs.Math.Option.{some}
use Rattle.octets.specs.Bytes.{begins}
use Rattle.grammar.specs.declared.Place.{Place}
use Rattle.grammar.specs.declared.Row.{Row}
use Rattle.grammar.specs.Kinds.{stands, opcode, normal_kinds, kinds, find}
use Rattle.grammar.specs.Packed.{row_at, position}
use Rattle.tree.specs.Read.{kind_at}

-- so many kinds are normal; they are the first rows of the table
abbrev pub normal_count : ℕ
normal_count = 57

-- row j is that of a normal kind, which may stand in this place and has its opcode here
unfoldable pub starts_as : Place → List ℕ → ℕ → Bool
starts_as p bs j = ltb j normal_count && stands (row_at j).places p && begins (opcode (row_at j)) bs

-- the place in the table of the kind that begins here; where none does, the number of normal kinds, which is the place of none
unfoldable pub start_at : Place → List ℕ → ℕ
start_at p bs = cond (starts_as p bs (position (kind_at p bs) kinds)) (position (kind_at p bs) kinds) normal_count

-- what the code answers: that place, or none
abbrev pub Started : Place → List ℕ → rust.Option ℕ → Type 0
Started p bs r = MatchOption r (normal_count ≡ start_at p bs) (λ j. (j ≡ start_at p bs) × (j < normal_count))

-- the kind of row r is recognised, may stand in this place, and has its opcode here
pub record Begins (p : Place) (bs : List ℕ) (r : Row) : Type 0 where
  pub found : find (kind_at p bs) normal_kinds ≡ some r
  pub allowed : stands r.places p ≡ true
  pub leads : begins (opcode r) bs ≡ true

-- A walk over a table's terms: what it tells of what a reader (tree's `read`, `get_body`, `times`, `list`) reads at a position, and that it
-- leaves the records of what is read. A body's end is the end of the bytes that are lent.
-- Assumes nothing.
use Rattle.std.specs.Prelude.{◌≡◌, Bool, true, false, cond, List, ℕ, ◌+◌, ◌*◌, ◌≤◌, length, drop, MatchOption, Option as Answer}
use Rattle.std.proofs.Math.Option.{Option, none, some}
use Rattle.octets.specs.Bytes.{Reader, get_le}
use Rattle.grammar.specs.declared.Place.{Place}
use Rattle.grammar.specs.declared.Rest.{Rest}
use Rattle.grammar.specs.declared.Rest.TheVariants.{Nothing, Arity, Listed, Counted, Measured}
use Rattle.grammar.specs.declared.Row.{Row}
use Rattle.grammar.specs.Kinds.{normal_kinds, find}
use Rattle.grammar.specs.Forest.{Forest, nil, node, count, flatten}
use Rattle.arity.specs.Arity.{args_of}
use Rattle.arity.specs.declared.Arities.{Arities}
use Rattle.tree.specs.Read.{Body, Tree, onto, times, list}
use Rattle.normal.specs.File.{term_texts}
use Rattle.walk.specs.declared.Walk.{Walk}
use Rattle.walk.specs.Spots.{Left}

-- ── What is read, as a forest
abbrev pub tree : Tree → Forest
tree t = onto t nil

abbrev pub body_of : Row → Body → Forest
body_of r v = node r.kind v.fields v.kids nil

abbrev pub forest : Forest → Forest
forest f = f

-- ── What a walk from `at` on, with record i next, tells of it
pub record Reached {A : Type 0} (show : A → Forest) (m : Option (A × List ℕ)) (b : List ℕ) (at i : ℕ) (first out : List ℕ) (w : Walk) : Type 0 where
  pub value : A
  pub is : m ≡ some (value, drop w.next b)
  pub records : w.records ≡ length (flatten (show value))
  pub texts : w.texts ≡ length (term_texts (flatten (show value)))
  pub kids : w.kids ≡ count (show value)
  pub low : at ≤ w.next
  pub high : w.next ≤ length b
  pub left : Left (flatten (show value)) b i first out

-- and no walk, if nothing is read
pub record Walks {A : Type 0} (show : A → Forest) (m : Option (A × List ℕ)) (b : List ℕ) (at i : ℕ) (first out : List ℕ) (o : Answer Walk) : Type 0 where
  pub tells : MatchOption o (m ≡ none) (Reached show m b at i first out)
  pub same : length out ≡ length first

-- a record takes at least one byte, and a byte gives at most two of text
pub record Spans (at : ℕ) (w : Walk) : Type 0 where
  pub few : w.records + at ≤ w.next
  pub short : w.texts + 2 * at ≤ 2 * w.next

-- ── What a walk asks for: a position in a table that is not too large
pub record Walkable (b : List ℕ) (at : ℕ) : Type 0 where
  pub within : at ≤ length b
  pub most : length b ≤ 268435455

-- and how many arguments a path takes
abbrev pub args_by : Arities → List ℕ → ℕ
args_by a = args_of a.entries.now a.pool.now

-- a row of a normal kind
pub record Normal (r : Row) : Type 0 where
  pub found : find r.kind normal_kinds ≡ some r

-- indexes of records stay small: each level adds at most a table's bytes
abbrev pub indexed : ℕ → ℕ → Type 0
indexed i levels = i + 268435456 * levels ≤ 17448304639

-- ── Children: a list to the end, of at most n; or exactly n
unfoldable pub several : Bool → (Place → Reader Tree) → (ℕ → Place) → ℕ → ℕ → Reader Forest
several listed g place n j bs = cond listed (list g place n j bs) (times g place n j bs)

unfoldable pub is_listed : Rest → Bool
is_listed Nothing = false
is_listed Arity = false
is_listed Listed = true
is_listed Counted = false
is_listed Measured = false

unfoldable pub is_call : Rest → Bool
is_call Nothing = false
is_call Arity = true
is_call Listed = false
is_call Counted = false
is_call Measured = false

-- how many, by what the kind has behind its operands
unfoldable pub get_number : Rest → ℕ → ℕ → Reader ℕ
get_number Nothing operands args bs = some (operands, bs)
get_number Arity operands args bs = some (args, bs)
get_number Listed operands args bs = some (length bs, bs)
get_number Counted operands args bs = get_le 1 bs
get_number Measured operands args bs = none

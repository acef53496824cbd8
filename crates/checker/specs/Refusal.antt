-- When a term file is refused, with which number and at which record: 1, 2, 3; then the first faulty record, with its lowest number
-- in 4 to 9; then 10. Document 01, "Refusal numbers".
-- Assumes nothing.
use Rattle.std.specs.Prelude.{Bool, ◌&&◌, ◌||◌, not, cond, List, [], ◌∷◌, ◌++◌, ℕ, zero, suc, ◌+◌, ◌-◌, eqb, leb, length}
use Rattle.std.proofs.Math.Option.{Option, none, some}
use Rattle.grammar.specs.declared.Place.{Place}
use Rattle.grammar.specs.declared.Place.TheVariants.{InList}
use Rattle.grammar.specs.declared.Places.{Places}
use Rattle.grammar.specs.declared.Row.{Row}
use Rattle.grammar.specs.Kinds.{stands, child_place, counts, args_at, row_of, row_in}
use Rattle.fields.specs.Fields.{in_range, spelled}
use Rattle.term.specs.declared.Record.{Record}
use Rattle.term.specs.File.{layout_of}
pub use Rattle.term.specs.File.{part, record_section, arity_section, pool_section}
use Rattle.term.specs.Record.{records_from, text_at}
use Rattle.arity.specs.Arity.{arities_fit, args_of}

-- a refusal's number and the record at which it was found; 0: none of 1 to 10 holds
pub record Verdict : Type 0 where
  pub number : ℕ
  pub index : ℕ

abbrev pub verdict : ℕ → ℕ → Verdict
verdict number index = record { number = number; index = index }

-- ── One record
unfoldable pub text_of : List ℕ → Record → List ℕ
text_of pool r = text_at pool r.start r.len

-- the text lies in the pool, and an empty one starts at 0
unfoldable pub in_pool : List ℕ → Record → Bool
in_pool pool r = leb (r.start + r.len) (length pool) && (leb 1 r.len || eqb r.start 0)

-- 8, 9: not allowed in its place; no level left
unfoldable pub place_fault : Places → Place → ℕ → ℕ
place_fault places place levels = cond (not (stands places place)) 8 (cond (eqb levels 0) 9 0)

-- of a known kind, in its place, with so many levels left
unfoldable pub fault : Row → List ℕ → ℕ → Place → ℕ → Record → ℕ
fault row pool args place levels r =
    cond (not (in_pool pool r && in_range row (text_of pool r) r.a r.x)) 5
    (cond (not (spelled row (text_of pool r))) 6
    (cond (not (counts row.rest row.operands (args_at place args) r.kids)) 7
    (place_fault row.places place levels)))

-- the lowest number with which a record is refused, or 0
unfoldable pub fault_as : Option Row → List ℕ → ℕ → Place → ℕ → Record → ℕ
fault_as none pool args place levels r = 4
fault_as (some row) pool args place levels r = fault row pool args place levels r

unfoldable pub fault_of : List ℕ → List ℕ → Place → ℕ → Record → ℕ
fault_of arities pool place levels r = fault_as (row_of r.kind) pool (args_of arities pool (text_of pool r)) place levels r

-- ── The records, from the first to the last, against the terms that are owed
-- a term that is owed: its place, and how many levels it may have
pub record Owed : Type 0 where
  pub place : Place
  pub levels : ℕ

-- where nothing is owed, a term of the top level may follow
unfoldable pub next : List Owed → Owed
next [] = record { place = InList; levels = 64 }
next (o ∷ q) = o

unfoldable pub later : List Owed → List Owed
later [] = []
later (o ∷ q) = q

-- n children of a kind, from child j on
unfoldable pub owe : Row → ℕ → ℕ → ℕ → List Owed
owe row levels j zero = []
owe row levels j (suc n) = record { place = child_place row j; levels = levels } ∷ owe row levels (suc j) n

unfoldable pub kids_of : Owed → Record → List Owed
kids_of o r = owe (row_in (row_of r.kind)) (o.levels - 1) 0 r.kids

unfoldable pub scan : List ℕ → List ℕ → List Record → ℕ → List Owed → Verdict
scan arities pool [] i [] = verdict 0 0
scan arities pool [] i (o ∷ q) = verdict 10 i
scan arities pool (r ∷ rs) i q =
    cond (eqb (fault_of arities pool (next q).place (next q).levels r) 0) (scan arities pool rs (suc i) (kids_of (next q) r ++ later q))
    (verdict (fault_of arities pool (next q).place (next q).levels r) i)

-- ── The file
-- 0: none of 1 to 10 holds
unfoldable pub refusal_of : List ℕ → Verdict
refusal_of f =
    cond (not (eqb (layout_of f).number 0)) (verdict (layout_of f).number 0)
    (cond (not (arities_fit (arity_section f) (pool_section f))) (verdict 3 0)
    (scan (arity_section f) (pool_section f) (records_from (record_section f) 0) 0 []))

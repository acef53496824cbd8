-- The strict reading of terms: by levels and places, over the same rows by which they are written. What is read is a normal forest.
-- Document 01, "Bytes" ("A term reads its lists and a list reads its terms, to a depth of 64"); ACPI 6.4, 20.2.
-- Assumes nothing.
use Rattle.std.specs.Prelude.{Bool, true, false, ◌||◌, cond, List, [], ◌∷◌, ℕ, zero, suc, ◌+◌, ◌*◌, eqb, length, drop, get_or}
use Rattle.std.proofs.Math.Option.{Option, none, some}
use Rattle.octets.specs.Bytes.{Reader, ◌>>=◌, need, cut, begins, get_le}
use Rattle.number.specs.Get.{get_pkg_length}
use Rattle.grammar.specs.declared.Place.{Place}
use Rattle.grammar.specs.declared.Place.TheVariants.{InList, FieldEntry}
use Rattle.grammar.specs.declared.Rest.{Rest}
use Rattle.grammar.specs.declared.Rest.TheVariants.{Nothing, Arity, Listed, Counted, Measured}
use Rattle.grammar.specs.declared.Row.{Row}
use Rattle.grammar.specs.Kinds.{is, stands, child_place, counts, args_at, opcode, normal_kinds, find}
use Rattle.grammar.specs.Family.{family_of}
use Rattle.grammar.specs.Forest.{Fields, Forest, nil, node, count}
use Rattle.fields.specs.Get.{get_fields}
use Rattle.tree.specs.Fits.{Args}

-- ── A term, and a term's fields and children
pub record Body : Type 0 where
  pub fields : Fields
  pub kids : Forest

pub record Tree : Type 0 where
  pub kind : ℕ
  pub body : Body

abbrev pub onto : Tree → Forest → Forest
onto t s = node t.kind t.body.fields t.body.kids s

-- ── Which kind begins here: a field's entry is 00 or a segment; else the family of the first byte, with the second byte where it has two
unfoldable pub twofold : ℕ → Bool
twofold b = eqb b 0x5B || eqb b 0x92

unfoldable pub kind_in : List ℕ → ℕ
kind_in [] = 0
kind_in (b ∷ bs) = cond (twofold b) (256 * b + get_or bs 0 0) (family_of b)

unfoldable pub entry_in : List ℕ → ℕ
entry_in [] = 0
entry_in (b ∷ bs) = cond (eqb b 0) 0xF000 0xF001

unfoldable pub kind_at : Place → List ℕ → ℕ
kind_at p bs = cond (is p FieldEntry) (entry_in bs) (kind_in bs)

-- these very bytes
unfoldable pub literal : List ℕ → List ℕ → Option (List ℕ)
literal op bs = need (begins op bs) (some (drop (length op) bs))

-- ── Children, by a reader g of the term in a place: exactly n, or all to the end, of which each takes a byte at least
unfoldable pub times : (Place → Reader Tree) → (ℕ → Place) → ℕ → ℕ → Reader Forest
times g place zero j bs = some (nil, bs)
times g place (suc n) j bs = do
  (t, r) ← g (place j) bs
  (s, e) ← times g place n (suc j) r
  some (onto t s, e)

unfoldable pub list : (Place → Reader Tree) → (ℕ → Place) → ℕ → ℕ → Reader Forest
list g place zero j bs = need (eqb (length bs) 0) (some (nil, bs))
list g place (suc n) j [] = some (nil, [])
list g place (suc n) j (b ∷ bs) = do
  (t, r) ← g (place j) (b ∷ bs)
  (s, e) ← list g place n (suc j) r
  some (onto t s, e)

-- by what the kind has behind its operands; templates are read as buffers
unfoldable pub get_many : (Place → Reader Tree) → Row → ℕ → Rest → Reader Forest
get_many g r args Nothing bs = times g (child_place r) r.operands 0 bs
get_many g r args Arity bs = times g (child_place r) args 0 bs
get_many g r args Listed bs = list g (child_place r) (length bs) 0 bs
get_many g r args Counted bs = do
  (n, y) ← get_le 1 bs
  times g (child_place r) n 0 y
get_many g r args Measured bs = none

-- as many as the kind asks for
unfoldable pub get_kids : (Place → Reader Tree) → Row → ℕ → Reader Forest
get_kids g r args bs = do
  (c, z) ← get_many g r args r.rest bs
  need (counts r.rest r.operands args (count c)) (some (c, z))

-- ── A body: text and numbers before the children, or behind them
unfoldable pub get_body : Args → (Place → Reader Tree) → Place → Row → Bool → Reader Body
get_body args g p r false bs = do
  (v, y) ← get_fields r bs
  (c, z) ← get_kids g r (args_at p (args v.text)) y
  some (record { fields = v; kids = c }, z)
get_body args g p r true bs = do
  (c, y) ← get_kids g r 0 bs
  (v, z) ← get_fields r y
  some (record { fields = v; kids = c }, z)

-- in its box, which it fills
unfoldable pub unbox : Bool → Reader Body → Reader Body
unbox false get bs = get bs
unbox true get bs = do
  (n, y) ← get_pkg_length true bs
  (b, e) ← cut n y
  (v, z) ← get b
  need (eqb (length z) 0) (some (v, e))

-- ── A term in a place, with so many levels left
unfoldable pub read : Args → ℕ → Place → Reader Tree
read args zero p bs = none
read args (suc l) p bs = do
  r ← find (kind_at p bs) normal_kinds
  need (stands r.places p) (do
    y ← literal (opcode r) bs
    (b, z) ← unbox r.boxed (get_body args (read args l) p r r.last) y
    some (record { kind = r.kind; body = b }, z))

-- the terms of a table
unfoldable pub parse : Args → List ℕ → Option Forest
parse args bs = do
  (f, r) ← list (read args 64) (λ _. InList) (length bs) 0 bs
  some f

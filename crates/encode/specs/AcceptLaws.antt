-- What acceptance says of a file for the functions that measure and write: where its sections lie, how large they are, and that
-- each of its records can be written. Assumes nothing.
use Rattle.std.specs.Prelude.{◌≡◌, refl, Bool, true, false, not, cond, List, [], ◌∷◌, ◌++◌, map, ℕ, zero, suc, ◌+◌, ◌-◌, ◌*◌, ◌/◌, ◌^◌, ◌≤◌, ◌<◌, T, eqb, length, take, drop, get_or}
use Rattle.std.proofs.Common.{sym, subst, arith, eqb→eq, leb→le, length-take, length-drop, eqb-true}
use Rattle.std.proofs.Math.Option.{Option, none, some}
use Rattle.std.proofs.Math.Nat.{pow-suc}
use Rattle.std.proofs.lemmas.List.{get_or-drop}
use Rattle.octets.specs.Tests.{and_left, and_right}
use Rattle.octets.specs.Bytes.{value, le_at}
use Rattle.octets.specs.Reading.{Digits}
use Rattle.grammar.specs.declared.Place.{Place}
use Rattle.grammar.specs.declared.Place.TheVariants.{InList}
use Rattle.grammar.specs.declared.Row.{Row}
use Rattle.grammar.specs.Kinds.{child_place, row_of, row_in}
use Rattle.grammar.specs.Forest.{Forest, nil, node, count, Term, flatten}
use Rattle.grammar.specs.ForestLaws.{flatten-build}
use Rattle.tree.specs.Fits.{Args, fine, known, term_fits, Fits}
use Rattle.written.specs.Fine.{Fine}
use Rattle.written.specs.FineLaws.{row-narrow}
use Rattle.term.specs.declared.Record.{Record}
use Rattle.term.specs.File.{identity, touching, laid_out, few, Layout, refused_by, layout_of, record_count, pool_length, arity_offset, pool_offset}
use Rattle.term.specs.FileLaws.{header-small, layout-within}
use Rattle.term.specs.Record.{record_at, records_of, records_from}
use Rattle.arity.specs.Arity.{args_of}
use Rattle.checker.specs.Refusal.{Verdict, verdict, text_of, record_section, arity_section, pool_section, refusal_of}
use Rattle.checker.specs.Accepted.{accepted-forest}
use Rattle.checker.specs.Described.{term_of, forest_of}
use Rattle.encode.specs.WalkLaws.{Small}
use Rattle.encode.specs.Sound.{FineRecord, record_fine, Sound}

-- ── A number of the header fits 32 bits
abbrev pub Bytes : List ℕ → Type 0
Bytes f = (i : ℕ) → get_or f i 0 < 256

value-fits : (n : ℕ) (b : List ℕ) → Bytes b → value (take n b) < 256 ^ n
unfolding value
value-fits zero b h = omega arith
value-fits (suc n) [] h = omega (arith, pow-suc 256 n, value-fits n [] h)
value-fits (suc n) (x ∷ b) h = omega (arith, pow-suc 256 n, value-fits n b (λ i. h (suc i)), h 0)

pub pool-few : (f : List ℕ) → Bytes f → pool_length f < 4294967296
unfolding le_at
pool-few f h = value-fits 4 (drop 20 f) (λ i. rw (get_or-drop 20 f i 0) (h (20 + i)))

-- ── What the checker says of an accepted file
pub passed : (f : List ℕ) → verdict 0 0 ≡ refusal_of f → (refusal_of f).number ≡ 0
passed f v = rw (← v) refl

-- ── The layout
layout-passed : (n : ℕ) (w : Verdict) → (cond (not (eqb n 0)) (verdict n 0) w).number ≡ 0 → n ≡ 0
layout-passed n w h = split (eqb n 0) refl h
  where
    split : (b : Bool) → eqb n 0 ≡ b → (cond (not b) (verdict n 0) w).number ≡ 0 → n ≡ 0
    split true e h = eqb-true n 0 e
    split false e h = h

pub accepted-layout : (f : List ℕ) → (refusal_of f).number ≡ 0 → (layout_of f).number ≡ 0
unfolding refusal_of
accepted-layout f h = layout-passed (layout_of f).number _ h

-- the records' section is not too long, and the pool is as long as the header says
abbrev pub Limited : List ℕ → Layout → Type 0
Limited f l = (l.arities ≤ 1572924) × (length f ≡ l.pool + pool_length f)

touching-sized : (f : List ℕ) → T (laid_out f) → T (few f) → Limited f (record { number = 0; arities = arity_offset f; pool = pool_offset f })
unfolding laid_out touching few
touching-sized f t u =
    let e : arity_offset f ≡ 60 + 24 * record_count f = eqb→eq (arity_offset f) (60 + 24 * record_count f) (search (and_left, and_right) depth 10) in
    let h : length f ≡ pool_offset f + pool_length f = eqb→eq (length f) (pool_offset f + pool_length f) (search (and_left, and_right) depth 10) in
    let k : record_count f ≤ 65536 = leb→le (record_count f) 65536 (search and_left depth 10) in
    (omega (arith, e, k), h)

pub layout-sized : (f : List ℕ) → (layout_of f).number ≡ 0 → Limited f (layout_of f)
unfolding layout_of
layout-sized f z = by (laid_out f) (few f) (record { number = 0; arities = arity_offset f; pool = pool_offset f }) (touching-sized f) z
  where
    by : (a b : Bool) (l : Layout) → (T a → T b → Limited f l) → (cond (not a) (refused_by 1) (cond (not b) (refused_by 2) l)).number ≡ 0 → Limited f (cond (not a) (refused_by 1) (cond (not b) (refused_by 2) l))
    by true true l h z = h tt tt
    by true false l h z = absurd (omega arith)
    by false b l h z = absurd (omega arith)

-- ── Every term of a forest that may stand can be written
pub record FineTerm (t : Term) : Type 0 where
  pub row : Row
  pub known : row_of t.kind ≡ some row
  pub fine : Fine row t.fields

AllFine : List Term → Type 0
AllFine [] = Unit {0}
AllFine (t ∷ ts) = FineTerm t × AllFine ts

all_append : (ts us : List Term) → AllFine ts → AllFine us → AllFine (ts ++ us)
unfolding AllFine
all_append [] us h k = k
all_append (t ∷ ts) us h k = (h.0, all_append ts us h.1 k)

term-fine : (args : Args) (p : Place) (l : ℕ) (t : Term) → T (term_fits args p l t.kind t.fields t.kids) → FineTerm t
unfolding term_fits known fine
term-fine args p l t h = by (row_of t.kind) refl h
  where
    by : (o : Option Row) → row_of t.kind ≡ o → T (known args o p l t.fields t.kids) → FineTerm t
    by none e h = absurd h
    by (some row) e h = record { row = row; known = e; fine = (row-narrow t.kind e, search (and_left, and_right) depth 10, search (and_left, and_right) depth 10) }

fits-fine : (args : Args) (place : ℕ → Place) (l j : ℕ) (f : Forest) → Fits args place l j f → AllFine (flatten f)
unfolding Fits flatten AllFine
fits-fine args place l j nil h = tt
fits-fine args place l j (node k v c s) h =
    (term-fine args (place j) l (record { kind = k; fields = v; kids = count c }) h.0, all_append (flatten c) (flatten s) (fits-fine args (child_place (row_in (row_of k))) (l - 1) 0 c h.1) (fits-fine args place l (suc j) s h.2))

-- ── And so every record
record-fine : (pool b : List ℕ) (n i j : ℕ) → AllFine (map (term_of pool) (records_of b i n)) → j < n → FineTerm (term_of pool (record_at b (i + j)))
unfolding records_of AllFine
record-fine pool b zero i j h k = absurd (omega arith)
record-fine pool b (suc n) i zero h k = let e : i + 0 ≡ i = omega arith in rw e h.0
record-fine pool b (suc n) i (suc j) h k = let e : i + suc j ≡ suc i + j = omega arith in rw e (record-fine pool b n (suc i) j h.1 (omega arith))

record_of_lem : (pool : List ℕ) (r : Record) → FineTerm (term_of pool r) → FineRecord pool r
unfolding term_of text_of
record_of_lem pool r h = record_fine pool r h.known h.fine

pub accepted-fine : (f : List ℕ) → (refusal_of f).number ≡ 0 → (i : ℕ) → i < length (record_section f) / 24 → FineRecord (pool_section f) (record_at (record_section f) i)
unfolding forest_of records_from
accepted-fine f z i h =
    let (g, e, k) = accepted-forest f z in
    let t = flatten-build _ g e in
    let a : AllFine (map (term_of (pool_section f)) (records_from (record_section f) 0)) = subst AllFine (sym t) (fits-fine (args_of (arity_section f) (pool_section f)) (λ _. InList) 64 0 g k) in
    let q : 0 + i ≡ i = omega arith in
    record_of_lem (pool_section f) (record_at (record_section f) i) (rw q at (record-fine (pool_section f) (record_section f) (length (record_section f) / 24 - 0) 0 i a (omega arith)))

module _ (f : List ℕ) (z : (refusal_of f).number ≡ 0) where
  pub accepted-within : (60 ≤ (layout_of f).arities) × ((layout_of f).arities ≤ (layout_of f).pool) × ((layout_of f).pool ≤ length f)
  accepted-within = layout-within f refl (accepted-layout f z)

  pub identity-length : length (identity f) ≡ 31
  unfolding identity
  identity-length = let (a, b, c) = accepted-within in simp (length-take, length-drop) (omega arith)

  -- by the pool's length, which a number of four bytes says
  pub pool-ends : (layout_of f).pool + pool_length f ≡ length f
  pool-ends = sym (layout-sized f (accepted-layout f z)).1

  module _ (h : pool_length f < 4294967296) where
    accepted-small : Small (record_section f) (pool_section f)
    accepted-small =
        let (a, b, c) = accepted-within in
        let s = layout-sized f (accepted-layout f z) in
        let p = pool-ends in
        record { few = simp (length-take, length-drop) (omega (arith, s.0)); short = simp (length-take, length-drop) (omega arith) }

    pub accepted-sound : Sound (record_section f) (pool_section f)
    accepted-sound = record { small = accepted-small; each = accepted-fine f z }

  -- so too where the four bytes alone are known that say the pool's length
  pub sound-read : {k : ℕ} → Digits f 20 4 k → Sound (record_section f) (pool_section f)
  sound-read d =
      let (a, b, c) = accepted-within in
      let q = header-small {f = f} {at = 20} (omega arith) (omega arith) d in
      accepted-sound (rw d.is at q)

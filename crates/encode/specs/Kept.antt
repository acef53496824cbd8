-- A table of sizes that were measured: for some records, how long their children are with so many levels. For the writer, which
-- need not measure them again for each box around them. Assumes nothing.
use Rattle.std.specs.Prelude.{◌≡◌, Bool, ◌&&◌, List, ℕ, ◌+◌, ◌-◌, ◌*◌, ◌/◌, ◌%◌, ◌<◌, ◌≤◌, get_or, set, replicate, Option, Some, None, unwrap_or}
use Rattle.std.proofs.Math.Path.{refl}
use Rattle.std.proofs.Common.{sym, ap, ◌∙◌, arith, length-set, get_or-set_same, get_or-set_other}
use Rattle.std.proofs.Math.Bool.{true, false, cond}
use Rattle.std.proofs.Math.Dec.{ltb, eqb}
use Rattle.std.proofs.Math.ListN.{length}
use Rattle.std.proofs.lemmas.List.{length-replicate, get_or-replicate}
use Rattle.std.proofs.lemmas.Option.{none-some}
use borrow.Author.Tests.{ltb-true, eqb-true, eqb-false}
use Rattle.term.specs.Record.{record_at}
use Rattle.encode.specs.Walk.{list, term}
use Rattle.encode.specs.WalkLaws.{terms_from, kids_of}
use Rattle.encode.specs.Sound.{Parent}

-- ── The table: an entry is a size, and in the bits above its 32 the record and level that it is of

-- which record and level an entry is of; never 0, so that an entry 0 is of none
unfoldable pub key_of : ℕ → ℕ → ℕ
key_of i levels = levels + 1 + 128 * i

-- record i has one place in the table
unfoldable pub slot_of : ℕ → ℕ
slot_of i = i % 4096

-- a table that keeps the size of the children of record i; it keeps none of 2^32 or more
unfoldable pub kept_in : List ℕ → ℕ → ℕ → ℕ → List ℕ
kept_in kept i levels size = cond (ltb (slot_of i) (length kept) && ltb size 4294967296) (set kept (slot_of i) (size + 4294967296 * key_of i levels)) kept

-- the size that it keeps, if it keeps one
unfoldable pub kept_of : List ℕ → ℕ → ℕ → Option ℕ
kept_of kept i levels = cond (ltb (slot_of i) (length kept) && eqb (get_or kept (slot_of i) 0 / 4294967296) (key_of i levels)) (Some (get_or kept (slot_of i) 0 % 4294967296)) None

-- an entry is right: whichever record and level it is of, it has the size of the children there
pub record Right (records pool : List ℕ) (e : ℕ) : Type 0 where
  pub size : (i levels : ℕ) → levels ≤ 64 → e / 4294967296 ≡ key_of i levels → e % 4294967296 ≡ length (kids_of records pool levels i (record_at records i)).bytes

pub record Kept (records pool kept : List ℕ) : Type 0 where
  pub each : (j : ℕ) → j < length kept → Right records pool (get_or kept j 0)

-- ── What is in the table stays right
right_none : (records pool : List ℕ) (e : ℕ) → e ≡ 0 → Right records pool e
unfolding key_of
right_none records pool e z = record { size = λ i levels l h. absurd (omega arith) }

-- a table of zeros keeps nothing
pub kept-none : (records pool : List ℕ) (n : ℕ) → Kept records pool (replicate n 0)
kept-none records pool n = record { each = λ j h. right_none records pool _ (get_or-replicate n j 0 0 (rw (length-replicate {A = ℕ} n 0) at h)) }

right_made : (records pool : List ℕ) (i levels size : ℕ) → levels ≤ 64 → size < 4294967296 → size ≡ length (kids_of records pool levels i (record_at records i)).bytes
    → Right records pool (size + 4294967296 * key_of i levels)
unfolding key_of
right_made records pool i levels size l f e = record {
  size = λ j m b h.
      let p : j ≡ i = omega arith in
      let q : m ≡ levels = omega arith in
      rw (p, q) (omega (arith, e));
}

module _ {records pool kept : List ℕ} (k : Kept records pool kept) where
  kept_set : (s e : ℕ) → Right records pool e → Kept records pool (set kept s e)
  kept_set s e r = record { each = λ j h. by j (rw (length-set kept s e) at h) (eqb j s) refl }
    where
      by : (j : ℕ) → j < length kept → (b : Bool) → eqb j s ≡ b → Right records pool (get_or (set kept s e) j 0)
      by j h true t = let p = eqb-true j s t in rw (p, get_or-set_same kept s e 0 (omega arith)) r
      by j h false t = rw (get_or-set_other kept s j e 0 (eqb-false j s t)) (k.each j h)

  kept_put : (i levels size : ℕ) → levels ≤ 64 → size ≡ length (kids_of records pool levels i (record_at records i)).bytes → Kept records pool (kept_in kept i levels size)
  unfolding kept_in
  kept_put i levels size l e = by (ltb (slot_of i) (length kept)) (ltb size 4294967296) refl
    where
      by : (a b : Bool) → ltb size 4294967296 ≡ b → Kept records pool (cond (a && b) (set kept (slot_of i) (size + 4294967296 * key_of i levels)) kept)
      by false b t = k
      by true false t = k
      by true true t = kept_set _ _ (right_made records pool i levels size l (ltb-true size 4294967296 t) e)

  kept-got : (i levels : ℕ) → levels ≤ 64 → {r : ℕ} → Some r ≡ kept_of kept i levels → r ≡ length (kids_of records pool levels i (record_at records i)).bytes
  unfolding kept_of
  kept-got i levels l {r} e = by (ltb (slot_of i) (length kept)) (eqb (get_or kept (slot_of i) 0 / 4294967296) (key_of i levels)) refl refl e
    where
      by : (a b : Bool) → ltb (slot_of i) (length kept) ≡ a → eqb (get_or kept (slot_of i) 0 / 4294967296) (key_of i levels) ≡ b
          → Some r ≡ cond (a && b) (Some (get_or kept (slot_of i) 0 % 4294967296)) None → r ≡ length (kids_of records pool levels i (record_at records i)).bytes
      by false b s t x = absurd (none-some r (sym x))
      by true false s t x = absurd (none-some r (sym x))
      by true true s t x =
          ap (λ (o : Option ℕ). unwrap_or o 0) x
          ∙ (k.each (slot_of i) (ltb-true (slot_of i) (length kept) s)).size i levels l (eqb-true (get_or kept (slot_of i) 0 / 4294967296) (key_of i levels) t)

  -- for whoever is told the number of children
  module _ {levels i n : ℕ} (x : Parent records levels i n) where
    pub parent_put : (size : ℕ) → size ≡ length (list (term (levels - 1)) n (terms_from records pool (i + 1))).bytes → Kept records pool (kept_in kept i levels size)
    parent_put size e = kept_put i levels size x.most (rw (← x.kids) e)

    pub parent_got : {r : ℕ} → Some r ≡ kept_of kept i levels → r ≡ length (list (term (levels - 1)) n (terms_from records pool (i + 1))).bytes
    parent_got e = rw x.kids (kept-got i levels x.most e)

-- The records that a walk over a table leaves: each holds, for its text's start, where the text stands in the table. They are put from an
-- index on into the part that is lent for records; where it is too short, only its length is known afterwards.
-- Assumes nothing.
use Rattle.std.specs.Prelude.{◌≡◌, refl, ℕ, ◌+◌, ◌-◌, ◌*◌, ◌/◌, ◌≤◌, ◌<◌, T, take, drop}
use Rattle.std.proofs.Common.{sym, ◌∙◌, arith, length-append, length-take, take-append-drop, take_at, drop_at, drop-drop, take_all, length-take-le}
use Rattle.std.proofs.Math.Path.{ap}
use mathlib.Core.List.{List, [], ◌∷◌, ◌++◌, append_assoc, append-nil, map, map-append}
use Rattle.std.proofs.Math.ListN.{length, length-drop, drop_of_length-le}
use Rattle.std.proofs.lemmas.List.{length-map, drop-append-le}
use Rattle.octets.specs.Filling.{Wrote, lent, returned}
use Rattle.term.specs.declared.Record.{Record}
use Rattle.grammar.specs.Kinds.{row_of, row_in}
use Rattle.grammar.specs.Forest.{Term}
use Rattle.fields.specs.Fields.{in_range, spelled}
use Rattle.fields.specs.Written.{text_bytes}
use Rattle.tree.specs.IsNormal.{is_normal}
use Rattle.normal.specs.File.{record_bytes}
use Rattle.normal.specs.SectionLaws.{record-length}
use Rattle.normal.specs.Stands.{Stands}
use Rattle.normal.specs.Writable.{Every}
use Rattle.normal.specs.WritableLaws.{every_append}
use Rattle.repack.specs.Repack.{packed}
use Rattle.repack.specs.PackLaws.{packed-length}

-- ── A term, and where its text stands
pub record Spot : Type 0 where
  pub term : Term
  pub place : ℕ

-- the record that says both
abbrev pub spot_bytes : Spot → List ℕ
spot_bytes s = record_bytes s.term s.place

unfoldable pub spots_bytes : List Spot → List ℕ
spots_bytes [] = []
spots_bytes (s ∷ l) = spot_bytes s ++ spots_bytes l

abbrev pub terms_of : List Spot → List Term
terms_of l = map (λ s. s.term) l

-- the bytes of its text are there; and it is of a normal kind, in whose range it is and whose text they spell
pub record Sits (b : List ℕ) (s : Spot) : Type 0 where
  pub normal : T (is_normal s.term.kind)
  pub ranged : T (in_range (row_in (row_of s.term.kind)) s.term.fields.text s.term.fields.a s.term.fields.x)
  pub spelled : T (spelled (row_in (row_of s.term.kind)) s.term.fields.text)
  pub there : Stands b s.place (text_bytes (row_in (row_of s.term.kind)).text s.term.kind s.term.fields)

-- ── Bytes in the middle of others
unfoldable pub spliced : ℕ → List ℕ → List ℕ → List ℕ
spliced at bs xs = take at xs ++ (bs ++ drop (at + length bs) xs)

pub splice_length : (at : ℕ) (bs xs : List ℕ) → at + length bs ≤ length xs → length (spliced at bs xs) ≡ length xs
unfolding spliced
splice_length at bs xs h = simp (length-append, length-drop, length-take-le at xs (omega arith)) (omega arith)

-- over a list whose parts are known
splice_at : (u v w bs : List ℕ) (at : ℕ) → length u ≡ at → length v ≡ length bs → spliced at bs (u ++ (v ++ w)) ≡ u ++ (bs ++ w)
unfolding spliced
splice_at u v w bs at e f =
    let q : length (u ++ v) ≡ at + length bs = simp length-append (omega arith) in
    rw (take_at u (v ++ w) at e) (ap (λ z. u ++ (bs ++ z)) (ap (drop (at + length bs)) (sym (append_assoc u v w)) ∙ drop_at (u ++ v) w _ q))

-- a list's parts, as long as two pieces from `at` on
record Cut (at : ℕ) (ps qs xs : List ℕ) : Type 0 where
  u : List ℕ
  v : List ℕ
  w : List ℕ
  z : List ℕ
  is : xs ≡ u ++ (v ++ (w ++ z))
  u-is : length u ≡ at
  v-is : length v ≡ length ps
  w-is : length w ≡ length qs

cut_in : (at : ℕ) (ps qs xs : List ℕ) → at + length ps + length qs ≤ length xs → Cut at ps qs xs
cut_in at ps qs xs h =
    let y = drop at xs in
    let y₂ = drop (length ps) y in
    record {
      u = take at xs;
      v = take (length ps) y;
      w = take (length qs) y₂;
      z = drop (length qs) y₂;
      is = sym (rw (take-append-drop (length qs) y₂, take-append-drop (length ps) y) (take-append-drop at xs));
      u-is = length-take-le at xs (omega arith);
      v-is = length-take-le (length ps) y (rw length-drop (omega arith));
      w-is = length-take-le (length qs) y₂ (rw (length-drop, length-drop) (omega arith));
    }

module _ (at : ℕ) (ps qs xs : List ℕ) (h : at + length ps + length qs ≤ length xs) where
  joined_at : (c : Cut at ps qs xs) → spliced at (ps ++ qs) xs ≡ c.u ++ (ps ++ (qs ++ c.z))
  joined_at c =
      let e : xs ≡ c.u ++ ((c.v ++ c.w) ++ c.z) = c.is ∙ ap (λ y. c.u ++ y) (sym (append_assoc c.v c.w c.z)) in
      ap (spliced at (ps ++ qs)) e
      ∙ splice_at c.u (c.v ++ c.w) c.z (ps ++ qs) at c.u-is (rw (length-append c.v c.w, length-append ps qs, c.v-is, c.w-is) refl)
      ∙ ap (λ y. c.u ++ y) (append_assoc ps qs c.z)

  -- the second piece first, or the first piece first
  pub splice_before : spliced at ps (spliced (at + length ps) qs xs) ≡ spliced at (ps ++ qs) xs
  splice_before =
      let c = cut_in at ps qs xs h in
      let e : xs ≡ (c.u ++ c.v) ++ (c.w ++ c.z) = c.is ∙ sym (append_assoc c.u c.v (c.w ++ c.z)) in
      let f : spliced (at + length ps) qs xs ≡ c.u ++ (c.v ++ (qs ++ c.z)) =
      ap (spliced (at + length ps) qs) e ∙ splice_at (c.u ++ c.v) c.w c.z qs _ (rw (length-append c.u c.v, c.u-is, c.v-is) refl) c.w-is
      ∙ append_assoc c.u c.v (qs ++ c.z) in
      ap (spliced at ps) f ∙ splice_at c.u c.v (qs ++ c.z) ps at c.u-is c.v-is ∙ sym (joined_at c)

  pub splice_behind : spliced (at + length ps) qs (spliced at ps xs) ≡ spliced at (ps ++ qs) xs
  splice_behind =
      let c = cut_in at ps qs xs h in
      let f : spliced at ps xs ≡ (c.u ++ ps) ++ (c.w ++ c.z) =
      ap (spliced at ps) c.is ∙ splice_at c.u c.v (c.w ++ c.z) ps at c.u-is c.v-is ∙ sym (append_assoc c.u ps (c.w ++ c.z)) in
      ap (spliced (at + length ps) qs) f ∙ splice_at (c.u ++ ps) c.w c.z qs _ (rw (length-append c.u ps, c.u-is) refl) c.w-is
      ∙ append_assoc c.u ps (qs ++ c.z) ∙ sym (joined_at c)

pub splice_nothing : (at : ℕ) (xs : List ℕ) → spliced at [] xs ≡ xs
unfolding spliced
splice_nothing at xs = let e : at + 0 ≡ at = omega arith in rw e (take-append-drop at xs)

-- record i, as it is put where there is room for it
pub record Spliced (r : Record) (i : ℕ) (first out : List ℕ) : Type 0 where
  pub same : length out ≡ length first
  pub put : 24 * (i + 1) ≤ length first → out ≡ spliced (24 * i) (packed r) first

pub spliced_not : (r : Record) (i : ℕ) (first : List ℕ) → length first / 24 ≤ i → Spliced r i first first
spliced_not r i first h = record { same = refl; put = λ g. absurd (omega arith) }

module _ (r : Record) (i : ℕ) (first : List ℕ) (h : i < length first / 24) where
  pub spliced-room : length (packed r) ≤ length (lent (24 * i) first)
  spliced-room = rw packed-length (simp (length-take, length-drop) (omega arith))

  pub spliced-put : {n : ℕ} {ys : List ℕ} → Wrote (packed r) (lent (24 * i) first) ys n → Spliced r i first (returned (24 * i) first ys)
  unfolding spliced
  spliced-put {ys = ys} w =
      let d : length (drop (24 * i) first) ≤ length first - 24 * i = rw length-drop (omega arith) in
      let e : returned (24 * i) first ys ≡ spliced (24 * i) (packed r) first =
      rw w.is (rw (take_all (length first - 24 * i) (drop (24 * i) first) d, drop_of_length-le (drop (24 * i) first) d, append-nil, drop-drop) refl) in
      record { same = ap length e ∙ splice_length (24 * i) (packed r) first (omega (arith, packed-length r)); put = λ _. e }

-- ── What was left of terms from record i on
pub record Left (ts : List Term) (b : List ℕ) (i : ℕ) (first out : List ℕ) : Type 0 where
  pub spots : List Spot
  pub are : terms_of spots ≡ ts
  pub sit : Every (Sits b) spots
  pub put : 24 * (i + length ts) ≤ length first → out ≡ spliced (24 * i) (spots_bytes spots) first

pub spots-length : (l : List Spot) → length (spots_bytes l) ≡ 24 * length l
unfolding spots_bytes
spots-length [] = refl
spots-length (s ∷ l) = omega (arith, length-append (spot_bytes s) (spots_bytes l), record-length s.term s.place, spots-length l)

spots-append : (l m : List Spot) → spots_bytes (l ++ m) ≡ spots_bytes l ++ spots_bytes m
unfolding spots_bytes
spots-append [] m = refl
spots-append (s ∷ l) m = rw (spots-append l m, append_assoc (spot_bytes s) (spots_bytes l) (spots_bytes m)) refl

pub left-none : (b : List ℕ) (i : ℕ) (first : List ℕ) → Left [] b i first first
unfolding Every spots_bytes
left-none b i first = record { spots = []; are = refl; sit = tt; put = λ h. sym (splice_nothing (24 * i) first) }

pub spots-count : {ts : List Term} (l : List Spot) → terms_of l ≡ ts → length l ≡ length ts
spots-count l e = sym (length-map l (λ s. s.term)) ∙ ap length e

-- a term's record before those of its children
pub left-node : {ts : List Term} {b : List ℕ} {i : ℕ} {first mid out : List ℕ} (s : Spot) → Left ts b (i + 1) first mid → length mid ≡ length first → Sits b s
    → (24 * (i + 1) ≤ length mid → out ≡ spliced (24 * i) (spot_bytes s) mid) → Left (s.term ∷ ts) b i first out
unfolding Every spots_bytes
left-node {ts} {b} {i} {first} {mid} s l e h p =
    record {
      spots = s ∷ l.spots;
      are = ap (λ r. s.term ∷ r) l.are;
      sit = (h, l.sit);
      put = λ room.
          let n : length (spots_bytes l.spots) ≡ 24 * length ts = spots-length l.spots ∙ ap (λ k. 24 * k) (spots-count l.spots l.are) in
          let w = record-length s.term s.place in
          let f : 24 * (i + 1) ≡ 24 * i + length (spot_bytes s) = omega arith in
          p (omega arith) ∙ ap (spliced (24 * i) (spot_bytes s)) (l.put (omega arith) ∙ ap (λ k. spliced k (spots_bytes l.spots) first) f)
          ∙ splice_before (24 * i) (spot_bytes s) (spots_bytes l.spots) first (omega arith);
    }

-- terms after others
pub left-next : {ts us : List Term} {b : List ℕ} {i j : ℕ} {first mid out : List ℕ} → Left ts b i first mid → length mid ≡ length first → j ≡ i + length ts
    → Left us b j mid out → Left (ts ++ us) b i first out
left-next {ts} {us} {b} {i} {j} {first} {mid} l e q m =
    record {
      spots = l.spots ++ m.spots;
      are = map-append (λ s. s.term) l.spots m.spots ∙ rw (l.are, m.are) refl;
      sit = every_append (Sits b) l.spots m.spots l.sit m.sit;
      put = λ room.
          let c = length-append ts us in
          let n₁ : length (spots_bytes l.spots) ≡ 24 * length ts = spots-length l.spots ∙ ap (λ k. 24 * k) (spots-count l.spots l.are) in
          let n₂ : length (spots_bytes m.spots) ≡ 24 * length us = spots-length m.spots ∙ ap (λ k. 24 * k) (spots-count m.spots m.are) in
          let f : 24 * j ≡ 24 * i + length (spots_bytes l.spots) = omega arith in
          m.put (omega arith) ∙ ap (λ k. spliced k (spots_bytes m.spots) mid) f
          ∙ ap (spliced (24 * i + length (spots_bytes l.spots)) (spots_bytes m.spots)) (l.put (omega arith))
          ∙ splice_behind (24 * i) (spots_bytes l.spots) (spots_bytes m.spots) first (omega arith)
          ∙ ap (λ y. spliced (24 * i) y first) (sym (spots-append l.spots m.spots));
    }

-- ── What stands in the front of a table stands in the table
module _ (b : List ℕ) (end : ℕ) (h : end ≤ length b) where
  stands_wider : {at : ℕ} {bs : List ℕ} → Stands (take end b) at bs → Stands b at bs
  stands_wider {at} {bs} s =
      let l : length (take end b) ≡ end = length-take-le end b h in
      let q : drop at b ≡ drop at (take end b) ++ drop end b = ap (drop at) (sym (take-append-drop end b)) ∙ drop-append-le at (take end b) (drop end b) s.within in
      record { rest = s.rest ++ drop end b; is = q ∙ rw s.is (append_assoc bs s.rest (drop end b)); within = omega (arith, s.within) }

  sits_wider : (l : List Spot) → Every (Sits (take end b)) l → Every (Sits b) l
  unfolding Every
  sits_wider [] e = tt
  sits_wider (s ∷ l) e = (record { normal = e.0.normal; ranged = e.0.ranged; spelled = e.0.spelled; there = stands_wider e.0.there }, sits_wider l e.1)

  pub left_wider : {ts : List Term} {i : ℕ} {first out : List ℕ} → Left ts (take end b) i first out → Left ts b i first out
  left_wider l = record { spots = l.spots; are = l.are; sit = sits_wider l.spots l.sit; put = l.put }

-- What an accepted file describes: a forest, each term of which may stand where it does; and the records of such a forest are accepted.
-- Document 01, "The term file" ("Records stand in preorder; the top level is a list").
-- Assumes nothing.
use Rattle.std.specs.Prelude.{◌≡◌, Bool, true, false, ◌&&◌, not, cond, T, eqb, List, [], ◌∷◌, ◌++◌, map, ℕ, zero, suc, ◌-◌}
use Rattle.std.proofs.Common.{refl, sym, ap, subst, ◌∙◌, arith, eqb-true, eq-eqb}
use Rattle.std.proofs.Math.Option.{Option, none, some, some-injective}
use Rattle.std.proofs.lemmas.Bool.{eqb-false}
use Rattle.octets.specs.Bytes.{◌>>=◌}
use Rattle.octets.specs.Tests.{took₁, and_left, and_right, and_both}
use Rattle.grammar.specs.declared.Place.{Place}
use Rattle.grammar.specs.declared.Place.TheVariants.{InList}
use Rattle.grammar.specs.declared.Row.{Row}
use Rattle.grammar.specs.Kinds.{stands, child_place, counts, args_at, row_of, row_in}
use Rattle.grammar.specs.Forest.{Forest, nil, node, count, Term, split, build}
use Rattle.grammar.specs.ForestLaws.{join, split-join, split-only}
use Rattle.fields.specs.Fields.{in_range, spelled}
use Rattle.tree.specs.Fits.{fine, known, term_fits, Fits}
use Rattle.term.specs.declared.Record.{Record}
use Rattle.term.specs.Record.{records_from}
use Rattle.term.specs.File.{layout_of, record_section, arity_section, pool_section}
use Rattle.arity.specs.Arity.{arities_fit, args_of}
use Rattle.checker.specs.Refusal.{Verdict, verdict, text_of, in_pool, place_fault, fault, fault_as, fault_of, Owed, owe, next, later, kids_of, scan, refusal_of}
use Rattle.checker.specs.Described.{forest_of, term_of}

unfoldable pub InPool : List ℕ → List Record → Type 0
InPool pool [] = Unit {0}
InPool pool (r ∷ rs) = T (in_pool pool r) × InPool pool rs

module _ (arities pool : List ℕ) where
  -- ── A record has no fault exactly if its text lies in the pool and its term may stand
  chain : (b : Bool) (m n : ℕ) → T b → n ≡ 0 → cond (not b) m n ≡ 0
  chain true m n t h = h
  chain false m n t h = absurd t

  chain_inv : (b : Bool) (m n : ℕ) → cond (not b) (suc m) n ≡ 0 → T b × (n ≡ 0)
  chain_inv true m n h = (tt, h)
  chain_inv false m n h = let z : ⊥ = omega arith in absurd z

  levels-left : (b : Bool) → T (not b) → ◌≡◌ {A = ℕ} (cond b 9 0) 0
  levels-left true t = absurd t
  levels-left false t = refl

  levels-left_inv : (b : Bool) → ◌≡◌ {A = ℕ} (cond b 9 0) 0 → T (not b)
  levels-left_inv true h = let z : ⊥ = omega arith in absurd z
  levels-left_inv false h = tt

  module _ (p : Place) (l : ℕ) (r : Record) where
    pub faultless : T (in_pool pool r) → T (term_fits (args_of arities pool) p l r.kind (term_of pool r).fields r.kids) → fault_of arities pool p l r ≡ 0
    unfolding fault_of fault_as fault place_fault term_fits known fine term_of
    faultless h t = by (row_of r.kind) t
      where
        by : (o : Option Row) → T (known (args_of arities pool) o p l (term_of pool r).fields r.kids) → fault_as o pool (args_of arities pool (text_of pool r)) p l r ≡ 0
        by none t = absurd t
        by (some row) t =
            chain (in_pool pool r && in_range row (text_of pool r) r.a r.x) 5 _ (and_both (in_pool pool r) (in_range row (text_of pool r) r.a r.x) h (search (and_left, and_right) depth 10))
            (chain (spelled row (text_of pool r)) 6 _ (search (and_left, and_right) depth 10)
            (chain (counts row.rest row.operands (args_at p (args_of arities pool (text_of pool r))) r.kids) 7 _ (search (and_left, and_right) depth 10)
            (chain (stands row.places p) 8 _ (search (and_left, and_right) depth 10)
            (levels-left (eqb l 0) (search (and_left, and_right) depth 10)))))

    pub faultless-only : fault_of arities pool p l r ≡ 0 → T (in_pool pool r) × T (term_fits (args_of arities pool) p l r.kind (term_of pool r).fields r.kids)
    unfolding fault_of fault_as fault place_fault term_fits known fine term_of
    faultless-only h = by (row_of r.kind) h
      where
        by : (o : Option Row) → fault_as o pool (args_of arities pool (text_of pool r)) p l r ≡ 0
            → T (in_pool pool r) × T (known (args_of arities pool) o p l (term_of pool r).fields r.kids)
        by none h = let z : ⊥ = omega arith in absurd z
        by (some row) h =
            let (t₅, h₅) = chain_inv (in_pool pool r && in_range row (text_of pool r) r.a r.x) 4 _ h in
            let (t₆, h₆) = chain_inv (spelled row (text_of pool r)) 5 _ h₅ in
            let (t₇, h₇) = chain_inv (counts row.rest row.operands (args_at p (args_of arities pool (text_of pool r))) r.kids) 6 _ h₆ in
            let (t₈, h₈) = chain_inv (stands row.places p) 7 _ h₇ in
            let t₉ = levels-left_inv (eqb l 0) h₈ in
            let t₃ : T (in_pool pool r) = and_left _ (in_range row (text_of pool r) r.a r.x) t₅ in
            let t₄ : T (in_range row (text_of pool r) r.a r.x) = and_right (in_pool pool r) _ t₅ in
            (t₃, search and_both)

  -- ── What is owed, met by a forest, with terms of the top level behind
  pub Meets : List Owed → Forest → Type 0
  Meets [] nil = Unit {0}
  Meets (o ∷ q) nil = ⊥
  Meets q (node k v c s) =
      T (term_fits (args_of arities pool) (next q).place (next q).levels k v (count c))
      × Fits (args_of arities pool) (child_place (row_in (row_of k))) ((next q).levels - 1) 0 c
      × Meets (later q) s

  owe-join : (row : Row) (l j : ℕ) (c : Forest) (q : List Owed) (s : Forest) → Fits (args_of arities pool) (child_place row) l j c → Meets q s → Meets (owe row l j (count c) ++ q) (join c s)
  unfolding Fits Meets owe count join next later
  owe-join row l j nil q s h m = m
  owe-join row l j (node k v c d) q s h m = (h.0, h.1, owe-join row l (suc j) d q s h.2 m)

  owe-split : {C : Type 0} (row : Row) (l j n : ℕ) (q : List Owed) (g : Forest) → Meets (owe row l j n ++ q) g
      → ((c s : Forest) → g ≡ join c s → count c ≡ n → Fits (args_of arities pool) (child_place row) l j c → Meets q s → C) → C
  unfolding Fits Meets owe count join next later
  owe-split row l j zero q g m k = k nil g refl refl tt m
  owe-split row l j (suc n) q nil m k = absurd m
  owe-split row l j (suc n) q (node i v c d) m k =
      owe-split row l (suc j) n q d m.2 λ e s g h f z. k (node i v c e) s (ap (node i v c) g) (ap suc h) (m.0, m.1, f) z

  -- ── The records that are accepted are those of the forests that meet what is owed
  refused_inv : (n i : ℕ) (v : Verdict) → (cond (eqb n 0) v (verdict n i)).number ≡ 0 → (n ≡ 0) × (v.number ≡ 0)
  refused_inv n i v h = split (eqb n 0) refl h
    where
      split : (b : Bool) → eqb n 0 ≡ b → (cond b v (verdict n i)).number ≡ 0 → (n ≡ 0) × (v.number ≡ 0)
      split true e h = (eqb-true n 0 e, h)
      split false e h = absurd (eqb-false n 0 e h)

  -- the records' texts lie in the pool, and they have a forest that meets what is owed
  abbrev pub Describes : List Record → List Owed → Type 0
  Describes rs q = InPool pool rs × ((f : Forest) × (build (map (term_of pool) rs) ≡ some f) × Meets q f)

  build-node : (t : Term) (ts : List Term) (c s : Forest) → build ts ≡ some (join c s) → count c ≡ t.kids → build (t ∷ ts) ≡ some (node t.kind t.fields c s)
  unfolding build ◌>>=◌
  build-node t ts c s e n = let h = rw n at (split-join c s) in rw (e, h) refl

  describes_more : (r : Record) (rs : List Record) (q : List Owed) → fault_of arities pool (next q).place (next q).levels r ≡ 0
      → Describes rs (kids_of (next q) r ++ later q) → Describes (r ∷ rs) q
  unfolding InPool Meets kids_of term_of
  describes_more r rs q z (h, (g, e, m)) =
      let (t, u) = faultless-only (next q).place (next q).levels r z in
      owe-split (row_in (row_of r.kind)) ((next q).levels - 1) 0 r.kids (later q) g m λ c s j n f k. (
        (t, h),
        (
          node r.kind (term_of pool r).fields c s,
          build-node (term_of pool r) (map (term_of pool) rs) c s (e ∙ ap some j) n,
          (subst (λ w. T (term_fits (args_of arities pool) (next q).place (next q).levels r.kind (term_of pool r).fields w)) (sym n) u, f, k),
        ),
      )

  pub accepted : (rs : List Record) (i : ℕ) (q : List Owed) → (scan arities pool rs i q).number ≡ 0 → Describes rs q
  unfolding scan InPool Meets build
  accepted [] i [] h = (tt, (nil, refl, tt))
  accepted [] i (o ∷ q) h = let z : ⊥ = omega arith in absurd z
  accepted (r ∷ rs) i q h =
      let (z, k) = refused_inv (fault_of arities pool (next q).place (next q).levels r) i (scan arities pool rs (suc i) (kids_of (next q) r ++ later q)) h in
      describes_more r rs q z (accepted rs (suc i) (kids_of (next q) r ++ later q) k)

  describes_less : (r : Record) (rs : List Record) (q : List Owed) → Describes (r ∷ rs) q
      → (fault_of arities pool (next q).place (next q).levels r ≡ 0) × Describes rs (kids_of (next q) r ++ later q)
  unfolding InPool Meets kids_of term_of build
  describes_less r rs q (h, (f, e, m)) =
      took₁ (build (map (term_of pool) rs)) _ e λ g h₁ h₂.
      took₁ (split r.kids g) _ h₂ λ u h₃ h₄.
      let (n, j) = split-only r.kids g u.0 u.1 h₃ in
      let k : Meets q (node r.kind (term_of pool r).fields u.0 u.1) = subst (Meets q) (sym (some-injective _ f h₄)) m in (
        faultless (next q).place (next q).levels r h.0
            (subst (λ w. T (term_fits (args_of arities pool) (next q).place (next q).levels r.kind (term_of pool r).fields w)) n k.0),
        (
          h.1,
          (
            g,
            h₁,
            subst (Meets (kids_of (next q) r ++ later q)) (sym j)
                (subst (λ w. Meets (owe (row_in (row_of r.kind)) ((next q).levels - 1) 0 w ++ later q) (join u.0 u.1)) n
                (owe-join (row_in (row_of r.kind)) ((next q).levels - 1) 0 u.0 (later q) u.1 k.1 k.2)),
          ),
        ),
      )

  pub accepted-back : (rs : List Record) (i : ℕ) (q : List Owed) → Describes rs q → scan arities pool rs i q ≡ verdict 0 0
  unfolding scan Meets build
  accepted-back [] i [] h = refl
  accepted-back [] i (o ∷ q) (h, (f, e, m)) = absurd (subst (Meets (o ∷ q)) (sym (some-injective nil f e)) m)
  accepted-back (r ∷ rs) i q h =
      let (z, k) = describes_less r rs q h in
      rw (eq-eqb (fault_of arities pool (next q).place (next q).levels r) 0 z) (accepted-back rs (suc i) (kids_of (next q) r ++ later q) k)

  -- ── At the top nothing is owed, and each term stands in the list
  pub meets_fits : (j : ℕ) (f : Forest) → Meets [] f → Fits (args_of arities pool) (λ _. InList) 64 j f
  unfolding Meets Fits next later
  meets_fits j nil m = tt
  meets_fits j (node k v c s) m = (m.0, m.1, meets_fits (suc j) s m.2)

  pub fits_meets : (j : ℕ) (f : Forest) → Fits (args_of arities pool) (λ _. InList) 64 j f → Meets [] f
  unfolding Meets Fits next later
  fits_meets j nil m = tt
  fits_meets j (node k v c s) m = (m.0, m.1, fits_meets (suc j) s m.2)

-- an accepted file describes a forest, whose terms may stand where they do
pub accepted-forest : (f : List ℕ) → (refusal_of f).number ≡ 0
    → (g : Forest) × (forest_of f ≡ some g) × Fits (args_of (arity_section f) (pool_section f)) (λ _. InList) 64 0 g
unfolding refusal_of forest_of
accepted-forest f h =
    let (_, (g, e, m)) = accepted (arity_section f) (pool_section f) (records_from (record_section f) 0) 0 [] (past (arities_fit (arity_section f) (pool_section f)) (laid (layout_of f).number h)) in
    (g, e, meets_fits (arity_section f) (pool_section f) 0 g m)
  where
    v : Verdict
    v = scan (arity_section f) (pool_section f) (records_from (record_section f) 0) 0 []

    past : (b : Bool) → (cond (not b) (verdict 3 0) v).number ≡ 0 → v.number ≡ 0
    past true h = h
    past false h = let z : ⊥ = omega arith in absurd z

    w : Verdict
    w = cond (not (arities_fit (arity_section f) (pool_section f))) (verdict 3 0) v

    laid : (n : ℕ) → (cond (not (eqb n 0)) (verdict n 0) w).number ≡ 0 → w.number ≡ 0
    laid n h = split (eqb n 0) refl h
      where
        split : (b : Bool) → eqb n 0 ≡ b → (cond (not b) (verdict n 0) w).number ≡ 0 → w.number ≡ 0
        split true e h = h
        split false e h = absurd (eqb-false n 0 e h)

-- Records and forests: flattening a forest and growing it back is the identity in both directions, and walking along the records walks the forest.
-- Assumes nothing.
use Rattle.std.specs.Prelude.{◌≡◌, refl, List, [], ◌∷◌, ◌++◌, ℕ, zero, suc, ◌≤◌, length, drop}
use Rattle.std.proofs.Common.{◌∙◌, ap, append_assoc, append-nil, arith, length-append}
use Rattle.std.proofs.Math.Option.{some, none-ne-some, some-injective}
use Rattle.std.proofs.Math.Seq.{drop-append_seam}
use Rattle.octets.specs.Bytes.{◌>>=◌}
use Rattle.octets.specs.Tests.{took₁, gave}
use Rattle.grammar.specs.Forest.{Fields, Forest, nil, node, count, Term, flatten, split, build}

-- one forest after another
unfoldable pub join : Forest → Forest → Forest
join nil g = g
join (node k v c s) g = node k v c (join s g)

pub join-nil : (f : Forest) → join f nil ≡ f
unfolding join
join-nil nil = refl
join-nil (node k v c s) = ap (node k v c) (join-nil s)

pub flatten-join : (f g : Forest) → flatten (join f g) ≡ flatten f ++ flatten g
unfolding join flatten
flatten-join nil g = refl
flatten-join (node k v c s) g = rw (flatten-join s g, append_assoc)

pub count_most : (f : Forest) → count f ≤ length (flatten f)
unfolding count flatten
count_most nil = omega arith
count_most (node k v c s) = omega (arith, count_most s, length-append (flatten c) (flatten s))

pub split-join : (f g : Forest) → split (count f) (join f g) ≡ some (f, g)
unfolding split count join ◌>>=◌
split-join nil g = refl
split-join (node k v c s) g = rw (split-join s g)

pub split-only : (n : ℕ) (f c s : Forest) → split n f ≡ some (c, s) → (count c ≡ n) × (f ≡ join c s)
unfolding split count join
split-only zero f c s h = let (p, q) = gave h in (rw (← p) refl, rw (← p) q)
split-only (suc n) nil c s h = absurd (none-ne-some _ h)
split-only (suc n) (node k v a b) c s h =
    took₁ (split n b) _ h λ u h₁ h₂.
    let (p, q) = gave h₂ in
    let (e₁, e₂) = split-only n b u.0 u.1 h₁ in
    (rw (← p) (ap suc e₁), rw (← p, ← q) (ap (node k v a) e₂))

build-back : (f : Forest) (rs : List Term) (g : Forest) → build rs ≡ some g → build (flatten f ++ rs) ≡ some (join f g)
unfolding build flatten join ◌>>=◌
build-back nil rs g h = h
build-back (node k v c s) rs g h =
    rw (append_assoc (flatten c) (flatten s) rs, build-back c (flatten s ++ rs) (join s g) (build-back s rs g h), split-join c (join s g))

-- ── Both directions
pub build-flatten : (f : Forest) → build (flatten f) ≡ some f
unfolding build
build-flatten f = rw append-nil at (build-back f [] nil refl) ∙ ap some (join-nil f)

pub flatten-build : (rs : List Term) (f : Forest) → build rs ≡ some f → rs ≡ flatten f
unfolding build flatten
flatten-build [] f h = rw (← (some-injective _ f h))
flatten-build (r ∷ rs) f h =
    took₁ (build rs) _ h λ g h₁ h₂.
    took₁ (split r.kids g) _ h₂ λ u h₃ h₄.
    let p = some-injective _ f h₄ in
    let (e₁, e₂) = split-only r.kids g u.0 u.1 h₃ in
    rw (← p, e₁) (ap (λ l. r ∷ l) (flatten-build rs g h₁ ∙ rw e₂ (flatten-join u.0 u.1)))

-- ── Walking along the records: the forest of what is left begins with the term whose record is next
-- what is left of a forest's records has a forest
pub build-drop : (i : ℕ) (rs : List Term) (f : Forest) → build rs ≡ some f → (g : Forest) × (build (drop i rs) ≡ some g)
unfolding build
build-drop zero rs f h = (f, h)
build-drop (suc i) [] f h = (nil, refl)
build-drop (suc i) (r ∷ rs) f h = took₁ (build rs) _ h λ g h₁ h₂. build-drop i rs g h₁

-- behind a term's record stand its children, and then the terms after it
pub build-kids : (r : Term) (rs : List Term) (k : ℕ) (v : Fields) (c s : Forest) → build (r ∷ rs) ≡ some (node k v c s)
    → (r ≡ record { kind = k; fields = v; kids = count c }) × (build rs ≡ some (join c s))
unfolding flatten
build-kids r rs k v c s h =
    let e = flatten-build (r ∷ rs) (node k v c s) h in
    (ap first e, rw (ap rest e, ← (flatten-join c s)) (build-flatten (join c s)))
  where
    first : List Term → Term
    first [] = r
    first (x ∷ l) = x

    rest : List Term → List Term
    rest [] = []
    rest (x ∷ l) = l

-- behind the children's records stand those of the terms after them
pub build-next : (rs : List Term) (c s : Forest) → build rs ≡ some (join c s) → build (drop (length (flatten c)) rs) ≡ some s
build-next rs c s h =
    let e : rs ≡ flatten c ++ flatten s = flatten-build rs (join c s) h ∙ flatten-join c s in
    rw (e, drop-append_seam (flatten c) (flatten s)) (build-flatten s)

-- Where a body starts and ends, as the code answers it that looks for its box: held to `unbox`, for whatever reads the body.
-- Assumes nothing.
use Rattle.std.specs.Prelude.{◌≡◌, Bool, ◌||◌, not, cond, Some, None, List, [], ℕ, ◌+◌, ◌-◌, ◌≤◌, ◌<◌, eqb, length, take, drop}
use Rattle.std.specs.Prelude as rust
use Rattle.std.proofs.Math.Path.{refl, sym}
use Rattle.std.proofs.Common.{ap, ◌∙◌, true≢false, arith, length-take, length-take-le, take-add, drop_at}
use Rattle.std.proofs.Math.Bool.{true, false}
use Rattle.std.proofs.Math.Option.{Option, none, some, none-ne-some, some-injective}
use Rattle.std.proofs.Math.ListN.{length-drop}
use Rattle.std.proofs.Math.Seq.{take-length, drop-drop}
use Rattle.octets.specs.Bytes.{Reader, ◌>>=◌, need}
use Rattle.octets.specs.Laws.{cut_at, cut_short}
use Rattle.octets.specs.Reading.{Reads, got, got-none}
use Rattle.number.specs.Get.{get_pkg_length}
use Rattle.grammar.specs.Forest.{nil}
use Rattle.tree.specs.Read.{Body, unbox}

-- the body is read from `start` to `end`; one in a box has to fill it, and what follows begins behind it
pub record Opened (boxed : Bool) (b : List ℕ) (at end start : ℕ) : Type 0 where
  pub low : at ≤ start
  pub inner : start ≤ end
  pub high : end ≤ length b
  pub whole : boxed ≡ false → end ≡ length b
  pub is : (get : Reader Body) → unbox boxed get (drop at b) ≡ (get (drop start (take end b)) >>= λ v. need (not boxed || eqb (length v.1) 0) (some (v.0, cond boxed (drop end b) v.1)))

unfoldable pub opens_at : Bool → List ℕ → ℕ → rust.Option (ℕ × ℕ) → Type 0
opens_at boxed b at (Some (end, start)) = Opened boxed b at end start
opens_at boxed b at None = (get : Reader Body) → unbox boxed get (drop at b) ≡ none

pub record Opens (boxed : Bool) (b : List ℕ) (at : ℕ) (r : rust.Option (ℕ × ℕ)) : Type 0 where
  pub says : opens_at boxed b at r

module _ {boxed : Bool} {b : List ℕ} {at : ℕ} where
  pub opened : {r : rust.Option (ℕ × ℕ)} {end start : ℕ} → r ≡ Some (end, start) → Opens boxed b at r → Opened boxed b at end start
  unfolding opens_at
  opened e h = rw e at h.says

  pub opened-none : {r : rust.Option (ℕ × ℕ)} → r ≡ None → Opens boxed b at r → (get : Reader Body) → unbox boxed get (drop at b) ≡ none
  unfolding opens_at
  opened-none e h = rw e at h.says

  opens : {end start : ℕ} → Opened boxed b at end start → Opens boxed b at (Some (end, start))
  unfolding opens_at
  opens h = record { says = h }

  opens-none : ((get : Reader Body) → unbox boxed get (drop at b) ≡ none) → Opens boxed b at None
  unfolding opens_at
  opens-none h = record { says = h }

-- ── What the code answers
left_as_is : {A : Type 0} (m : Option (A × List ℕ)) → m ≡ (m >>= λ v. some (v.0, v.1))
unfolding ◌>>=◌
left_as_is none = refl
left_as_is (some v) = refl

part : (b : List ℕ) (at n : ℕ) → at ≤ length b → drop at (take (at + n) b) ≡ take n (drop at b)
part b at n h = rw (take-add at n b) (drop_at (take at b) (take n (drop at b)) at (length-take-le at b h))

module _ (b : List ℕ) (at : ℕ) where
  pub opens-bare : {boxed : Bool} → boxed ≡ false → at ≤ length b → Opens boxed b at (Some (length b, at))
  unfolding unbox need
  opens-bare e h = rw e (opens (record { low = omega arith; inner = h; high = omega arith; whole = λ _. refl; is = λ get. rw (take-length b) (left_as_is (get (drop at b))) }))

  module _ {boxed : Bool} (e : boxed ≡ true) {r : rust.Option (ℕ × ℕ)} (h : Reads (get_pkg_length true) b at r) where
    pub opens_unmeasured : r ≡ None → Opens boxed b at None
    unfolding unbox ◌>>=◌
    opens_unmeasured f = rw e (opens-none λ get. rw (got-none f h) refl)

    module _ {n next : ℕ} (f : r ≡ Some (n, next)) where
      pub opens-short : length b - next < n → Opens boxed b at None
      unfolding unbox ◌>>=◌
      opens-short s = rw e (opens-none λ get. rw ((got f h).is, cut_short n (drop next b) (rw length-drop s)) refl)

      pub opens-boxed : n ≤ length b - next → Opens boxed b at (Some (next + n, next))
      unfolding unbox ◌>>=◌
      opens-boxed s =
          let g = got f h in
          let k = g.high in
          rw e (opens (record {
            low = g.low;
            inner = omega arith;
            high = omega arith;
            whole = λ z. absurd (true≢false z);
            is = λ get. rw (g.is, cut_at n (drop next b) (rw length-drop s), drop-drop n next b, part b next n k) refl;
          }))

-- ── The answer is determined: by a reader that takes all there is
abbrev holding : List ℕ → Body
holding bs = record { fields = record { text = bs; a = 0; x = 0 }; kids = nil }

takes_all : Reader Body
takes_all bs = some (holding bs, [])

-- what it takes, and what it leaves
taken : {b c r s : List ℕ} → ◌≡◌ {A = Option (Body × List ℕ)} (some (holding b, r)) (some (holding c, s)) → (length b ≡ length c) × (length r ≡ length s)
taken {b} {c} {r} {s} e =
    let u : ◌≡◌ {A = Body × List ℕ} (holding b, r) (holding c, s) = some-injective _ _ e in
    (ap (λ (v : Body × List ℕ). length v.0.fields.text) u, ap (λ (v : Body × List ℕ). length v.1) u)

module _ {b : List ℕ} {at : ℕ} where
  start-same : {boxed : Bool} {end start end' start' : ℕ} → Opened boxed b at end start → Opened boxed b at end' start' → end ≡ end'
      → length (drop start (take end b)) ≡ length (drop start' (take end' b)) → (end ≡ end') × (start ≡ start')
  start-same {end = end} {start} {end'} {start'} h k n l =
      let p = length-drop start (take end b) in
      let q = length-drop start' (take end' b) in
      (n, omega (arith, h.inner, k.inner, h.high, length-take end b, length-take end' b))

  opened-same : (boxed : Bool) {end start end' start' : ℕ} → Opened boxed b at end start → Opened boxed b at end' start' → (end ≡ end') × (start ≡ start')
  unfolding takes_all ◌>>=◌ need
  opened-same true {end} {end' = end'} h k =
      let (l, r) = taken (sym (h.is takes_all) ∙ k.is takes_all) in
      start-same h k (omega (arith, h.high, k.high, length-drop end b, length-drop end' b)) l
  opened-same false h k = start-same h k (h.whole refl ∙ sym (k.whole refl)) (taken (sym (h.is takes_all) ∙ k.is takes_all)).0

  opened_some : (boxed : Bool) {end start : ℕ} → Opened boxed b at end start → ((get : Reader Body) → unbox boxed get (drop at b) ≡ none) → ⊥
  unfolding takes_all ◌>>=◌ need
  opened_some true h z = none-ne-some _ (sym (z takes_all) ∙ h.is takes_all)
  opened_some false h z = none-ne-some _ (sym (z takes_all) ∙ h.is takes_all)

  pub opens_determined : (boxed : Bool) (r s : rust.Option (ℕ × ℕ)) → Opens boxed b at r → Opens boxed b at s → r ≡ s
  unfolding opens_at
  opens_determined boxed (Some (e, t)) (Some (f, u)) h k = let (p, q) = opened-same boxed h.says k.says in rw (p, q) refl
  opens_determined boxed (Some (e, t)) None h k = absurd (opened_some boxed h.says k.says)
  opens_determined boxed None (Some (f, u)) h k = absurd (opened_some boxed k.says h.says)
  opens_determined boxed None None h k = refl

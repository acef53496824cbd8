-- Children one after the other: so many of them are read, and the rest is what is left to read.
-- Assumes nothing.
use Rattle.std.specs.Prelude.{◌≡◌, Bool, ◌&&◌, ◌||◌, ◌⊎◌, List, Some, None}
use Rattle.std.proofs.Math.Path.{refl, sym, ap}
use Rattle.std.proofs.Common.{◌∙◌, ⊎_elim, true≢false, ltb→lt, length-drop}
use Rattle.std.proofs.Math.Bool.{true, false, not}
use Rattle.std.proofs.Math.Option.{Option, none, some}
use Prim.Native.Nat.{ℕ, zero, suc, ◌+◌, ◌-◌, ◌*◌, ◌≤◌, ◌<◌}
use native.Mathlib.Omega.{arith}
use Rattle.std.proofs.Math.Numerals.{sub-one, add-one}
use Rattle.std.proofs.Math.Dec.{T, eqb, ltb}
use Rattle.std.proofs.Math.ListN.{length, drop, length-append}
use Rattle.std.proofs.Math.Decide.{ℕ_discrete}
use borrow.Author.Tests.{eq-eqb, ne_eqb, eqb-true, eqb-false, lt-ltb}
use Rattle.octets.specs.Bytes.{Reader, ◌>>=◌, need}
use Rattle.octets.specs.Tests.{and_left, and_right, true_test}
use Rattle.octets.specs.Reading.{past_end, next_byte}
use Rattle.grammar.specs.declared.Place.{Place}
use Rattle.grammar.specs.Forest.{Forest, nil, node, count, flatten}
use Rattle.grammar.specs.ForestLaws.{join, join-nil, flatten-join}
use Rattle.tree.specs.Read.{Tree, onto, times, list}
use Rattle.normal.specs.File.{term_texts}
use Rattle.normal.specs.SectionLaws.{texts-append}
use Rattle.walk.specs.declared.Walk.{Walk}
use Rattle.walk.specs.Spots.{Left, left-none, left-next}
use Rattle.walk.specs.Walk.{tree, forest, Walks, Spans, several}

-- whether another is read: some are left, and a list is not at its end
unfoldable pub goes_on : Bool → ℕ → ℕ → ℕ → Bool
goes_on listed left next end = ltb 0 left && not (listed && eqb next end)

-- what has to end at n ends there, or need not, or does not
module _ {x : Bool} {m n : ℕ} where
  pub ends : (x ≡ false) ⊎ ((x ≡ true) × (m ≡ n)) → (not x || eqb m n) ≡ true
  ends h = ⊎_elim (λ e. rw e refl) (λ e. rw (e.0, eq-eqb m n e.1) refl) h

  pub ends-not : (x ≡ true) × (m ≡ n → ⊥) → (not x || eqb m n) ≡ false
  ends-not h = rw (h.0, ne_eqb m n h.1) refl

-- what is read behind f
unfoldable pub after : Forest → Option (Forest × List ℕ) → Option (Forest × List ℕ)
after f none = none
after f (some v) = some (join f v.0, v.1)

after_none : (m : Option (Forest × List ℕ)) → after nil m ≡ m
unfolding after join
after_none none = refl
after_none (some v) = refl

join-onto : (f : Forest) (t : Tree) (s : Forest) → join f (onto t s) ≡ join (join f (onto t nil)) s
unfolding join
join-onto nil t s = refl
join-onto (node k v c u) t s = ap (node k v c) (join-onto u t s)

after_one : (f : Forest) (t : Tree) (m : Option (Forest × List ℕ)) → after f (m >>= λ v. some (onto t v.0, v.1)) ≡ after (join f (onto t nil)) m
unfolding after ◌>>=◌
after_one f t none = refl
after_one f t (some v) = rw (join-onto f t v.0) refl

count-join : (f g : Forest) → count (join f g) ≡ count f + count g
unfolding count join
count-join nil g = omega arith
count-join (node k v c s) g = omega (arith, count-join s g)

-- nothing is left exactly at the end
pub same_end : (b : List ℕ) (next : ℕ) → next ≤ length b → eqb (length (drop next b)) 0 ≡ eqb next (length b)
same_end b next l = by (ℕ_discrete next (length b))
  where
    by : Dec (next ≡ length b) → eqb (length (drop next b)) 0 ≡ eqb next (length b)
    by (yes e) = eq-eqb (length (drop next b)) 0 (omega (arith, length-drop next b)) ∙ sym (eq-eqb next (length b) e)
    by (no n) = ne_eqb (length (drop next b)) 0 (λ z. n (omega (arith, length-drop next b))) ∙ sym (ne_eqb next (length b) n)

pub turns : (listed : Bool) (left next end : ℕ) → goes_on listed left next end ≡ true → 0 < left
unfolding goes_on
turns listed left next end h = ltb→lt 0 left (and_left (ltb 0 left) _ (true_test (ltb 0 left && not (listed && eqb next end)) h))

module _ (listed : Bool) (g : Place → Reader Tree) (place : ℕ → Place) where
  -- one, and then the others
  several-one : (left j : ℕ) (b : List ℕ) (next : ℕ) → T (goes_on listed left next (length b)) → next ≤ length b
      → several listed g place left j (drop next b) ≡ (g (place j) (drop next b) >>= λ t. several listed g place (left - 1) (j + 1) t.1 >>= λ s. some (onto t.0 s.0, s.1))
  unfolding several goes_on times list
  several-one zero j b next h l = absurd h
  several-one (suc left) j b next h l = by listed h
    where
      by : (x : Bool) → T (ltb 0 (suc left) && not (x && eqb next (length b)))
          → several x g place (suc left) j (drop next b) ≡ (g (place j) (drop next b) >>= λ t. several x g place (suc left - 1) (j + 1) t.1 >>= λ s. some (onto t.0 s.0, s.1))
      by false h = rw (sub-one (suc left), add-one j) refl
      by true h =
          let ne : next < length b = inside (eqb next (length b)) refl h in
          rw (next_byte b next ne, sub-one (suc left), add-one j) refl
        where
          inside : (y : Bool) → eqb next (length b) ≡ y → T (ltb 0 (suc left) && not (true && y)) → next < length b
          inside true e h = absurd (and_right (ltb 0 (suc left)) _ h)
          inside false e h = let ne : next ≡ length b → ⊥ = eqb-false next (length b) e in go (length b - next) refl ne
            where
              go : (k : ℕ) → length b - next ≡ k → (next ≡ length b → ⊥) → next < length b
              go zero q ne = absurd (ne (omega arith))
              go (suc k) q ne = omega arith

  -- no more
  several_end : (left j : ℕ) (b : List ℕ) (next : ℕ) → goes_on listed left next (length b) ≡ false → next ≤ length b
      → several listed g place left j (drop next b) ≡ need (not listed || eqb next (length b)) (some (nil, drop next b))
  unfolding several goes_on times list need
  several_end zero j b next h l = by listed
    where
      by : (x : Bool) → several x g place zero j (drop next b) ≡ need (not x || eqb next (length b)) (some (nil, drop next b))
      by false = refl
      by true = rw (same_end b next l) refl
  several_end (suc left) j b next h l = by listed (eqb next (length b)) refl h
    where
      by : (x y : Bool) → eqb next (length b) ≡ y → ltb 0 (suc left) && not (x && y) ≡ false
          → several x g place (suc left) j (drop next b) ≡ need (not x || y) (some (nil, drop next b))
      by false y e h = absurd (true≢false (rw (lt-ltb 0 (suc left) (omega arith)) at h))
      by true false e h = absurd (true≢false (rw (lt-ltb 0 (suc left) (omega arith)) at h))
      by true true e h = let z : length b ≤ next = omega (arith, eqb-true next (length b) e) in rw (past_end b z) refl

  -- ── So many are read: those in `done`
  pub record Turning (n : ℕ) (b : List ℕ) (at i : ℕ) (first out : List ℕ) (left j next records texts : ℕ) : Type 0 where
    pub done : Forest
    pub is : several listed g place n 0 (drop at b) ≡ after done (several listed g place left j (drop next b))
    pub records₁ : records ≡ length (flatten done)
    pub texts₁ : texts ≡ length (term_texts (flatten done))
    pub kids : j ≡ count done
    pub sum : j + left ≡ n
    pub within : next ≤ length b
    pub few : records + at ≤ next
    pub short : texts + 2 * at ≤ 2 * next
    pub put : Left (flatten done) b i first out
    pub same : length out ≡ length first

  pub turning_start : (n : ℕ) {b : List ℕ} {at : ℕ} (i : ℕ) (first : List ℕ) → at ≤ length b → Turning n b at i first first n 0 at 0 0
  unfolding flatten term_texts count
  turning_start n {b} {at} i first h =
      record {
        done = nil;
        is = sym (after_none (several listed g place n 0 (drop at b)));
        records₁ = refl;
        texts₁ = refl;
        kids = refl;
        sum = omega arith;
        within = h;
        few = omega arith;
        short = omega arith;
        put = left-none b i first;
        same = refl;
      }

  module _ {n : ℕ} {b : List ℕ} {at i : ℕ} {first out : List ℕ} {left j next records texts : ℕ} (h : Turning n b at i first out left j next records texts) where
    -- the next one cannot be read
    pub turning_bad : goes_on listed left next (length b) ≡ true → {out' : List ℕ} → Walks tree (g (place j) (drop next b)) b next (i + records) out out' None
        → Walks forest (several listed g place n 0 (drop at b)) b at i first out' None
    unfolding after ◌>>=◌
    turning_bad t k =
        record { tells = h.is ∙ rw (several-one left j b next (true_test (goes_on listed left next (length b)) t) h.within, k.tells) refl; same = k.same ∙ h.same }

    -- or it is
    pub turning_next : goes_on listed left next (length b) ≡ true → {out' : List ℕ} {w : Walk} → Walks tree (g (place j) (drop next b)) b next (i + records) out out' (Some w) → Spans next w
        → Turning n b at i first out' (left - 1) (j + 1) w.next (records + w.records) (texts + w.texts)
    unfolding after ◌>>=◌ count flatten
    turning_next t {w = w} k q =
        let r = k.tells in
        let s = several-one left j b next (true_test (goes_on listed left next (length b)) t) h.within in
        let f : several listed g place left j (drop next b) ≡ (several listed g place (left - 1) (j + 1) (drop w.next b) >>= λ s. some (onto r.value s.0, s.1)) = s ∙ rw r.is refl in
        let d = h.done in
        let more_left : 0 < left = turns listed left next (length b) t in
        record {
          done = join d (onto r.value nil);
          is = h.is ∙ ap (after d) f ∙ after_one d r.value (several listed g place (left - 1) (j + 1) (drop w.next b));
          records₁ = rw (flatten-join d (onto r.value nil)) (omega (arith, h.records₁, r.records, length-append (flatten d) (flatten (onto r.value nil))));
          texts₁ = rw (flatten-join d (onto r.value nil), texts-append (flatten d) (flatten (onto r.value nil))) (omega (arith, h.texts₁, r.texts, length-append (term_texts (flatten d)) (term_texts (flatten (onto r.value nil)))));
          kids = rw (count-join d (onto r.value nil)) (omega (arith, h.kids));
          sum = omega (arith, h.sum, more_left);
          within = r.high;
          few = omega (arith, h.few, q.few);
          short = omega (arith, h.short, q.short);
          put = rw (flatten-join d (onto r.value nil)) (left-next h.put h.same (ap (λ k. i + k) h.records₁) r.left);
          same = k.same ∙ h.same;
        }

    -- and no more
    over : goes_on listed left next (length b) ≡ false → several listed g place n 0 (drop at b) ≡ after h.done (need (not listed || eqb next (length b)) (some (nil, drop next b)))
    over t = h.is ∙ ap (after h.done) (several_end left j b next t h.within)

    pub turning_end : goes_on listed left next (length b) ≡ false → (not listed || eqb next (length b)) ≡ true
        → Walks forest (several listed g place n 0 (drop at b)) b at i first out (Some (record { records = records; texts = texts; kids = j; next = next }))
    unfolding after need
    turning_end t z =
        record {
          tells = record {
            value = h.done;
            is = over t ∙ rw z (ap (λ f. some (f, drop next b)) (join-nil h.done));
            records = h.records₁;
            texts = h.texts₁;
            kids = h.kids;
            low = omega (arith, h.few);
            high = h.within;
            left = h.put;
          };
          same = h.same;
        }

    -- of a list before its end
    pub turning_short : goes_on listed left next (length b) ≡ false → (not listed || eqb next (length b)) ≡ false → Walks forest (several listed g place n 0 (drop at b)) b at i first out None
    unfolding after need
    turning_short t z = record { tells = over t ∙ rw z refl; same = h.same }

    pub turning_spans : Spans at (record { records = records; texts = texts; kids = j; next = next })
    turning_spans = record { few = h.few; short = h.short }

-- Laws of texts in order: the tests `below` and `same` are what std's comparison of slices answers; `below` is transitive; and
-- `compare`'s loop. Document 01, "The term file" (An arity entry).
-- Assumes nothing.
use Rattle.std.specs.Prelude.{◌≡◌, refl, Bool, false, ◌||◌, not, List, ◌∷◌, ℕ, ◌≤◌, ◌<◌, T, eqb, take, drop, min}
use Rattle.std.specs.Ordering.{is_some_and, MatchOrdering}
use Rattle.std.specs.Cmp.Lexicographic.{slice_cmp, slice_partial_cmp}
use Rattle.std.proofs.lemmas.Cmp.{nat_list_cmp_total, same_from_slice_cmp, same_from_slice_cmp_tested, ranked}
use Rattle.std.proofs.lemmas.Bool.Decides.{nat_tests}
use Rattle.std.proofs.Common.{sym, ◌∙◌, append-nil, arith, length-take-le, eqb→eq, ne_eqb, eq-eqb, Some, Ordering, Less, Equal, Greater, nat_cmp, is_lt, is_eq, is_gt}
use Rattle.std.proofs.Math.Bool.{and-false}
use Rattle.std.proofs.Math.Dec.{eqb-suc-suc, eqb-suc-zero, eqb-zero-suc}
use Rattle.std.proofs.Math.ListN.{length}
use Rattle.octets.specs.Bytes.{begins}
use Rattle.octets.specs.Tests.{and_left, and_right}
use Rattle.octets.specs.Laws.{begins-only}
use Rattle.octets.specs.Reading.{past_end, next_byte}
use Rattle.arity.specs.Arity.{below, same}

-- ── The answers are the tests
pub order_below : (s t : List ℕ) → is_lt (slice_cmp nat_cmp s t) ≡ below s t
unfolding below
order_below s t = same_from_slice_cmp nat_cmp is_lt below refl (λ _ _. refl) (λ _ _. refl) (λ b c bs cs o e. grind (arith, nat_tests)) s t _ refl

pub told_below : (s t : List ℕ) (r : Bool) → r ≡ is_some_and is_lt (slice_partial_cmp (λ x y. Some (nat_cmp x y)) s t) → r ≡ below s t
unfolding below
told_below = same_from_slice_cmp_tested nat_cmp is_lt below refl (λ _ _. refl) (λ _ _. refl) (λ b c bs cs o e. grind (arith, nat_tests))

pub order-above : (s t : List ℕ) → is_gt (slice_cmp nat_cmp s t) ≡ below t s
unfolding below
order-above s t = same_from_slice_cmp nat_cmp is_gt (λ x y. below y x) refl (λ _ _. refl) (λ _ _. refl) (λ b c bs cs o e. grind (arith, nat_tests)) s t _ refl

same-more : (b c : ℕ) (bs cs : List ℕ) (o : Ordering) → o ≡ nat_cmp b c
    → MatchOrdering o (same (b ∷ bs) (c ∷ cs) ≡ false) (same (b ∷ bs) (c ∷ cs) ≡ same bs cs) (same (b ∷ bs) (c ∷ cs) ≡ false)
unfolding same begins
same-more b c bs cs Less e = rw (ne_eqb c b (λ n. omega (arith, ranked b c Less e))) (and-false _)
same-more b c bs cs Equal e = rw (eqb-suc-suc (length bs) (length cs), eq-eqb c b (sym (ranked b c Equal e))) refl
same-more b c bs cs Greater e = rw (ne_eqb c b (λ n. omega (arith, ranked b c Greater e))) (and-false _)

pub order_same : (s t : List ℕ) → is_eq (slice_cmp nat_cmp s t) ≡ same s t
unfolding same begins
order_same s t =
    same_from_slice_cmp nat_cmp is_eq same refl (λ y ys. rw (eqb-zero-suc (length ys)) refl) (λ x xs. rw (eqb-suc-zero (length xs)) refl) same-more s t _ refl

-- ── An answer that is known
pub is-less : (o : Ordering) → T (is_lt o) → o ≡ Less
is-less Less h = refl
is-less Equal h = absurd h
is-less Greater h = absurd h

module _ (s t : List ℕ) where
  -- a text that stands before or behind another is not the same
  pub other : T (below s t || below t s) → T (not (same s t))
  other h = rw (← order_same s t) (apart (slice_cmp nat_cmp s t) (rw (← order_below s t, ← order-above s t) at h))
    where
      apart : (o : Ordering) → T (is_lt o || is_gt o) → T (not (is_eq o))
      apart Less t = tt
      apart Equal t = t
      apart Greater t = tt

  pub same-is : T (same s t) → s ≡ t
  unfolding same
  same-is h =
      let l : length s ≡ length t = eqb→eq (length s) (length t) (and_left (eqb (length s) (length t)) (begins s t) h) in
      let e = begins-only s t (and_right (eqb (length s) (length t)) (begins s t) h) in
      sym (e ∙ rw (past_end t {at = length s} (omega arith)) (append-nil s))

-- ── `below` is transitive
pub below_trans : (s t u : List ℕ) → T (below s t) → T (below t u) → T (below s u)
below_trans s t u h k =
    let less = λ (v w : List ℕ) (m : T (below v w)). is-less (slice_cmp nat_cmp v w) (rw (← order_below v w) at m) in
    rw (← order_below s u, nat_list_cmp_total.trans s t u (less s t h) (less t u k)) tt

-- ── `compare`, of a to the first n bytes of s: the bytes from i on decide the whole
pub record Compared (a s : List ℕ) (n i : ℕ) : Type 0 where
  pub left : slice_cmp nat_cmp (drop i a) (drop i (take n s)) ≡ slice_cmp nat_cmp a (take n s)
  pub there : n ≤ length s

pub compared_start : (a s : List ℕ) (n : ℕ) → n ≤ length s → Compared a s n 0
compared_start a s n h = record { left = refl; there = h }

module _ (a s : List ℕ) {n i : ℕ} (h : Compared a s n i) where
  size : length (take n s) ≡ n
  size = length-take-le n s h.there

  -- where one of both ends, their lengths decide
  pub compared_as : (o : Ordering) → i ≡ min (length a) n → MatchOrdering o (length a < n) (length a ≡ n) (n < length a) → o ≡ slice_cmp nat_cmp a (take n s)
  compared_as Less e k = rw (past_end a {at = i} (omega arith), next_byte (take n s) i (omega (arith, size))) at h.left
  compared_as Equal e k = rw (past_end a {at = i} (omega arith), past_end (take n s) {at = i} (omega (arith, size))) at h.left
  compared_as Greater e k = rw (next_byte a i (omega arith), past_end (take n s) {at = i} (omega (arith, size))) at h.left

  pub compared_end : i ≡ min (length a) n → nat_cmp (length a) n ≡ slice_cmp nat_cmp a (take n s)
  compared_end e = compared_as (nat_cmp (length a) n) e (by (nat_cmp (length a) n) refl)
    where
      by : (o : Ordering) → o ≡ nat_cmp (length a) n → MatchOrdering o (length a < n) (length a ≡ n) (n < length a)
      by Less k = ranked (length a) n Less k
      by Equal k = ranked (length a) n Equal k
      by Greater k = ranked (length a) n Greater k

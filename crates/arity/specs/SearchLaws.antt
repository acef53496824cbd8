-- Laws of looking a path up among entries that ascend: what is left or right of an entry cannot be it; and `seek`'s window,
-- which holds the entry that is sought wherever the list does.
-- Assumes nothing.
use Rattle.std.specs.Prelude.{◌≡◌, true, ◌||◌, ℕ, zero, suc, ◌+◌, ◌-◌, ◌/◌, ◌<◌, ◌≤◌, length}
use Rattle.std.proofs.Math.Path.{refl, sym, ap}
use Rattle.std.specs.Cmp.Lexicographic.{slice_cmp}
use Rattle.std.proofs.Common.{◌∙◌, arith, add-one, Ordering, Less, Equal, Greater, nat_cmp, is_lt, is_eq, is_gt}
use mathlib.Core.List.{List, [], ◌∷◌, ◌++◌, map}
use Rattle.std.proofs.Math.Dec.{T}
use Rattle.octets.specs.Tests.{and_left, and_right, and_both, or_left, or_right, cond_true, cond_false, true_test}
use Rattle.arity.specs.Arity.{entry_at, entries_of, entries_from, Arity, arity_in, arities_of, below, same, ascend, arities_fit, args_in, args_of}
use Rattle.arity.specs.OrderLaws.{order_below, order_same, order-above, other, same-is, below_trans}
use Rattle.arity.specs.ArityLaws.{text_in, ascending}
use Rattle.arity.specs.declared.Entry.{Entry}

-- ── Parts of an ascending list ascend, and its first is below each further one
ascend-two : (a b : Arity) (l : List Arity) → T (ascend (a ∷ b ∷ l)) → T (below a.text b.text) × T (ascend (b ∷ l))
unfolding ascend
ascend-two a b l h = (and_left (below a.text b.text) (ascend (b ∷ l)) h, and_right (below a.text b.text) (ascend (b ∷ l)) h)

ascend_tail : (a : Arity) (l : List Arity) → T (ascend (a ∷ l)) → T (ascend l)
unfolding ascend
ascend_tail a [] h = tt
ascend_tail a (b ∷ l) h = (ascend-two a b l h).1

ascend-left : (l m : List Arity) → T (ascend (l ++ m)) → T (ascend l)
unfolding ascend
ascend-left [] m h = tt
ascend-left (a ∷ []) m h = tt
ascend-left (a ∷ b ∷ l) m h =
    let (p, q) = ascend-two a b (l ++ m) h in
    and_both (below a.text b.text) (ascend (b ∷ l)) p (ascend-left (b ∷ l) m q)

ascend_right : (l m : List Arity) → T (ascend (l ++ m)) → T (ascend m)
ascend_right [] m h = h
ascend_right (a ∷ l) m h = ascend_right l m (ascend_tail a (l ++ m) h)

ascend-below : (a : Arity) (l : List Arity) (c : Arity) (r : List Arity) → T (ascend (a ∷ (l ++ (c ∷ r)))) → T (below a.text c.text)
ascend-below a [] c r h = (ascend-two a c r h).0
ascend-below a (b ∷ l) c r h =
    let (p, q) = ascend-two a b (l ++ (c ∷ r)) h in
    below_trans a.text b.text c.text p (ascend-below b l c r q)

-- ── Looking t up around an entry
module _ (t : List ℕ) where
  absent : (a : Arity) (l : List Arity) → T (below a.text t || below t a.text) → args_in (a ∷ l) t ≡ args_in l t
  unfolding args_in
  absent a l h = cond_false (same a.text t) a.args (args_in l t) (other a.text t h)

  present : (a : Arity) (l : List Arity) → T (same a.text t) → a.args ≡ args_in (a ∷ l) t
  unfolding args_in
  present a l h = sym (cond_true (same a.text t) a.args (args_in l t) h)

  -- where t is below the first, it is not there
  none_above : (a : Arity) (l : List Arity) → T (ascend (a ∷ l)) → T (below t a.text) → args_in (a ∷ l) t ≡ 0
  unfolding args_in
  none_above a [] h k = absent a [] (or_right (below a.text t) (below t a.text) k)
  none_above a (b ∷ l) h k =
      let (p, q) = ascend-two a b l h in
      absent a (b ∷ l) (or_right (below a.text t) (below t a.text) k) ∙ none_above b l q (below_trans t a.text b.text k p)

  -- what follows does not have it
  args-left : (l m : List Arity) → args_in m t ≡ 0 → args_in (l ++ m) t ≡ args_in l t
  unfolding args_in
  args-left [] m h = h
  args-left (a ∷ l) m h = rw (args-left l m h) refl

  -- what stands before an entry that is not above it does not have it
  args_right : (l : List Arity) (a : Arity) (r : List Arity) → T (ascend (l ++ (a ∷ r))) → ((s : List ℕ) → T (below s a.text) → T (below s t))
      → args_in (l ++ (a ∷ r)) t ≡ args_in (a ∷ r) t
  unfolding args_in
  args_right [] a r h k = refl
  args_right (c ∷ l) a r h k =
      absent c (l ++ (a ∷ r)) (or_left (below c.text t) (below t c.text) (k c.text (ascend-below c l a r h)))
      ∙ args_right l a r (ascend_tail c (l ++ (a ∷ r)) h) k

-- ── A window of the list, around its entry mid
abbrev pub window : List ℕ → List ℕ → ℕ → ℕ → List Arity
window b pool low high = map (arity_in pool) (entries_of b low (high - low))

split : (b pool : List ℕ) (m j k : ℕ) → map (arity_in pool) (entries_of b j (m + suc k))
    ≡ map (arity_in pool) (entries_of b j m) ++ (arity_in pool (entry_at b (j + m)) ∷ map (arity_in pool) (entries_of b (suc (j + m)) k))
unfolding entries_of
split b pool zero j k = let e : 0 + suc k ≡ suc k = omega arith in let f : j + 0 ≡ j = omega arith in rw (e, f) refl
split b pool (suc m) j k =
    let e : suc m + suc k ≡ suc (m + suc k) = omega arith in
    let f : j + suc m ≡ suc j + m = omega arith in
    rw (e, f) (ap (λ (l : List Arity). arity_in pool (entry_at b j) ∷ l) (split b pool m (suc j) k))

window-at : (b pool : List ℕ) (low mid high : ℕ) → low ≤ mid → mid < high
    → window b pool low high ≡ window b pool low mid ++ (arity_in pool (entry_at b mid) ∷ window b pool (mid + 1) high)
window-at b pool low mid high p q =
    let e : high - low ≡ (mid - low) + suc (high - suc mid) = omega arith in
    let f : low + (mid - low) ≡ mid = omega arith in
    rw (add-one mid, e) (rw f at (split b pool (mid - low) low (high - suc mid)))

-- what is in the window decides
pub record Seeking (b pool t : List ℕ) (low high : ℕ) : Type 0 where
  pub is : args_in (window b pool low high) t ≡ args_of b pool t
  pub up : T (ascend (window b pool low high))
  pub within : high ≤ length b / 8

pub seeking_start : (b pool t : List ℕ) → arities_fit b pool ≡ true → Seeking b pool t 0 (length b / 8)
unfolding args_of arities_of entries_from
seeking_start b pool t h = record { is = refl; up = ascending b pool h; within = omega arith }

pub seeking_end : {b pool t : List ℕ} {low high : ℕ} → Seeking b pool t low high → high ≤ low → 0 ≡ args_of b pool t
unfolding args_in entries_of
seeking_end {b} {pool} {t} {low} {high} h p = let e : high - low ≡ 0 = omega arith in rw e at h.is

module _ {b pool t : List ℕ} {low high mid : ℕ} (h : Seeking b pool t low high) (p : low ≤ mid) (q : mid < high) where
  abbrev here : Arity
  here = arity_in pool (entry_at b mid)

  abbrev before : List Arity
  before = window b pool low mid

  abbrev behind : List Arity
  behind = window b pool (mid + 1) high

  cut-is : args_in (before ++ (here ∷ behind)) t ≡ args_of b pool t
  cut-is = rw (window-at b pool low mid high p q) at h.is

  cut_up : T (ascend (before ++ (here ∷ behind)))
  cut_up = rw (window-at b pool low mid high p q) at h.up

  -- how the text of entry mid stands to t
  module _ {e : Entry} (f : e ≡ entry_at b mid) {s : List ℕ} (g : s ≡ text_in pool e) {o : Ordering} (k : o ≡ slice_cmp nat_cmp s t) where
    answer : slice_cmp nat_cmp here.text t ≡ o
    unfolding arity_in
    answer = sym (rw (g, f) at k)

    pub seeking_below : o ≡ Less → Seeking b pool t (mid + 1) high
    seeking_below z =
        let l : T (below here.text t) = true_test _ (sym (order_below here.text t) ∙ ap is_lt (answer ∙ z)) in
        record {
          is = sym (absent t here behind (or_left (below here.text t) (below t here.text) l)) ∙ sym (args_right t before here behind cut_up (λ s m. below_trans s here.text t m l)) ∙ cut-is;
          up = ascend_tail here behind (ascend_right before (here ∷ behind) cut_up);
          within = h.within;
        }

    pub seeking_above : o ≡ Greater → Seeking b pool t low mid
    seeking_above z =
        let l : T (below t here.text) = true_test _ (sym (order-above here.text t) ∙ ap is_gt (answer ∙ z)) in
        record {
          is = sym (args-left t before (here ∷ behind) (none_above t here behind (ascend_right before (here ∷ behind) cut_up) l)) ∙ cut-is;
          up = ascend-left before (here ∷ behind) cut_up;
          within = omega (arith, h.within);
        }

    pub seeking_same : o ≡ Equal → e.args ≡ args_of b pool t
    unfolding arity_in
    seeking_same z =
        let l : T (same here.text t) = true_test _ (sym (order_same here.text t) ∙ ap is_eq (answer ∙ z)) in
        let m = same-is here.text t l in
        ap (λ (x : Entry). x.args) f ∙ present t here behind l ∙ sym (args_right t before here behind cut_up (λ s n. rw m at n)) ∙ cut-is

-- Paths as bytes in a slice, for the code that reads them: the root mark, the number of segments, the segments one after the other.
-- Assumes nothing.
use Rattle.std.specs.Prelude.{◌≡◌, ℕ, suc, ◌+◌, ◌-◌, ◌*◌, ◌≤◌, ◌<◌, Bool, true, false, ◌&&◌, T, Some, None, leb, List, ◌∷◌, ◌++◌, length, take, drop, get_or, refl}
use Rattle.std.proofs.Common.{sym, ◌∙◌, ap, arith, ne_eqb, le-leb, leb-true, leb-false, length-append, length-take, length-drop, drop-drop, drop_at}
use Rattle.std.proofs.Math.Option.{Option, none, some, Option-elim}
use mathlib.Core.List.{flatten}
use borrow.Author.Tests.{lt-leb}
use Rattle.octets.specs.Bytes.{◌>>=◌, need, cut}
use Rattle.octets.specs.Tests.{true_test}
use Rattle.octets.specs.Laws.{cut_at, cut_short}
use Rattle.octets.specs.Reading.{Got, Reads, reads, reads_none, next_byte, past_end}
use Rattle.path.specs.Path.{segment, root_of, unroot}
use Rattle.path.specs.Get.{segments, joined, text_of, get_count, get_parts, get_path, get_path_text, get_path_length}
use Rattle.path.specs.PathLaws.{segment-length, segment_not, counted, count_marks, count-only, names_only, flat_length, joined_length, root_size}
use Rattle.path.specs.PathText.{segment_at, root-drop}

-- ── The number of segments
module _ (b : List ℕ) (at : ℕ) where
  pub count_past : length b ≤ at → Reads get_count b at None
  unfolding get_count
  count_past h = reads_none (rw (past_end b h))

  module _ (h : at < length b) where
    pub count-two : get_or b at 0 ≡ 0x2E → Reads get_count b at (Some (2, at + 1))
    count-two e = reads (record { is = rw (next_byte b at h, count_marks, e); low = omega arith; high = omega arith })

    module _ (n₁ : get_or b at 0 ≡ 0x2E → ⊥) where
      pub count-one : (get_or b at 0 ≡ 0x2F → ⊥) → Reads get_count b at (Some (1, at))
      count-one n₂ = reads (record { is = rw (next_byte b at h, count_marks, ne_eqb _ _ n₁, ne_eqb _ _ n₂); low = omega arith; high = omega arith })

      module _ (e : get_or b at 0 ≡ 0x2F) where
        behind : get_count (drop at b) ≡ counted (drop (at + 1) b)
        behind = rw (next_byte b at h, count_marks, e)

        pub count_cut : length b ≤ at + 1 → Reads get_count b at None
        unfolding counted
        count_cut k = reads_none (behind ∙ rw (past_end b {at = at + 1} (omega arith)))

        module _ (k : at + 1 < length b) {n : ℕ} (is : n ≡ get_or b (at + 1) 0) where
          number : get_count (drop at b) ≡ need (leb 3 n && leb n 255) (some (n, drop (at + 2) b))
          unfolding counted
          number = let f : at + 1 + 1 ≡ at + 2 = omega arith in behind ∙ rw (next_byte b (at + 1) (omega arith), f, ← is)

          pub count_low : n < 3 → Reads get_count b at None
          unfolding need
          count_low q = reads_none (number ∙ rw (lt-leb 3 n q))

          pub count_many : 3 ≤ n → n < 256 → Reads get_count b at (Some (n, at + 2))
          unfolding need
          count_many q s = reads (record { is = number ∙ rw (le-leb 3 n q, le-leb n 255 (omega arith)); low = omega arith; high = omega arith })

-- what is counted is 1 to 255
pub count-least : {b : List ℕ} {at n q : ℕ} → Got get_count b at n q → 1 ≤ n
count-least {b} {at} {n} {q} g = (count-only (drop at b) n (drop q b) g.is).0

pub count_most : {b : List ℕ} {at n q : ℕ} → Got get_count b at n q → n ≤ 255
count_most {b} {at} {n} {q} g = (count-only (drop at b) n (drop q b) g.is).1

-- ── The segments: whether n of them stand first
unfoldable pub runs : ℕ → List ℕ → Bool
runs n bs = Option-elim (get_parts n bs) false (λ v. true)

-- a reader of four bytes that have to be a segment
segment-first : {A : Type 0} (bs : List ℕ) (f : List ℕ × List ℕ → Option A) → (cut 4 bs >>= λ v. need (segment v.0) (f v)) ≡ need (segment (take 4 bs)) (f (take 4 bs, drop 4 bs))
unfolding need ◌>>=◌
segment-first bs f = go (leb 4 (length bs)) refl
  where
    go : (x : Bool) → leb 4 (length bs) ≡ x → (cut 4 bs >>= λ v. need (segment v.0) (f v)) ≡ need (segment (take 4 bs)) (f (take 4 bs, drop 4 bs))
    go true e = rw (cut_at 4 bs (leb-true 4 (length bs) e))
    go false e = let l = leb-false 4 (length bs) e in rw (cut_short 4 bs l, segment_not (take 4 bs) (λ q. omega (arith, q, length-take 4 bs)))

pub segment-read : {A : Type 0} (b : List ℕ) (at : ℕ) (f : List ℕ × List ℕ → Option A)
    → (cut 4 (drop at b) >>= λ v. need (segment v.0) (f v)) ≡ need (segment_at b at) (f (take 4 (drop at b), drop (at + 4) b))
unfolding segment_at
segment-read b at f = rw (← (drop-drop 4 at b)) (segment-first (drop at b) f)

pub segment-there : (b : List ℕ) (at : ℕ) → segment_at b at ≡ true → at + 4 ≤ length b
unfolding segment_at
segment-there b at e = omega (arith, segment-length (take 4 (drop at b)) (true_test _ e), length-take 4 (drop at b), length-drop at b)

runs-more : (n : ℕ) (bs : List ℕ) → segment (take 4 bs) && runs n (drop 4 bs) ≡ runs (suc n) bs
unfolding runs get_parts Option-elim need ◌>>=◌
runs-more n bs = on (segment (take 4 bs)) (get_parts n (drop 4 bs)) ∙ ap (λ m. Option-elim m false (λ v. true)) (sym (segment-first bs (λ v. get_parts n v.1 >>= λ w. some (v.0 ∷ w.0, w.1))))
  where
    on : (x : Bool) (m : Option (List (List ℕ) × List ℕ))
        → x && Option-elim m false (λ v. true) ≡ Option-elim {A = List (List ℕ) × List ℕ} (need x (m >>= λ v. some (take 4 bs ∷ v.0, v.1))) false (λ v. true)
    on true none = refl
    on true (some v) = refl
    on false m = refl

-- those from the i-th on decide
pub record Running (b : List ℕ) (from n i : ℕ) : Type 0 where
  pub left : runs (n - i) (drop (from + 4 * i) b) ≡ runs n (drop from b)
  pub within : from + 4 * i ≤ length b

module _ {b : List ℕ} {from n : ℕ} where
  pub running_start : from ≤ length b → Running b from n 0
  running_start h = let e : n - 0 ≡ n = omega arith in let f : from + 4 * 0 ≡ from = omega arith in record { left = rw (e, f) refl; within = omega arith }

  module _ {i : ℕ} (h : Running b from n i) where
    pub running_end : n ≤ i → true ≡ runs n (drop from b)
    unfolding runs get_parts Option-elim
    running_end z = let e : n - i ≡ 0 = omega arith in rw e at h.left

    module _ (z : i < n) where
      step : segment_at b (from + 4 * i) && runs (n - (i + 1)) (drop (from + 4 * (i + 1)) b) ≡ runs n (drop from b)
      unfolding segment_at
      step =
          let e : n - i ≡ suc (n - (i + 1)) = omega arith in
          let f : from + 4 * (i + 1) ≡ from + 4 * i + 4 = omega arith in
          rw (f, ← (drop-drop 4 (from + 4 * i) b)) (runs-more (n - (i + 1)) (drop (from + 4 * i) b) ∙ rw e at h.left)

      pub running_bad : segment_at b (from + 4 * i) ≡ false → false ≡ runs n (drop from b)
      running_bad e = rw e at step

      pub running_turn : segment_at b (from + 4 * i) ≡ true → Running b from n (i + 1)
      running_turn e = record { left = rw e at step; within = omega (arith, segment-there b (from + 4 * i) e) }

-- what they are
pub record Ran (n : ℕ) (bs : List ℕ) : Type 0 where
  pub parts : List (List ℕ)
  pub is : get_parts n bs ≡ some (parts, drop (4 * n) bs)
  pub count : length parts ≡ n
  pub good : T (segments parts)
  pub bytes : bs ≡ flatten parts ++ drop (4 * n) bs

pub ran : (n : ℕ) (bs : List ℕ) → runs n bs ≡ true → Ran n bs
unfolding runs Option-elim
ran n bs h = go (get_parts n bs) refl h
  where
    go : (m : Option (List (List ℕ) × List ℕ)) → get_parts n bs ≡ m → Option-elim m false (λ v. true) ≡ true → Ran n bs
    go none e h = let z : ◌≡◌ {A = ℕ} 0 1 = cc in absurd (omega arith)
    go (some v) e h =
        let (k, s, q) = names_only n bs v.0 v.1 e in
        let d : drop (4 * n) bs ≡ v.1 = ap (drop (4 * n)) q ∙ drop_at (flatten v.0) v.1 (4 * n) (flat_length v.0 s ∙ rw k) in
        record { parts = v.0; is = rw d e; count = k; good = s; bytes = rw d q }

pub runs-there : (n : ℕ) (b : List ℕ) {q : ℕ} → q ≤ length b → runs n (drop q b) ≡ true → q + 4 * n ≤ length b
runs-there n b {q} l h =
    let r = ran n (drop q b) h in
    omega (arith, simp length-append at (ap length r.bytes), flat_length r.parts r.good, r.count, length-drop q b)

-- ── The whole: its text's length, and where it ends
module _ (b : List ℕ) (at : ℕ) {k : ℕ} (is : k ≡ root_size (drop at b)) where
  unrooted : (unroot (drop at b)).1 ≡ drop (at + k) b
  unrooted = rw (is, ← (drop-drop (root_size (drop at b)) at b)) (root-drop (drop at b))

  pub path_uncounted : get_count (drop (at + k) b) ≡ none → Reads get_path_length b at None
  unfolding get_path_length get_path_text get_path ◌>>=◌
  path_uncounted e = reads_none (rw (unrooted, e))

  module _ {n q : ℕ} (c : Got get_count b (at + k) n q) where
    pub path_broken : runs n (drop q b) ≡ false → Reads get_path_length b at None
    unfolding get_path_length get_path_text get_path ◌>>=◌ runs Option-elim
    path_broken h = reads_none (go (get_parts n (drop q b)) refl h)
      where
        go : (m : Option (List (List ℕ) × List ℕ)) → get_parts n (drop q b) ≡ m → Option-elim m false (λ v. true) ≡ false → get_path_length (drop at b) ≡ none
        go none e h = rw (unrooted, c.is, e)
        go (some v) e h = let z : ◌≡◌ {A = ℕ} 0 1 = cc in absurd (omega arith)

    pub path-whole : runs n (drop q b) ≡ true → Reads get_path_length b at (Some (k + (5 * n - 1), q + 4 * n))
    unfolding get_path_length get_path_text get_path ◌>>=◌ text_of root_size
    path-whole h =
        let r = ran n (drop q b) h in
        let l : length (root_of (unroot (drop at b)).0 ++ joined r.parts) ≡ k + (5 * n - 1) = simp length-append (omega (arith, is, joined_length r.parts r.good, r.count)) in
        reads (record {
          is = rw (unrooted, c.is, r.is, drop-drop (4 * n) q b, l);
          low = omega (arith, c.low);
          high = runs-there n b c.high h;
        })

-- Paths as text in a slice, for the code that checks, measures and encodes them: segment after segment, each four characters, with a dot between.
-- Assumes nothing.
use Rattle.std.specs.Prelude.{◌≡◌, ℕ, ◌+◌, ◌-◌, ◌*◌, ◌≤◌, ◌<◌, Bool, true, false, cond, ◌&&◌, eqb, leb, List, [], ◌∷◌, length, take, drop, get_or, refl}
use Rattle.std.proofs.Common.{sym, ap, ◌∙◌, arith, eq-eqb, ne_eqb, le-leb, leb-true, leb-false, length-append, length-take, length-drop, length-take-le, take_all, drop-drop, get_or-drop}
use Rattle.std.proofs.Math.Option.{Option, none, some, Option-elim}
use Rattle.std.proofs.Math.Seq.{take-append_seam, drop-append_seam, split_at}
use Rattle.std.specs.Int.{from_bool}
use borrow.Author.Tests.{lt-leb}
use Rattle.octets.specs.Bytes.{◌>>=◌, need, every}
use Rattle.octets.specs.Reading.{next_byte, past_end}
use Rattle.path.specs.Path.{lead_name, name_char, segment, Path, root_of, unroot, parts_of, path_of, is_path}
use Rattle.path.specs.PathLaws.{segment_not, unroot-only, root-most, parts_last, parts_more, parts-length, root_size}

-- ── A segment: the four characters from `at` on, which a text that ends before has not
unfoldable pub segment_at : List ℕ → ℕ → Bool
segment_at b at = segment (take 4 (drop at b))

pub segment-whole : (t : List ℕ) → length t ≡ 4 → segment_at t 0 ≡ segment t
unfolding segment_at
segment-whole t h = rw (take_all 4 t (omega arith))

segment-front : (u : List ℕ) → 4 ≤ length u → lead_name (get_or u 0 0) && name_char (get_or u 1 0) && name_char (get_or u 2 0) && name_char (get_or u 3 0) ≡ segment (take 4 u)
unfolding segment every
segment-front [] h = absurd (omega arith)
segment-front (a ∷ []) h = absurd (omega arith)
segment-front (a ∷ b ∷ []) h = absurd (omega arith)
segment-front (a ∷ b ∷ c ∷ []) h = absurd (omega arith)
segment-front (a ∷ b ∷ c ∷ d ∷ u) h = go (lead_name a) (name_char b) (name_char c) (name_char d)
  where
    go : (x y z w : Bool) → (((x && y) && z) && w) ≡ ((x && (y && (z && (w && true)))) && true)
    go true true true true = refl
    go true true true false = refl
    go true true false w = refl
    go true false z w = refl
    go false y z w = refl

module _ (b : List ℕ) (at : ℕ) where
  pub segment-short : length b - at < 4 → false ≡ segment_at b at
  unfolding segment_at
  segment-short h = sym (segment_not (take 4 (drop at b)) (λ e. omega (arith, e, length-take 4 (drop at b), length-drop at b)))

  -- s is what stands there, as it is lent
  module _ {s : List ℕ} (is : s ≡ take (length b - at) (drop at b)) where
    pub segment-few : length s < 4 → false ≡ segment_at b at
    segment-few h = segment-short (omega (arith, ap length is, length-take (length b - at) (drop at b), length-drop at b))

    pub segment-is : 4 ≤ length s → lead_name (get_or s 0 0) && name_char (get_or s 1 0) && name_char (get_or s 2 0) && name_char (get_or s 3 0) ≡ segment_at b at
    unfolding segment_at
    segment-is h = let e : s ≡ drop at b = is ∙ take_all (length b - at) (drop at b) (rw length-drop (omega arith)) in segment-front s h ∙ rw e refl

-- ── The root mark
pub root-fits : (b : List ℕ) → root_size b ≤ length b
unfolding root_size
root-fits b = omega (arith, simp length-append at (ap length (unroot-only b)))

pub root-small : (b : List ℕ) → root_size b ≤ 1
unfolding root_size
root-small b = root-most (unroot b).0

pub root-take : (b : List ℕ) → root_of (unroot b).0 ≡ take (root_size b) b
unfolding root_size
root-take b = sym (ap (take (length (root_of (unroot b).0))) (unroot-only b) ∙ take-append_seam (root_of (unroot b).0) (unroot b).1)

pub root-drop : (b : List ℕ) → (unroot b).1 ≡ drop (root_size b) b
unfolding root_size
root-drop b = sym (ap (drop (length (root_of (unroot b).0))) (unroot-only b) ∙ drop-append_seam (root_of (unroot b).0) (unroot b).1)

pub root-room : (b : List ℕ) (at : ℕ) {k : ℕ} → k ≡ root_size (drop at b) → (k ≤ 1) × (k ≤ length b - at)
root-room b at e = rw e (root-small (drop at b), rw (← (length-drop at b)) (root-fits (drop at b)))

-- as the code finds it
pub root_none : (b : List ℕ) {at : ℕ} → length b ≤ at → 0 ≡ root_size (drop at b)
unfolding root_size root_of unroot
root_none b h = rw (past_end b h)

pub root-byte : (b : List ℕ) (at : ℕ) → at < length b → {c : ℕ} → c ≡ get_or b at 0 → from_bool (eqb c 0x5C) ≡ root_size (drop at b)
unfolding root_size root_of unroot
root-byte b at h {c} is = rw (next_byte b at h, ← is) (go (eqb c 0x5C) (drop (at + 1) b))
  where
    go : (x : Bool) (t : List ℕ) → from_bool x ≡ length (root_of (cond {A = Bool × List ℕ} x (true, t) (false, c ∷ t)).0)
    go true t = refl
    go false t = refl

-- ── Whether a text is segments joined by dots, decided by the first and what is behind it
unfoldable pub chain : List ℕ → Bool
chain u = Option-elim (parts_of u) false (λ ss. true)

chain-last : (u : List ℕ) → length u ≤ 4 → segment (take 4 u) ≡ chain u
unfolding chain Option-elim need
chain-last u h = rw (take_all 4 u h, parts_last u h) (go (segment u))
  where
    go : (x : Bool) → x ≡ Option-elim (need x (some (u ∷ []))) false (λ ss. true)
    go true = refl
    go false = refl

chain_more : (u : List ℕ) → 4 < length u → segment (take 4 u) && eqb (get_or u 4 0) 0x2E && chain (drop 5 u) ≡ chain u
unfolding chain Option-elim need ◌>>=◌
chain_more u h =
    let e : parts_of u ≡ need (segment (take 4 u) && eqb (get_or u 4 0) 0x2E) (parts_of (drop 5 u) >>= λ ss. some (take 4 u ∷ ss)) =
    ap parts_of (split_at u 4 0 h) ∙ parts_more (take 4 u) (drop 5 u) (get_or u 4 0) (length-take-le 4 u (omega arith)) in
    rw e (go (segment (take 4 u) && eqb (get_or u 4 0) 0x2E) (parts_of (drop 5 u)))
  where
    go : (x : Bool) (m : Option (List (List ℕ))) → x && Option-elim m false (λ ss. true) ≡ Option-elim (need x (m >>= λ ss. some (take 4 u ∷ ss))) false (λ ss. true)
    go true none = refl
    go true (some ss) = refl
    go false m = refl

-- n segments and the dots between them
few : (n : ℕ) → 1 ≤ n → leb (5 * n - 1) 1274 ≡ leb n 255
few n h = go (leb n 255) refl
  where
    go : (x : Bool) → leb n 255 ≡ x → leb (5 * n - 1) 1274 ≡ x
    go true e = le-leb (5 * n - 1) 1274 (omega (arith, leb-true n 255 e))
    go false e = lt-leb (5 * n - 1) 1274 (omega (arith, leb-false n 255 e))

is-path : (t : List ℕ) → chain (unroot t).1 && leb (length (unroot t).1) 1274 ≡ is_path t
unfolding is_path path_of chain Option-elim need ◌>>=◌
is-path t = go (parts_of (unroot t).1) refl
  where
    kept : (x : Bool) (p : Path) → x ≡ Option-elim (need x (some p)) false (λ p. true)
    kept true p = refl
    kept false p = refl

    go : (m : Option (List (List ℕ))) → parts_of (unroot t).1 ≡ m
        → Option-elim m false (λ ss. true) && leb (length (unroot t).1) 1274 ≡ Option-elim {A = Path} (m >>= λ ss. need (leb (length ss) 255) (some (record { root = (unroot t).0; parts = ss }))) false (λ p. true)
    go none e = refl
    go (some ss) e = let (l, k) = parts-length (unroot t).1 ss e in rw (k, few (length ss) l) (kept (leb (length ss) 255) _)

-- ── The loop: what is left of the text decides the whole
pub record Chaining (t : List ℕ) (at : ℕ) : Type 0 where
  pub left : chain (drop at t) ≡ is_path t
  pub within : at ≤ length t
  pub short : length t ≤ 1275

module _ (t : List ℕ) {k : ℕ} (is : k ≡ root_size t) where
  chain-whole : chain (drop k t) && leb (length t - k) 1274 ≡ is_path t
  chain-whole = rw (is, ← (length-drop (root_size t) t), ← (root-drop t)) (is-path t)

  pub chaining_long : 1274 < length t - k → false ≡ is_path t
  chaining_long h = go (chain (drop k t)) ∙ chain-whole
    where
      go : (x : Bool) → false ≡ x && leb (length t - k) 1274
      go true = sym (lt-leb (length t - k) 1274 h)
      go false = refl

  pub chaining_start : length t - k ≤ 1274 → Chaining t k
  chaining_start h = record { left = go (chain (drop k t)) (rw (le-leb (length t - k) 1274 h) at chain-whole); within = rw is (root-fits t); short = omega (arith, root-small t) }
    where
      go : (x : Bool) → x && true ≡ is_path t → x ≡ is_path t
      go true e = e
      go false e = e

module _ {t : List ℕ} {at : ℕ} (h : Chaining t at) where
  pub chaining_end : length t ≤ at + 4 → segment_at t at ≡ is_path t
  unfolding segment_at
  chaining_end z = chain-last (drop at t) (rw length-drop (omega arith)) ∙ h.left

  module _ (z : at + 4 < length t) where
    step : segment_at t at && eqb (get_or t (at + 4) 0) 0x2E && chain (drop (at + 5) t) ≡ is_path t
    unfolding segment_at
    step = rw (← (get_or-drop at t 4 0), ← (drop-drop 5 at t)) (chain_more (drop at t) (rw length-drop (omega arith)) ∙ h.left)

    pub chaining_dotless : (get_or t (at + 4) 0 ≡ 0x2E → ⊥) → false ≡ is_path t
    chaining_dotless e = go (segment_at t at) (rw (ne_eqb _ _ e) at step)
      where
        go : (x : Bool) → x && false && chain (drop (at + 5) t) ≡ is_path t → false ≡ is_path t
        go true e = e
        go false e = e

    pub chaining_bad : segment_at t at ≡ false → false ≡ is_path t
    chaining_bad e = rw e at step

    pub chaining_turn : get_or t (at + 4) 0 ≡ 0x2E → segment_at t at ≡ true → Chaining t (at + 5)
    chaining_turn d e = record { left = rw (e, eq-eqb _ _ d) at step; within = omega arith; short = h.short }

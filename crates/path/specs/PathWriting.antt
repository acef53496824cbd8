-- Paths written, as bytes from a text and as text from bytes: the root mark is copied, and so are the segments, which a dot parts in the text alone.
-- Assumes nothing.
use Rattle.std.specs.Prelude.{◌≡◌, true, ℕ, zero, suc, ◌+◌, ◌-◌, ◌*◌, ◌/◌, ◌≤◌, ◌<◌, T}
use Rattle.std.proofs.Math.Path.{refl}
use Rattle.std.proofs.Common.{sym, ◌∙◌, ap, mul-suc, sub-one, length-drop, drop-drop}
use Rattle.std.proofs.Math.Option.{Option, none, some, Option-elim, none-ne-some}
use mathlib.Core.List.{List, [], ◌∷◌, ◌++◌, flatten}
use native.Mathlib.Omega.{arith}
use Rattle.std.proofs.Math.ListN.{length, take, drop, length-append}
use Rattle.std.proofs.Math.Seq.{drop-append_seam}
use Rattle.octets.specs.Bytes.{◌>>=◌, le}
use Rattle.octets.specs.Tests.{and_left, and_right, took, gave}
use Rattle.octets.specs.Filling.{parts₂, parts₃, Writing, writing_start, Wrote, Filling, lent, returned, filling_start, filling_lent, filling_end}
use Rattle.octets.specs.Reading.{Got}
use Rattle.path.specs.Path.{Path, segment, root_of, is_path, count_bytes, bytes_of, path_bytes}
use Rattle.path.specs.Get.{segments, joined, text_of, get_path, get_path_text, get_path_length, path_text}
use Rattle.path.specs.PathLaws.{segment-length, fours, flat_length, joined_length, root_size, part_count, Measured, path-parts, path-text-length, PathRead, path-read}
use Rattle.path.specs.PathText.{root-take, root-drop, root-room}

-- ── Segments behind the first: each behind `skip` bytes of u, and written behind as many dots as `dots`
unfoldable pub spaced : ℕ → ℕ → ℕ → List ℕ → List ℕ
spaced skip dots zero u = []
spaced skip dots (suc n) u = le dots 0x2E ++ (take 4 (drop skip u) ++ spaced skip dots n (drop (skip + 4) u))

-- four bytes, as they are lent
abbrev pub four : List ℕ → ℕ → List ℕ
four b p = take (p + 4 - p) (drop p b)

pub four_is : (b : List ℕ) (p : ℕ) → four b p ≡ take 4 (drop p b)
four_is b p = let e : p + 4 - p ≡ 4 = omega arith in rw e

spaced-more : (b : List ℕ) (skip dots p n : ℕ) → 0 < n → spaced skip dots n (drop p b) ≡ le dots 0x2E ++ (four b (p + skip) ++ spaced skip dots (n - 1) (drop (p + skip + 4) b))
unfolding spaced
spaced-more b skip dots p zero z = absurd (omega arith)
spaced-more b skip dots p (suc n) z =
    let e : p + (skip + 4) ≡ p + skip + 4 = omega arith in
    rw (four_is b (p + skip), sub-one (suc n), drop-drop skip p b, drop-drop (skip + 4) p b, e)

-- the loop: those from the i-th on are to come, from p on
pub record Spacing (b : List ℕ) (skip dots n : ℕ) (whole : List ℕ) (p i at : ℕ) (first out : List ℕ) : Type 0 where
  pub fill : Filling whole (spaced skip dots (n - i) (drop p b)) at first out
  pub there : p + (skip + 4) * (n - i) ≤ length b

pub spacing_start : {b : List ℕ} {skip dots from n : ℕ} (first : List ℕ) → from + (skip + 4) * n ≤ length b → length (spaced skip dots n (drop from b)) ≤ length first
    → Spacing b skip dots n (spaced skip dots n (drop from b)) from 0 0 first first
spacing_start {n = n} first l h = let e : n - 0 ≡ n = omega arith in record { fill = filling_start first (rw e refl) h; there = rw e l }

module _ {b : List ℕ} {skip dots n : ℕ} {whole : List ℕ} {p i at : ℕ} {first out : List ℕ} (h : Spacing b skip dots n whole p i at first out) where
  pub spacing_end : n ≤ i → Wrote whole first out at
  unfolding spaced
  spacing_end z = let e : n - i ≡ 0 = omega arith in filling_end h.fill (rw e (omega arith))

  module _ (z : i < n) where
    next : n - i - 1 ≡ n - (i + 1)
    next = omega arith

    pub spacing_there : p + skip + 4 + (skip + 4) * (n - (i + 1)) ≤ length b
    spacing_there = let e : n - i ≡ suc (n - (i + 1)) = omega arith in omega (arith, rw (e, mul-suc (skip + 4) (n - (i + 1))) at h.there)

    pub spacing_more : Filling whole (le dots 0x2E ++ (four b (p + skip) ++ spaced skip dots (n - (i + 1)) (drop (p + skip + 4) b))) at first out
    spacing_more = rw (spaced-more b skip dots p (n - i) (omega arith), next) at h.fill

    module _ {r : ℕ} {ys : List ℕ} (w : Wrote (le dots 0x2E) (lent at out) ys r) where
      pub spacing_dotted : Filling whole (four b (p + skip) ++ spaced skip dots (n - (i + 1)) (drop (p + skip + 4) b)) (at + r) first (returned at out ys)
      spacing_dotted = filling_lent (le dots 0x2E) _ spacing_more w

      pub spacing_turn : {m : ℕ} {zs : List ℕ} → Wrote (four b (p + skip)) (lent (at + r) (returned at out ys)) zs m
          → Spacing b skip dots n whole (p + skip + 4) (i + 1) (at + r + m) first (returned (at + r) (returned at out ys) zs)
      spacing_turn v = record { fill = filling_lent (four b (p + skip)) _ spacing_dotted v; there = spacing_there }

-- ── n segments: the first, and the others behind it
unfoldable pub strung : ℕ → ℕ → ℕ → List ℕ → List ℕ
strung skip dots n u = take 4 u ++ spaced skip dots (n - 1) (drop 4 u)

pub strung-is : (b : List ℕ) (skip dots p n : ℕ) → strung skip dots n (drop p b) ≡ four b p ++ spaced skip dots (n - 1) (drop (p + 4) b)
unfolding strung
strung-is b skip dots p n = rw (four_is b p, drop-drop 4 p b)

pub strung-one : (skip dots a b c d : ℕ) (u : List ℕ) → strung skip dots 1 (a ∷ b ∷ c ∷ d ∷ u) ≡ a ∷ b ∷ c ∷ d ∷ []
unfolding strung spaced
strung-one skip dots a b c d u = refl

pub strung-more : (skip dots n a b c d : ℕ) (u : List ℕ) → strung skip dots (suc (suc n)) (a ∷ b ∷ c ∷ d ∷ u) ≡ a ∷ b ∷ c ∷ d ∷ le dots 0x2E ++ strung skip dots (suc n) (drop skip u)
unfolding strung spaced
strung-more skip dots n a b c d u = rw (sub-one (suc (suc n)), sub-one (suc n), drop-drop 4 skip u)

-- a text's segments without the dots, and a dot between those of bytes
spelled-parts : (ss : List (List ℕ)) → T (segments ss) → 1 ≤ length ss → flatten ss ≡ strung 1 0 (length ss) (joined ss)
unfolding joined flatten segments le
spelled-parts [] h l = absurd (omega arith)
spelled-parts (s ∷ []) h l = fours s (segment-length s (and_left (segment s) true h)) λ a b c d q. rw q (sym (strung-one 1 0 a b c d []))
spelled-parts (s ∷ r ∷ ss) h l =
    fours s (segment-length s (and_left (segment s) (segments (r ∷ ss)) h)) λ a b c d q.
    rw (q, strung-more 1 0 (length ss) a b c d (0x2E ∷ joined (r ∷ ss))) (ap (λ x. a ∷ b ∷ c ∷ d ∷ x) (spelled-parts (r ∷ ss) (and_right (segment s) (segments (r ∷ ss)) h) (omega arith)))

written-parts : (e : List ℕ) (ss : List (List ℕ)) → T (segments ss) → 1 ≤ length ss → joined ss ≡ strung 0 1 (length ss) (flatten ss ++ e)
unfolding joined flatten segments le
written-parts e [] h l = absurd (omega arith)
written-parts e (s ∷ []) h l = fours s (segment-length s (and_left (segment s) true h)) λ a b c d q. rw q (sym (strung-one 0 1 a b c d e))
written-parts e (s ∷ r ∷ ss) h l =
    fours s (segment-length s (and_left (segment s) (segments (r ∷ ss)) h)) λ a b c d q.
    rw (q, strung-more 0 1 (length ss) a b c d (flatten (r ∷ ss) ++ e)) (ap (λ x. a ∷ b ∷ c ∷ d ∷ 0x2E ∷ x) (written-parts e (r ∷ ss) (and_right (segment s) (segments (r ∷ ss)) h) (omega arith)))

-- ── Bytes from a text
module _ (t : List ℕ) (h : T (is_path t)) {k : ℕ} (is : k ≡ root_size t) where
  pub path-size : Measured t k ((length t - k + 1) / 5)
  unfolding part_count
  path-size = rw is (path-text-length t h)

  pub path-spelled : path_bytes t ≡ take k t ++ (count_bytes ((length t - k + 1) / 5) ++ strung 1 0 ((length t - k + 1) / 5) (drop k t))
  unfolding root_size bytes_of
  path-spelled =
      path-parts t h λ p s d q m.
      let e₁ : take k t ≡ root_of p.root = rw is (sym (root-take t) ∙ rw d refl) in
      let e₂ : drop k t ≡ joined p.parts = rw is (sym (root-drop t) ∙ rw d refl) in
      let e₃ : k ≡ length (root_of p.root) = is ∙ rw d refl in
      let n : (length t - k + 1) / 5 ≡ length p.parts = omega (arith, m.text, m.least) in
      q ∙ rw (e₁, e₂, n, ← (spelled-parts p.parts s m.least))

  -- the same, as three writers in a row have it
  pub path_writing : (first : List ℕ) → length (path_bytes t) ≤ length first
      → Writing (path_bytes t) (take k t ∷ count_bytes ((length t - k + 1) / 5) ∷ strung 1 0 ((length t - k + 1) / 5) (drop k t) ∷ []) 0 first first
  path_writing first r = writing_start first (parts₃ path-spelled) r

-- ── Text from the bytes at `at`, of which k are the root mark: its length v and its end `next` say where its n segments stand
pub record TextAt (b : List ℕ) (at k v next n : ℕ) : Type 0 where
  pub text : path_text (drop at b) ≡ take (at + k - at) (drop at b) ++ strung 0 1 n (drop (next - 4 * n) b)
  pub size : v ≡ k + (5 * n - 1)
  pub least : 1 ≤ n
  pub most : n ≤ 255
  pub mark : at + k ≤ length b
  pub behind : 4 * n ≤ next
  pub there : next - 4 * n + 4 + 4 * (n - 1) ≤ length b

module _ (b : List ℕ) (at next : ℕ) {k : ℕ} (p : Path) (d : PathRead (drop at b) p (drop next b)) (is : k ≡ root_size (drop at b)) (low : at ≤ next) (high : next ≤ length b) where
  marked : k ≡ length (root_of p.root)
  unfolding root_size
  marked = is ∙ rw d.mark refl

  behind : drop (at + k) b ≡ count_bytes (length p.parts) ++ (flatten p.parts ++ drop next b)
  behind = sym (drop-drop k at b) ∙ rw is (sym (root-drop (drop at b))) ∙ d.bytes

  placed : next ≡ at + k + length (count_bytes (length p.parts)) + 4 * length p.parts
  placed = omega (arith, simp (length-append, length-drop) at (ap length behind), flat_length p.parts d.good, (root-room b at is).1)

  stands : drop (next - 4 * length p.parts) b ≡ flatten p.parts ++ drop next b
  stands =
      let e : next - 4 * length p.parts ≡ at + k + length (count_bytes (length p.parts)) = omega (arith, placed) in
      rw (e, ← (drop-drop (length (count_bytes (length p.parts))) (at + k) b), behind) (drop-append_seam (count_bytes (length p.parts)) _)

  text-stands : {v : ℕ} → v ≡ length (text_of p) → path_text (drop at b) ≡ text_of p → TextAt b at k v next ((v - k + 1) / 5)
  unfolding text_of
  text-stands {v} vs ts =
      let l : v ≡ k + (5 * length p.parts - 1) = vs ∙ rw marked (simp length-append (omega (arith, joined_length p.parts d.good))) in
      let n : (v - k + 1) / 5 ≡ length p.parts = omega (arith, d.least) in
      let e : at + k - at ≡ k = omega arith in
      let r : root_of p.root ≡ take k (drop at b) = rw (is, ← d.mark) (root-take (drop at b)) in
      rw n (record {
        text = ts ∙ rw (e, ← r, stands, ← (written-parts (drop next b) p.parts d.good d.least));
        size = l;
        least = d.least;
        most = d.most;
        mark = omega (arith, placed);
        behind = omega (arith, placed);
        there = omega (arith, placed, d.least);
      })

pub text_at_lem : {b : List ℕ} {at v next k : ℕ} → Got get_path_length b at v next → k ≡ root_size (drop at b) → TextAt b at k v next ((v - k + 1) / 5)
unfolding get_path_length get_path_text path_text Option-elim ◌>>=◌
text_at_lem {b} {at} {v} {next} {k} g is =
    took (get_path_text (drop at b)) _ g.is λ t r h₁ h₂.
    took (get_path (drop at b)) _ h₁ λ p z h₃ h₄.
    let (e, f) = gave h₂ in
    let (e₁, f₁) = gave h₄ in
    text-stands b at next p (rw (f₁ ∙ f) at (path-read (drop at b) p z h₃)) is g.low g.high (sym e ∙ ap length (sym e₁)) (rw h₃ refl)

-- the text as two writers in a row have it
pub text_writing : {b : List ℕ} {at k v next n : ℕ} → TextAt b at k v next n → (first : List ℕ) → length (path_text (drop at b)) ≤ length first
    → Writing (path_text (drop at b)) (take (at + k - at) (drop at b) ∷ strung 0 1 n (drop (next - 4 * n) b) ∷ []) 0 first first
text_writing h first r = writing_start first (parts₂ h.text) r

-- nothing is written where no path stands
pub no_text : (bs : List ℕ) {out : List ℕ} → get_path_length bs ≡ none → Wrote (path_text bs) out out 0
unfolding get_path_length path_text Option-elim ◌>>=◌
no_text bs {out} h = go (get_path_text bs) refl h
  where
    go : (m : Option (List ℕ × List ℕ)) → get_path_text bs ≡ m → ◌>>=◌ {B = ℕ × List ℕ} m (λ v. some (length v.0, v.1)) ≡ none → Wrote (path_text bs) out out 0
    go none e h = rw e (record { count = refl; is = refl })
    go (some v) e h = absurd (none-ne-some _ (sym h))

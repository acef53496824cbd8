-- A path's text byte by byte, without its being written: a beginning as it stands, then whole segments with a dot behind each.
-- For code that compares the text of path bytes.
-- Assumes nothing.
use Rattle.std.specs.Prelude.{◌≡◌, refl, cond, List, [], ◌∷◌, ◌++◌, ℕ, zero, suc, ◌+◌, ◌-◌, ◌*◌, ◌/◌, ◌%◌, ◌≤◌, ◌<◌, eqb, drop}
use Rattle.std.proofs.Math.Path.{sym, ap}
use Rattle.std.proofs.Common.{◌∙◌, length-append, take-append-drop, length-take-le, ne_eqb}
use native.Mathlib.Omega.{arith}
use Rattle.std.proofs.Math.ListN.{length, take, get_or, length-drop, get_or-append}
use Rattle.std.proofs.Math.Seq.{take_all, take-append_seam, take-append-add, get_or-append-add}
use Rattle.octets.specs.Bytes.{le}
use Rattle.octets.specs.Filling.{lent}
use Rattle.path.specs.Get.{path_text}
use Rattle.path.specs.PathLaws.{fours}
use Rattle.path.specs.PathWriting.{strung, strung-one, strung-more, TextAt}

-- ── Whole segments, and a dot behind each
unfoldable pub dotted : List ℕ → List ℕ
dotted (a ∷ b ∷ c ∷ d ∷ u) = a ∷ b ∷ c ∷ d ∷ 0x2E ∷ dotted u
dotted [] = []
dotted (a ∷ []) = []
dotted (a ∷ b ∷ []) = []
dotted (a ∷ b ∷ c ∷ []) = []

dotted-length : (u : List ℕ) → length (dotted u) ≡ 5 * (length u / 4)
unfolding dotted
dotted-length (a ∷ b ∷ c ∷ d ∷ u) = let e = dotted-length u in omega arith
dotted-length [] = omega arith
dotted-length (a ∷ []) = omega arith
dotted-length (a ∷ b ∷ []) = omega arith
dotted-length (a ∷ b ∷ c ∷ []) = omega arith

dotted_byte : (u : List ℕ) (j : ℕ) → j < length (dotted u) → get_or (dotted u) j 0 ≡ cond (eqb (j % 5) 4) 0x2E (get_or u (j - j / 5) 0)
unfolding dotted
dotted_byte (a ∷ b ∷ c ∷ d ∷ u) zero h = refl
dotted_byte (a ∷ b ∷ c ∷ d ∷ u) (suc zero) h = refl
dotted_byte (a ∷ b ∷ c ∷ d ∷ u) (suc (suc zero)) h = refl
dotted_byte (a ∷ b ∷ c ∷ d ∷ u) (suc (suc (suc zero))) h = refl
dotted_byte (a ∷ b ∷ c ∷ d ∷ u) (suc (suc (suc (suc zero)))) h = refl
dotted_byte (a ∷ b ∷ c ∷ d ∷ u) (suc (suc (suc (suc (suc j))))) h =
    let e : suc (suc (suc (suc (suc j)))) % 5 ≡ j % 5 = omega arith in
    let f : suc (suc (suc (suc (suc j)))) - suc (suc (suc (suc (suc j)))) / 5 ≡ suc (suc (suc (suc (j - j / 5)))) = omega arith in
    rw (e, f) (dotted_byte u j (omega arith))
dotted_byte [] j h = absurd (omega arith)
dotted_byte (a ∷ []) j h = absurd (omega arith)
dotted_byte (a ∷ b ∷ []) j h = absurd (omega arith)
dotted_byte (a ∷ b ∷ c ∷ []) j h = absurd (omega arith)

ahead : {C : Type 0} (u : List ℕ) → 4 ≤ length u → ((a b c d : ℕ) (v : List ℕ) → u ≡ a ∷ b ∷ c ∷ d ∷ v → C) → C
ahead u h k = fours (take 4 u) (length-take-le 4 u h) λ a b c d q. k a b c d (drop 4 u) (sym (take-append-drop 4 u) ∙ rw q refl)

-- segments that a path's text joins, as `put_path_text` writes them: no dot is behind the last
strung-dotted : (n : ℕ) (u : List ℕ) → 4 * suc n ≤ length u → strung 0 1 (suc n) u ≡ take (4 + 5 * n) (dotted u)
unfolding dotted le
strung-dotted zero u h = ahead u (omega arith) λ a b c d v q. rw (q, strung-one 0 1 a b c d v) refl
strung-dotted (suc n) u h =
    ahead u (omega arith) λ a b c d v q.
    let e : 4 + 5 * suc n ≡ suc (suc (suc (suc (suc (4 + 5 * n))))) = omega arith in
    rw (q, e, strung-more 0 1 n a b c d v) (ap (λ x. a ∷ b ∷ c ∷ d ∷ 0x2E ∷ x) (strung-dotted n v (omega (arith, ap length q))))

-- ── A beginning, and dotted segments behind it
unfoldable pub spelled : List ℕ → List ℕ → List ℕ
spelled head rest = head ++ dotted rest

spelled-length : (head rest : List ℕ) → length (spelled head rest) ≡ length head + 5 * (length rest / 4)
unfolding spelled
spelled-length head rest = length-append head (dotted rest) ∙ ap (λ (k : ℕ). length head + k) (dotted-length rest)

module _ (head rest : List ℕ) {i : ℕ} where
  pub spelled-head : i < length head → get_or head i 0 ≡ get_or (spelled head rest) i 0
  unfolding spelled
  spelled-head l = sym (get_or-append head (dotted rest) 0 i l)

  module _ (z : i < length (spelled head rest)) (l : length head ≤ i) where
    behind : cond (eqb ((i - length head) % 5) 4) 0x2E (get_or rest (i - length head - (i - length head) / 5) 0) ≡ get_or (spelled head rest) i 0
    unfolding spelled
    behind =
        let e : i ≡ length head + (i - length head) = omega arith in
        sym (ap (λ (j : ℕ). get_or (head ++ dotted rest) j 0) e ∙ get_or-append-add head (dotted rest) (i - length head) 0
        ∙ dotted_byte rest (i - length head) (omega (arith, spelled-length head rest, dotted-length rest)))

    pub spelled_dot : (i - length head) % 5 ≡ 4 → 0x2E ≡ get_or (spelled head rest) i 0
    spelled_dot e = rw e at behind

    module _ (e : (i - length head) % 5 ≡ 4 → ⊥) where
      pub spelled-within : i - length head - (i - length head) / 5 < length rest
      spelled-within = omega (arith, spelled-length head rest)

      pub spelled-char : get_or rest (i - length head - (i - length head) / 5) 0 ≡ get_or (spelled head rest) i 0
      spelled-char = rw (ne_eqb _ _ e) at behind

-- its first n bytes are the text t
pub record Spells (head rest : List ℕ) (n : ℕ) (t : List ℕ) : Type 0 where
  pub is : take n (spelled head rest) ≡ t
  pub there : n ≤ length (spelled head rest)

-- a text as it stands, whatever would be behind it
pub text-spelled : (t rest : List ℕ) → Spells t rest (length t) t
unfolding spelled
text-spelled t rest = record { is = take-append_seam t (dotted rest); there = omega (arith, spelled-length t rest) }

-- the text of path bytes, of which `path_at` answered that its length is v and its end `next`: its mark, and its segments
module _ {b : List ℕ} {at k v next n : ℕ} (h : TextAt b at k v next n) where
  abbrev mark : List ℕ
  mark = take (at + k - at) (drop at b)

  abbrev parts : List ℕ
  parts = drop (next - 4 * n) b

  mark-length : length mark ≡ k
  mark-length = length-take-le (at + k - at) (drop at b) (rw (length-drop at b) (omega (arith, h.mark))) ∙ omega arith

  parts-dotted : strung 0 1 n parts ≡ take (4 + 5 * (n - 1)) (dotted parts)
  parts-dotted =
      let e : suc (n - 1) ≡ n = omega (arith, h.least) in
      rw e at (strung-dotted (n - 1) parts (rw (length-drop (next - 4 * n) b) (omega (arith, h.there, h.least))))

  pub path-spelled : Spells mark (lent (next - 4 * n) b) v (path_text (drop at b))
  unfolding spelled
  path-spelled =
      let u : lent (next - 4 * n) b ≡ parts = take_all (length b - (next - 4 * n)) parts (rw (length-drop (next - 4 * n) b) (omega arith)) in
      let e : length mark + (4 + 5 * (n - 1)) ≡ v = omega (arith, mark-length, h.size, h.least) in
      rw u (record {
        is = ap (λ (j : ℕ). take j (mark ++ dotted parts)) (sym e) ∙ take-append-add mark (dotted parts) (4 + 5 * (n - 1)) ∙ rw (← parts-dotted) (sym h.text);
        there = omega (arith, spelled-length mark parts, mark-length, length-drop (next - 4 * n) b, h.size, h.there, h.least);
      })

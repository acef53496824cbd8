-- Bytes that stand in a buffer at a place: their parts stand there one behind the other, and numbers and texts are read back.
-- Assumes nothing.
use Rattle.std.specs.Prelude.{◌≡◌, refl, List, [], ◌∷◌, ◌++◌, ℕ, ◌+◌, ◌-◌, ◌^◌, ◌≤◌, ◌<◌, T, length, take, drop, get_or}
use Rattle.std.proofs.Common.{sym, ◌∙◌, ap, append_assoc, append-nil, arith, length-append, length-drop, drop-drop, take_at, get_or-drop}
use Rattle.std.proofs.Math.Seq.{drop-append_seam}
use Rattle.octets.specs.Bytes.{begins, le, le_at}
use Rattle.octets.specs.Laws.{begins-back, le-length, value-le}

-- bs stands in b at this place, and `rest` behind it
pub record Stands (b : List ℕ) (at : ℕ) (bs : List ℕ) : Type 0 where
  pub rest : List ℕ
  pub is : drop at b ≡ bs ++ rest
  pub within : at ≤ length b

pub stands-whole : (b : List ℕ) → Stands b 0 b
stands-whole b = record { rest = []; is = sym (append-nil b); within = omega arith }

module _ {b : List ℕ} {at : ℕ} where
  pub stands_in : {bs : List ℕ} → Stands b at bs → at + length bs ≤ length b
  stands_in {bs} h = omega (arith, h.within, ap length h.is, length-drop at b, length-append bs h.rest)

  pub stands-left : (xs ys : List ℕ) → Stands b at (xs ++ ys) → Stands b at xs
  stands-left xs ys h = record { rest = ys ++ h.rest; is = h.is ∙ append_assoc xs ys h.rest; within = h.within }

  pub stands_right : (xs ys : List ℕ) (next : ℕ) → at + length xs ≡ next → Stands b at (xs ++ ys) → Stands b next ys
  stands_right xs ys next e h =
      record {
        rest = h.rest;
        is = ap (λ n. drop n b) (sym e) ∙ sym (drop-drop (length xs) at b)
            ∙ rw (h.is, append_assoc xs ys h.rest) (drop-append_seam xs (ys ++ h.rest));
        within = omega (arith, stands_in (stands-left xs ys h));
      }

  -- what stands there is what is cut out there
  pub stands-part : (bs : List ℕ) (n : ℕ) → length bs ≡ n → Stands b at bs → take n (drop at b) ≡ bs
  stands-part bs n e h = rw h.is (take_at bs h.rest n e)

  pub stands_between : (bs : List ℕ) (to : ℕ) → at + length bs ≡ to → Stands b at bs → take (to - at) (drop at b) ≡ bs
  stands_between bs to e h = stands-part bs (to - at) (omega arith) h

  -- a number of n bytes; and one with what stands behind it
  pub stands-number : (n x : ℕ) → x < 256 ^ n → Stands b at (le n x) → le_at n b at ≡ x
  unfolding le_at
  stands-number n x s h = rw (stands-part (le n x) n (le-length n x) h) (value-le n x s)

  pub stands_field : (n x : ℕ) (bs : List ℕ) (next : ℕ) → x < 256 ^ n → at + n ≡ next → Stands b at (le n x ++ bs) → (le_at n b at ≡ x) × Stands b next bs
  stands_field n x bs next s e h =
      (stands-number n x s (stands-left (le n x) bs h), stands_right (le n x) bs next (rw (le-length n x) e) h)

  -- one byte
  pub stands_byte : (c : ℕ) (bs : List ℕ) → Stands b at (c ∷ bs) → get_or b at 0 ≡ c
  stands_byte c bs h = let e : at + 0 ≡ at = omega arith in ap (λ n. get_or b n 0) (sym e) ∙ sym (get_or-drop at b 0 0) ∙ rw h.is refl

  pub stands-begins : (bs : List ℕ) → Stands b at bs → T (begins bs (drop at b))
  stands-begins bs h = rw h.is (begins-back bs h.rest)

-- Bytes that are looked at from the front: what was seen and the bytes that are left decide the whole (`Looking`).
use mathlib.Core.Path.{◌≡◌, refl, ◌∙◌}
use mathlib.Core.Bool.{Bool, true, false, ◌&&◌}
use mathlib.Core.List.{List}
use Prim.Native.Nat.{ℕ, ◌+◌, ◌≤◌, ◌<◌}
use lib.ListN.{length, drop, get_or}
use Rattle.octets.specs.Bytes.{every}
use Rattle.octets.specs.Reading.{next_byte, past_end}
use Rattle.fields.specs.Fields.{ascii}

pub record Looking (t : List ℕ) (fine : Bool) (i : ℕ) : Type 0 where
  pub left : fine && every ascii (drop i t) ≡ every ascii t

module _ {t : List ℕ} {fine : Bool} {i : ℕ} (h : Looking t fine i) where
  pub looking_turn : i < length t → {r s : Bool} → r ≡ ascii (get_or t i 0) → s ≡ (fine && r) → Looking t s (i + 1)
  unfolding every
  looking_turn z {r} {s} e f = record { left = rw (f, e) (go fine (ascii (get_or t i 0)) (every ascii (drop (i + 1) t)) ∙ rw (next_byte t i z) at h.left) }
    where
      go : (x y z : Bool) → (x && y) && z ≡ x && (y && z)
      go true y z = refl
      go false y z = refl

  pub looking_end : length t ≤ i → fine ≡ every ascii t
  unfolding every
  looking_end z = go fine (rw (past_end t z) at h.left)
    where
      go : (x : Bool) → x && true ≡ every ascii t → x ≡ every ascii t
      go true e = e
      go false e = e

-- Tests and functions at each element of a list: what holds at one of them, and the loops that test or write them in order.
-- Assumes nothing.
use Rattle.std.specs.Prelude.{◌≡◌, refl, Bool, List, [], ◌∷◌, map, ℕ, zero, suc, ◌+◌, ◌≤◌, ◌<◌, T, length, drop, get_or, set}
use Rattle.std.proofs.Common.{arith, length-drop, drop-cons}
use Rattle.std.proofs.Math.Numerals.{add-one}
use Rattle.std.proofs.lemmas.List.{length-map}
use Rattle.std.specs.List.{list_all}
use Rattle.octets.specs.Bytes.{every}
use Rattle.octets.specs.Tests.{and_left, and_right, and_both}
use Rattle.octets.specs.Filling.{Wrote, Filling, filling_set, filling_end}

pub every-at : (f : ℕ → Bool) (ps : List ℕ) → T (every f ps) → (k : ℕ) → k < length ps → T (f (get_or ps k 0))
unfolding every
every-at f [] t k h = absurd (omega arith)
every-at f (p ∷ ps) t zero h = and_left (f p) (every f ps) t
every-at f (p ∷ ps) t (suc k) h = every-at f ps (and_right (f p) (every f ps) t) k (omega arith)

pub every_map : (f g : ℕ → Bool) (m : ℕ → ℕ) → ((i : ℕ) → T (f i) → T (g (m i))) → (ps : List ℕ) → T (every f ps) → T (every g (map m ps))
unfolding every
every_map f g m k [] t = tt
every_map f g m k (p ∷ ps) t = and_both (g (m p)) _ (k p (and_left (f p) (every f ps) t)) (every_map f g m k ps (and_right (f p) (every f ps) t))

-- the library's test of each element
pub list_all-every : (f : ℕ → Bool) (ps : List ℕ) → list_all f ps ≡ every f ps
unfolding every
list_all-every f [] = refl
list_all-every f (p ∷ ps) = rw (list_all-every f ps) refl

-- one more element of a list that is written by a function of each
pub map_turn : (m : ℕ → ℕ) (ps : List ℕ) {bs : List ℕ} {k v : ℕ} {first out : List ℕ} → k < length ps → v ≡ m (get_or ps k 0) → Filling bs (map m (drop k ps)) k first out → Filling bs (map m (drop (k + 1) ps)) (k + 1) first (set out k v)
map_turn m ps {k} z e h = rw e (rw (add-one k) (rw (add-one k) at (filling_set (rw (drop-cons ps k 0 z) at h))))

pub map_end : (m : ℕ → ℕ) (ps : List ℕ) {bs : List ℕ} {k : ℕ} {first out : List ℕ} → Filling bs (map m (drop k ps)) k first out → length ps ≤ k → Wrote bs first out k
map_end m ps {k} h z = filling_end h (rw (length-map (drop k ps) m, length-drop) (omega arith))

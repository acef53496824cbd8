-- A line in two: what stands before its first mark, and what behind it. Assumes nothing.
use Rattle.std.specs.Prelude.{◌≡◌, ◌+◌, Some, List, ℕ, nat_eq, length, take, drop, position}

abbrev pub Split : List ℕ → ℕ → List ℕ → List ℕ → Type 0
Split line mark before behind =
    (position (λ b. nat_eq b mark) line ≡ Some (length before)) × (before ≡ take (length before) line) × (behind ≡ drop (length before + 1) line)

-- Laws of the file's layout: a number of the header is small, and the sections lie one behind the other. Assumes nothing.
use Rattle.std.specs.Prelude.{◌≡◌, Bool, true, false, not, cond, List, ℕ, ◌+◌, ◌*◌, ◌≤◌, ◌<◌, T, length}
use Rattle.std.proofs.Common.{arith, eqb→eq}
use Rattle.octets.specs.Tests.{and_left, and_right}
use Rattle.octets.specs.Reading.{Digits, digits-small}
use Rattle.term.specs.File.{touching, laid_out, few, Layout, refused_by, layout_of, record_count, arity_count, pool_length, arity_offset, pool_offset}

-- a number of the header fits 32 bits
pub header-small : {f : List ℕ} {at x : ℕ} → 60 ≤ length f → at ≤ 56 → Digits f at 4 x → x < 4294967296
header-small l h d = digits-small d (omega arith)

-- ── The sections of a file that is laid out lie one behind the other in it
abbrev pub InOrder : List ℕ → Type 0
InOrder f = (60 ≤ arity_offset f) × (arity_offset f ≤ pool_offset f) × (pool_offset f ≤ length f)

pub laid-in_order : (f : List ℕ) → T (laid_out f) → InOrder f
unfolding laid_out touching
laid-in_order f t =
    let e : arity_offset f ≡ 60 + 24 * record_count f = eqb→eq (arity_offset f) (60 + 24 * record_count f) (search (and_left, and_right) depth 10) in
    let g : pool_offset f ≡ arity_offset f + 8 * arity_count f = eqb→eq (pool_offset f) (arity_offset f + 8 * arity_count f) (search (and_left, and_right) depth 10) in
    let h : length f ≡ pool_offset f + pool_length f = eqb→eq (length f) (pool_offset f + pool_length f) (search (and_left, and_right) depth 10) in
    (omega (arith, e), omega (arith, g), omega (arith, h))

abbrev pub Within : List ℕ → Layout → Type 0
Within f l = (60 ≤ l.arities) × (l.arities ≤ l.pool) × (l.pool ≤ length f)

pub layout-within : (f : List ℕ) {l : Layout} → l ≡ layout_of f → l.number ≡ 0 → Within f l
unfolding layout_of
layout-within f e z = rw e (by (laid_out f) (few f) (record { number = 0; arities = arity_offset f; pool = pool_offset f }) (laid-in_order f) (rw e at z))
  where
    by : (a b : Bool) (l : Layout) → (T a → Within f l) → (cond (not a) (refused_by 1) (cond (not b) (refused_by 2) l)).number ≡ 0
        → Within f (cond (not a) (refused_by 1) (cond (not b) (refused_by 2) l))
    by true true l h z = h tt
    by true false l h z = absurd (omega arith)
    by false b l h z = absurd (omega arith)

-- Laws of the table of kinds, for whoever looks a kind up: what the row at a kind's place says of it, and rules that all rows keep.
-- Assumes nothing.
use Rattle.std.specs.Prelude.{◌≡◌, Bool, ◌&&◌, T, eqb, get_or}
use Rattle.std.proofs.Math.Path.{refl, sym, ap}
use Rattle.std.proofs.Common.{◌∙◌, T_not, eqb→eq}
use Rattle.std.proofs.Math.Bool.{true, false, cond}
use Rattle.std.proofs.Math.Option.{none, some, none-ne-some, some-injective}
use mathlib.Core.List.{List, [], ◌∷◌}
use Prim.Native.Nat.{ℕ, zero, suc, ◌+◌, ◌≤◌, ◌<◌}
use native.Mathlib.Omega.{arith}
use Rattle.std.proofs.Math.Dec.{eqb_refl}
use Rattle.std.proofs.Math.ListN.{length}
use Rattle.octets.specs.Bytes.{every, is_byte, value}
use Rattle.octets.specs.Tests.{and_left, and_right, cond_case, cond_inv}
use Rattle.octets.specs.Laws.{le-value}
use Rattle.grammar.specs.declared.Row.{Row}
use Rattle.grammar.specs.Kinds.{opcode, normal_kinds, other_kinds, kinds, find, row_of, no_row}
use Rattle.grammar.specs.Packed.{position}

-- the test passes at every row
unfoldable pub every_row : (Row → Bool) → List Row → Bool
every_row f [] = true
every_row f (r ∷ rs) = f r && every_row f rs

-- a row's opcode is the bytes of which its two columns were made
pub opcode-made : (r : Row) (op : List ℕ) → r.ops ≡ length op → r.op ≡ value op → T (every is_byte op) → opcode r ≡ op
unfolding opcode
opcode-made r op e f t = rw (e, f) (le-value op t)

-- ── In any list of rows
module _ (k : ℕ) where
  pub found-kind : (rs : List Row) {r : Row} → find k rs ≡ some r → r.kind ≡ k
  unfolding find
  found-kind [] h = absurd (none-ne-some _ h)
  found-kind (s ∷ rs) h =
      cond_inv (eqb k s.kind) _ _ h
      (λ t e. ap (λ (q : Row). q.kind) (sym (some-injective _ _ e)) ∙ sym (eqb→eq k s.kind t))
      (λ t e. found-kind rs e)

  pub found-rule : (f : Row → Bool) (rs : List Row) → T (every_row f rs) → {r : Row} → find k rs ≡ some r → T (f r)
  unfolding find every_row
  found-rule f [] t h = absurd (none-ne-some _ h)
  found-rule f (s ∷ rs) t h =
      cond_inv (eqb k s.kind) _ _ h
      (λ _ e. rw (← (some-injective _ _ e)) (and_left (f s) (every_row f rs) t))
      (λ _ e. found-rule f rs (and_right (f s) (every_row f rs) t) e)

  -- a kind is not known and its place is behind the last row, or its row stands at its place
  pub placed : {C : Type 0} (rs : List Row) (d : Row) → (find k rs ≡ none → position k rs ≡ length rs → C)
      → (find k rs ≡ some (get_or rs (position k rs) d) → position k rs < length rs → C) → C
  unfolding find position
  placed [] d f g = f refl refl
  placed {C} (s ∷ rs) d f g = by (eqb k s.kind) (placed rs d) f g
    where
      by : (b : Bool) → ((find k rs ≡ none → position k rs ≡ length rs → C) → (find k rs ≡ some (get_or rs (position k rs) d) → position k rs < length rs → C) → C)
          → (cond b (some s) (find k rs) ≡ none → cond b 0 (1 + position k rs) ≡ suc (length rs) → C)
          → (cond b (some s) (find k rs) ≡ some (get_or (s ∷ rs) (cond b 0 (1 + position k rs)) d) → cond b 0 (1 + position k rs) < suc (length rs) → C) → C
      by true all f g = g refl (omega arith)
      by false all f g =
          let e : 1 + position k rs ≡ suc (position k rs) = omega arith in
          all (λ n p. f n (omega arith)) (λ n p. g (rw e n) (omega arith))

  -- a row of this kind stands at its place or behind it
  pub position_first : (rs : List Row) (j : ℕ) (d : Row) → j < length rs → (get_or rs j d).kind ≡ k → position k rs ≤ j
  unfolding position
  position_first [] j d h e = absurd (omega arith)
  position_first (s ∷ rs) zero d h e =
      cond_case (λ (p : ℕ). p ≤ 0) (eqb k s.kind) 0 (1 + position k rs) (λ t. omega arith) (λ t. absurd (T_not (eqb k s.kind) t (rw e (eqb_refl k))))
  position_first (s ∷ rs) (suc j) d h e =
      cond_case (λ (p : ℕ). p ≤ suc j) (eqb k s.kind) 0 (1 + position k rs) (λ t. omega arith) (λ t. omega (arith, position_first rs j d (omega arith) e))

-- ── In the table
pub kinds-count : length kinds ≡ 67
unfolding kinds normal_kinds other_kinds
kinds-count = refl

pub row-known : (k j : ℕ) {r : Row} → j ≡ position k kinds → j < 67 → r ≡ get_or kinds j no_row → row_of k ≡ some r
unfolding row_of
row-known k j p h e = placed k kinds no_row (λ _ q. absurd (omega (arith, kinds-count))) (λ f _. rw (e, p) f)

pub row_unknown : (k j : ℕ) → j ≡ position k kinds → 67 ≤ j → row_of k ≡ none
unfolding row_of
row_unknown k j p h = placed k kinds no_row (λ n _. n) (λ _ q. absurd (omega (arith, kinds-count)))

pub row-kind : (k : ℕ) {r : Row} → row_of k ≡ some r → r.kind ≡ k
unfolding row_of
row-kind k h = found-kind k kinds h

-- what a test that is computed finds at all rows holds of each row that is found
pub rule : (f : Row → Bool) → T (every_row f kinds) → (k : ℕ) {r : Row} → row_of k ≡ some r → T (f r)
unfolding row_of
rule f t k h = found-rule k f kinds t h

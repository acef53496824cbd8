-- Laws of how the code holds the rows: where the numbers compute to the table, a row and a kind's place are what is read from them.
-- Assumes nothing.
use Rattle.std.specs.Prelude.{◌≡◌, refl, Bool, true, false, List, [], ◌∷◌, ℕ, zero, suc, ◌+◌, ◌/◌, ◌%◌, ◌^◌, ◌≤◌, ◌<◌, eqb, leb, length, get_or}
use Rattle.std.proofs.Common.{sym, ap, ◌∙◌, arith, ne_eqb, leb-true, leb-false}
use Rattle.std.proofs.Math.ListN.{get_or-eq_default}
use Rattle.octets.specs.Bytes.{value}
use Rattle.grammar.specs.declared.Place.{Place}
use Rattle.grammar.specs.declared.Places.{Places}
use Rattle.grammar.specs.declared.Text.{Text}
use Rattle.grammar.specs.declared.Numbers.{Numbers}
use Rattle.grammar.specs.declared.Rest.{Rest}
use Rattle.grammar.specs.Kinds.{no_row, normal_kinds, other_kinds, kinds}
use Rattle.grammar.specs.Packed.{row_at, place_of, places_of, text_of, rest_of, numbers_of, entry, words, seconds, thirds, unpack}
use Rattle.grammar.specs.KindLaws.{kinds-count}

-- ── A table as a list: what f says of n numbers from i on
unfoldable pub listed : {A : Type 0} → (ℕ → A) → ℕ → ℕ → List A
listed f i zero = []
listed f i (suc n) = f i ∷ listed f (suc i) n

listed_from : {A : Type 0} (f : ℕ → A) (i n j : ℕ) (d : A) → j < n → get_or (listed f i n) j d ≡ f (i + j)
unfolding listed
listed_from f i zero j d h = absurd (omega arith)
listed_from f i (suc n) zero d h = let e : i + 0 ≡ i = omega arith in rw e refl
listed_from f i (suc n) (suc j) d h = let e : i + suc j ≡ suc i + j = omega arith in rw e (listed_from f (suc i) n j d (omega arith))

-- a list that computes to it has its entries
pub listed_at : {A : Type 0} (f : ℕ → A) (n : ℕ) {l : List A} (d : A) → listed f 0 n ≡ l → (j : ℕ) → j < n → get_or l j d ≡ f j
listed_at f n d e j h = let z : 0 + j ≡ j = omega arith in rw (← e, listed_from f 0 n j d h, z) refl

words_count : length words ≡ 67
unfolding words
words_count = refl

-- no number stands behind a list's end
pub entry-none : (ws : List ℕ) (i j : ℕ) → i + length ws ≤ j → entry ws i j ≡ 0
unfolding entry
entry-none [] i j h = refl
entry-none (w ∷ ws) i j h = rw (ne_eqb j i (λ e. omega arith)) (entry-none ws (suc i) j (omega arith))

-- ── The rows: the numbers compute to the table
row_in : (j : ℕ) → j < 67 → row_at j ≡ unpack (entry words 0 j)
unfolding listed kinds normal_kinds other_kinds value unpack place_of places_of text_of rest_of numbers_of entry words seconds thirds
row_in = listed_at (λ j. unpack (entry words 0 j)) 67 {l = kinds} no_row refl

row_out : (j : ℕ) → 67 ≤ j → row_at j ≡ unpack (entry words 0 j)
unfolding value unpack place_of places_of text_of rest_of numbers_of entry seconds thirds
row_out j h = get_or-eq_default kinds no_row (omega (arith, kinds-count)) ∙ sym (ap unpack (entry-none words 0 j (omega (arith, words_count))))

pub row-packed : (j : ℕ) → row_at j ≡ unpack (entry words 0 j)
row-packed j = by (leb 67 j) refl
  where
    by : (b : Bool) → leb 67 j ≡ b → row_at j ≡ unpack (entry words 0 j)
    by true e = row_out j (leb-true 67 j e)
    by false e = row_in j (leb-false 67 j e)

-- ── A row from its digits
pub row_made : (w : ℕ) {v x : ℕ} {text : Text} {numbers : Numbers} {operand place : Place} {rest : Rest} {places : Places}
    → v ≡ entry seconds 1 (w / 2 ^ 54) → x ≡ entry thirds 1 (w / 2 ^ 54)
    → text ≡ text_of (w / 2 ^ 36 % 8) → numbers ≡ numbers_of (v % 8) (v / 8 % 4) (v / 32 % 256) → operand ≡ place_of (w / 2 ^ 42 % 8)
    → rest ≡ rest_of (w / 2 ^ 39 % 8) → place ≡ place_of (w / 2 ^ 48 % 8) → places ≡ places_of (w / 2 ^ 51 % 8)
    → record {
      kind = w % 65536;
      ops = w / 2 ^ 16 % 4;
      op = w / 2 ^ 18 % 65536;
      boxed = eqb (w / 2 ^ 34 % 2) 1;
      text = text;
      numbers = numbers;
      alimit = v / 8192;
      xlimit = x;
      last = eqb (w / 2 ^ 35 % 2) 1;
      operands = w / 2 ^ 45 % 8;
      operand = operand;
      rest = rest;
      place = place;
      places = places;
    } ≡ unpack w
unfolding unpack
row_made w e f e₁ e₂ e₃ e₄ e₅ e₆ = rw (e₂, e, f, e₁, e₃, e₄, e₅, e₆) refl

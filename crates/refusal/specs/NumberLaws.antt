-- Laws of the refusals' numbers: no two refusals have one number, and none has 0; so the number tells a result that has no value.
use Rattle.std.specs.Prelude.{◌≡◌, ℕ, ◌≤◌, ◌==◌, cond, Result, Ok, Err}
use Rattle.std.proofs.Common.{refl, sym, ap, ◌∙◌, arith}
use Rattle.refusal.specs.declared.Refusal.{Refusal}
use Rattle.refusal.specs.declared.Refusal.TheVariants as refusal
use Rattle.refusal.specs.Number.{number, number_said}

-- the other way: which refusal a number is
abbrev named : ℕ → Refusal
named n =
    cond (n == 1) refusal.Layout (
    cond (n == 2) refusal.TooMany (
    cond (n == 3) refusal.Arities (
    cond (n == 4) refusal.Kind (
    cond (n == 5) refusal.Range (
    cond (n == 6) refusal.Spelling (
    cond (n == 7) refusal.ChildCount (
    cond (n == 8) refusal.Place (
    cond (n == 9) refusal.Depth (
    cond (n == 10) refusal.RecordsEnd (
    cond (n == 11) refusal.NormalForm (
    cond (n == 12) refusal.TooLarge (
    cond (n == 14) refusal.OutputShort (
    cond (n == 20) refusal.BadTable (
    cond (n == 21) refusal.Sum (
    cond (n == 22) refusal.NoFile (
    refusal.WriteOutside))))))))))))))))

pub named-number : (r : Refusal) → named (number r) ≡ r
named-number refusal.Layout = refl
named-number refusal.TooMany = refl
named-number refusal.Arities = refl
named-number refusal.Kind = refl
named-number refusal.Range = refl
named-number refusal.Spelling = refl
named-number refusal.ChildCount = refl
named-number refusal.Place = refl
named-number refusal.Depth = refl
named-number refusal.RecordsEnd = refl
named-number refusal.NormalForm = refl
named-number refusal.TooLarge = refl
named-number refusal.OutputShort = refl
named-number refusal.BadTable = refl
named-number refusal.Sum = refl
named-number refusal.NoFile = refl
named-number refusal.WriteOutside = refl

-- two refusals of one number are the same, and none has the number 0
pub number-injective : (r s : Refusal) → number r ≡ number s → r ≡ s
number-injective r s e = sym (named-number r) ∙ ap named e ∙ named-number s

pub number-positive : (r : Refusal) → 1 ≤ number r
number-positive refusal.Layout = omega arith
number-positive refusal.TooMany = omega arith
number-positive refusal.Arities = omega arith
number-positive refusal.Kind = omega arith
number-positive refusal.Range = omega arith
number-positive refusal.Spelling = omega arith
number-positive refusal.ChildCount = omega arith
number-positive refusal.Place = omega arith
number-positive refusal.Depth = omega arith
number-positive refusal.RecordsEnd = omega arith
number-positive refusal.NormalForm = omega arith
number-positive refusal.TooLarge = omega arith
number-positive refusal.OutputShort = omega arith
number-positive refusal.BadTable = omega arith
number-positive refusal.Sum = omega arith
number-positive refusal.NoFile = omega arith
number-positive refusal.WriteOutside = omega arith

-- a result that has no value is determined by its number
pub said_determined : (r s : Result (Unit {0}) Refusal) → number_said r ≡ number_said s → r ≡ s
said_determined (Ok u) (Ok v) n = refl
said_determined (Ok u) (Err e) n = absurd (omega (arith, number-positive e))
said_determined (Err e) (Ok u) n = absurd (omega (arith, number-positive e))
said_determined (Err d) (Err e) n = ap Err (number-injective d e n)

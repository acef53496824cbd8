-- What the answer for an EISA id is named determines it.
use Rattle.std.specs.Prelude.{◌≡◌, refl, ℕ, Option, Some, None}
use Rattle.std.proofs.Common.{ap, arith}
use Rattle.ident.specs.EisaOf.{Named, named}

-- no two cases are alike, so that the answer is determined
pub named_determined : (r s : Option ℕ) → named r ≡ named s → r ≡ s
unfolding named
named_determined (Some v) (Some w) e = ap (λ (x : ℕ). Some x) (ap (λ (n : Named). n.value) e)
named_determined (Some v) None e = absurd (omega (arith, ap (λ (n : Named). n.number) e))
named_determined None (Some w) e = absurd (omega (arith, ap (λ (n : Named). n.number) e))
named_determined None None e = refl

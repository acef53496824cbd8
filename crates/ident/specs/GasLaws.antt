-- Laws of generic addresses: which widths have an access size, and the address or the refusal that is made of it.
-- Assumes nothing.
use Rattle.std.specs.Prelude.{◌≡◌, refl, ℕ, ◌*◌, ◌<◌, ◌≤◌, eqb, Result, Ok, Err}
use Rattle.std.proofs.Common.{ap, arith, ne_eqb, eqb→eq}
use Rattle.octets.specs.Tests.{cond_case}
use Rattle.refusal.specs.declared.Refusal.{Refusal}
use Rattle.refusal.specs.Number.{number}
use Rattle.refusal.specs.NumberLaws.{number-positive, number-injective}
use Rattle.ident.specs.declared.GenericAddress.{GenericAddress}
use Rattle.ident.specs.Gas.{Made, access_size, gas, made, answered}

pub access_none : (w : ℕ) → (w ≡ 1 → ⊥) → (w ≡ 2 → ⊥) → (w ≡ 4 → ⊥) → (w ≡ 8 → ⊥) → access_size w ≡ 0
unfolding access_size
access_none w a b c d = rw (ne_eqb w 1 a, ne_eqb w 2 b, ne_eqb w 4 c, ne_eqb w 8 d) refl

pub access_width : (w : ℕ) → (access_size w ≡ 0 → ⊥) → w ≤ 8
unfolding access_size
access_width w =
    cond_case P (eqb w 1) _ _ (λ t n. omega (arith, eqb→eq w 1 t)) λ _.
    cond_case P (eqb w 2) _ _ (λ t n. omega (arith, eqb→eq w 2 t)) λ _.
    cond_case P (eqb w 4) _ _ (λ t n. omega (arith, eqb→eq w 4 t)) λ _.
    cond_case P (eqb w 8) _ _ (λ t n. omega (arith, eqb→eq w 8 t)) λ _ n.
    absurd (n refl)
  where
    P : ℕ → Type 0
    P x = (x ≡ 0 → ⊥) → w ≤ 8

module _ (space width at : ℕ) where
  pub made_refused : (r : Refusal) → number r ≡ 5 → access_size width ≡ 0 → answered (Err r) ≡ made space width at
  unfolding answered made
  made_refused r e z = rw (e, z) refl

  pub made_some : {id access : ℕ} → id ≡ space → access ≡ access_size width → 0 < access
      → answered (Ok (record { address_space_id = id; register_bit_width = 8 * width; register_bit_offset = 0; access_size = access; address = at })) ≡ made space width at
  unfolding answered made gas
  made_some i e p = rw (ne_eqb (access_size width) 0 (λ z. omega (arith, e, z)), i, e) refl

-- no two answers are alike, so that the answer is determined
pub answered_determined : (r s : Result GenericAddress Refusal) → answered r ≡ answered s → r ≡ s
unfolding answered
answered_determined (Ok a) (Ok b) e = ap (λ (x : GenericAddress). Ok x) (ap (λ (m : Made). m.address) e)
answered_determined (Ok a) (Err s) e = absurd (omega (arith, number-positive s, ap (λ (m : Made). m.number) e))
answered_determined (Err r) (Ok b) e = absurd (omega (arith, number-positive r, ap (λ (m : Made). m.number) e))
answered_determined (Err r) (Err s) e = ap (λ (x : Refusal). Err x) (number-injective r s (ap (λ (m : Made). m.number) e))

-- What the code's answers say determines them: no two answers have one verdict. Assumes nothing.
use Rattle.std.specs.Prelude.{◌≡◌, Result, Ok, Err}
use Rattle.std.proofs.Common.{refl, sym, ap, arith}
use Rattle.refusal.specs.declared.Fault.{Fault}
use Rattle.refusal.specs.Number.{number}
use Rattle.refusal.specs.NumberLaws.{number-injective, number-positive}
use Rattle.checker.specs.Refusal.{verdict}
use Rattle.checker.specs.Said.{verdict_said}

unrefused : (f : Fault) → verdict 0 0 ≡ verdict (number f.refusal) f.index → ⊥
unrefused f e =
    let n : 0 ≡ number f.refusal = ap (λ v. v.number) e in
    let p = number-positive f.refusal in
    omega arith

same_fault : (f g : Fault) → verdict (number f.refusal) f.index ≡ verdict (number g.refusal) g.index → f ≡ g
same_fault f g e =
    let r : f.refusal ≡ g.refusal = number-injective f.refusal g.refusal (ap (λ v. v.number) e) in
    let i : f.index ≡ g.index = ap (λ v. v.index) e in
    rw (r, i) refl

pub check_determined : (a b : Result (Unit {0}) Fault) → verdict_said a ≡ verdict_said b → a ≡ b
check_determined (Ok a) (Ok b) e = refl
check_determined (Ok a) (Err g) e = absurd (unrefused g e)
check_determined (Err f) (Ok b) e = absurd (unrefused f (sym e))
check_determined (Err f) (Err g) e = ap Err (same_fault f g e)

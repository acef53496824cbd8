-- `written::put_digits` meets its contract: no bytes where there are none to write. Assumes nothing.
use mathlib.Core.Path.{◌≡◌, refl}
use mathlib.Core.List.{[]}
use Prim.Native.Nat.{ℕ}
use native.Mathlib.Omega.{arith}
use Rattle.octets.specs.Bytes.{le}
use Rattle.octets.specs.Filling.{wrote_as}
use Rattle.written.proofs.put_digits.Goals as goal

no_digits : {n : ℕ} (x : ℕ) → n ≡ 0 → le n x ≡ []
unfolding le
no_digits x e = rw e refl

pub returns-then-width-eq0 : goal.returns-then-width-eq0
returns-then-width-eq0 c = wrote_as (no_digits _ c.if-width-eq0.true) (record { count = refl; is = refl })

pub put_le-requires : goal.put_le-requires
put_le-requires c = c.requires.1

pub returns : goal.returns
returns c = c.put_le.ensures

-- `ident::access_size_of` meets its contract: four widths have a code, and no other. Assumes nothing.
use Rattle.std.proofs.Common.{refl, arith}
use Rattle.ident.specs.Gas.{access_size}
use Rattle.ident.specs.GasLaws.{access_none}
use Rattle.ident.proofs.access_size_of.Goals as goal

pub returns-in-1 : goal.returns-in-1
unfolding access_size
returns-in-1 c = rw c.in-1.is (refl, omega arith)

pub returns-in-2 : goal.returns-in-2
unfolding access_size
returns-in-2 c = rw c.in-2.is (refl, omega arith)

pub returns-in-4 : goal.returns-in-4
unfolding access_size
returns-in-4 c = rw c.in-4.is (refl, omega arith)

pub returns-in-8 : goal.returns-in-8
unfolding access_size
returns-in-8 c = rw c.in-8.is (refl, omega arith)

pub returns-in_default : goal.returns-in_default
returns-in_default c = (refl, access_none _ (λ e. omega arith) (λ e. omega arith) (λ e. omega arith) (λ e. omega arith))

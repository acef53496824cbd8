-- `descriptor::flags_fit` meets its contract, by the type. Assumes nothing.
use Rattle.std.proofs.Common.{refl, arith, ne_eqb}
use Rattle.descriptor.specs.Descriptor.{flags_fit}
use Rattle.descriptor.proofs.flags_fit.Goals as goal

pub returns-in-0 : goal.returns-in-0
unfolding flags_fit
returns-in-0 c = rw c.in-0.is refl

pub returns-in-1 : goal.returns-in-1
unfolding flags_fit
returns-in-1 c = rw c.in-1.is refl

pub returns-in_default : goal.returns-in_default
unfolding flags_fit
returns-in_default c = rw (ne_eqb c.args.a 0 (λ e. omega arith), ne_eqb c.args.a 1 (λ e. omega arith)) refl

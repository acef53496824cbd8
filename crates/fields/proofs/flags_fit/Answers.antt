-- `fields::flags_fit` meets its contract, which is its code. Assumes nothing.
use Rattle.std.proofs.Common.{refl, ◌%◌, le-leb}
use Rattle.std.proofs.lemmas.Bool.{lt-leb}
use Rattle.fields.specs.Fields.{flags_fit}
use Rattle.fields.proofs.flags_fit.Goals as goal

pub returns-then-a-le5 : goal.returns-then-a-le5
unfolding flags_fit
returns-then-a-le5 c = rw (le-leb (c.args.a % 16) 5 c.if-a-le5.true) refl

pub returns-else-a-le5 : goal.returns-else-a-le5
unfolding flags_fit
returns-else-a-le5 c = rw (lt-leb (c.args.a % 16) 5 c.if-a-le5.false) refl

-- `fields::is_ascii` meets its contract: what was seen and the bytes that are left decide (`Looking`). Assumes nothing.
use Rattle.std.proofs.Common.{refl}
use Rattle.fields.specs.Fields.{ascii}
use Rattle.fields.proofs.Looking.{looking_turn, looking_end}
use Rattle.fields.proofs.is_ascii.Goals as goal

pub loop-byte-preserved : goal.loop-byte-preserved
unfolding ascii
loop-byte-preserved c = looking_turn c.loop-byte.invariant c.loop-byte-test.true refl refl

pub returns : goal.returns
returns c = looking_end c.loop-byte.invariant c.loop-byte-test.false

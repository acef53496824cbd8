-- `term::number_at` meets its contract: four bytes make a number under 2^32. Assumes nothing.
use Rattle.std.proofs.Common.{arith}
use Rattle.octets.specs.Reading.{digits-small}
use Rattle.term.proofs.number_at.Goals as goal

pub returns-clause-small : goal.returns-clause-small
returns-clause-small c = digits-small c.get_le.ensures (omega arith)

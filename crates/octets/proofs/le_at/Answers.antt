-- `octets::le_at` meets its contract: the digits are there, or too few bytes are left. Assumes nothing.
use Rattle.octets.specs.Reading.{reads-digits, reads_short}
use Rattle.octets.proofs.le_at.Goals as goal

pub returns-then-b-at : goal.returns-then-b-at
returns-then-b-at c = reads_short c.if-b-at.true

pub returns : goal.returns
returns c = reads-digits c.if-b-at.false c.requires.1 c.get_le.ensures

-- `grammar::row_at` meets its contract: the numbers of the rows compute to the table. Assumes nothing.
use Rattle.grammar.proofs.PackedLaws.{row-packed}
use Rattle.grammar.proofs.row_at.Goals as goal

pub returns : goal.returns
returns c = rw (row-packed _, ← c.word_of.ensures) c.unpacked.ensures

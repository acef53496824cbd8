-- `grammar::text_at` meets its contract: the digits of the column. Assumes nothing.
use Rattle.grammar.specs.Packed.{unpack}
use Rattle.grammar.proofs.PackedLaws.{row-packed}
use Rattle.grammar.proofs.text_at.Goals as goal

pub returns : goal.returns
unfolding unpack
returns c = rw (row-packed _, ← c.word_of.ensures) c.text_of.ensures

-- `grammar::last_at` meets its contract: the digits of the column. Assumes nothing.
use Rattle.std.specs.Prelude.{refl}
use Rattle.grammar.specs.Packed.{unpack}
use Rattle.grammar.proofs.PackedLaws.{row-packed}
use Rattle.grammar.proofs.last_at.Goals as goal

pub returns : goal.returns
unfolding unpack
returns c = rw (row-packed _, ← c.word_of.ensures) refl

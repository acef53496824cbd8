-- `grammar::word_of` meets its contract: the entries are the rows, and behind them stands none. Assumes nothing.
use Rattle.std.specs.Prelude.{refl}
use Rattle.std.proofs.Common.{sym}
use Rattle.grammar.specs.Packed.{entry, words}
use Rattle.grammar.proofs.PackedLaws.{listed, listed_at, entry-none}
use Rattle.grammar.proofs.word_of.Goals as goal

pub returns-then-j-lt67 : goal.returns-then-j-lt67
unfolding listed entry words
returns-then-j-lt67 c = listed_at (entry words 0) 67 0 refl c.args.j c.if-j-lt67.true

pub returns-else-j-lt67 : goal.returns-else-j-lt67
unfolding words
returns-else-j-lt67 c = sym (entry-none words 0 c.args.j c.if-j-lt67.false)

-- `grammar::third_of` meets its contract: the entries are the third numbers, and behind them stands none. Assumes nothing.
use Rattle.std.specs.Prelude.{refl}
use Rattle.std.proofs.Common.{sym}
use Rattle.grammar.specs.Packed.{entry, thirds}
use Rattle.grammar.proofs.PackedLaws.{listed, listed_at, entry-none}
use Rattle.grammar.proofs.third_of.Goals as goal

pub returns-then-i-lt12 : goal.returns-then-i-lt12
unfolding listed entry thirds
returns-then-i-lt12 c = listed_at (entry thirds 1) 12 0 refl c.args.c c.if-i-lt12.true

pub returns-else-i-lt12 : goal.returns-else-i-lt12
unfolding thirds
returns-else-i-lt12 c = sym (entry-none thirds 1 c.args.c c.if-i-lt12.false)

-- `grammar::second_of` meets its contract: the entries are the second numbers, and behind them stands none. Assumes nothing.
use Rattle.std.specs.Prelude.{refl}
use Rattle.std.proofs.Common.{sym}
use Rattle.grammar.specs.Packed.{entry, seconds}
use Rattle.grammar.proofs.PackedLaws.{listed, listed_at, entry-none}
use Rattle.grammar.proofs.second_of.Goals as goal

pub returns-then-i-lt12 : goal.returns-then-i-lt12
unfolding listed entry seconds
returns-then-i-lt12 c = listed_at (entry seconds 1) 12 0 refl c.args.c c.if-i-lt12.true

pub returns-else-i-lt12 : goal.returns-else-i-lt12
unfolding seconds
returns-else-i-lt12 c = sym (entry-none seconds 1 c.args.c c.if-i-lt12.false)

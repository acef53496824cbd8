-- `ident::letter` meets its contract: a letter is between 65 and 90. Assumes nothing.
use Rattle.std.proofs.Common.{arith}
use Rattle.ident.specs.IdentLaws.{letter_is}
use Rattle.ident.proofs.letter.Goals as goal

pub overflow_sub-b : goal.overflow_sub-b
overflow_sub-b c = omega (arith, letter_is c.args.b c.requires)

pub returns : goal.returns
returns c = (c.from.ensures, omega (arith, c.from.ensures, letter_is c.args.b c.requires))

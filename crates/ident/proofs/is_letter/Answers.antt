-- `ident::is_letter` meets its contract: the test is that of the definition. Assumes nothing.
use borrow.Author.Rules.{rules}
use Rattle.ident.specs.Ident.{is_letter}
use Rattle.ident.proofs.is_letter.Goals as goal

pub returns : goal.returns
unfolding is_letter
returns c = search rules

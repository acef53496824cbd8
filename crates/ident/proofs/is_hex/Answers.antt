-- `ident::is_hex` meets its contract: the tests are those of the definition. Assumes nothing.
use Rattle.ident.specs.Ident.{is_hex}
use Rattle.ident.proofs.is_hex.Goals as goal

pub returns : goal.returns
unfolding is_hex
returns c = cc

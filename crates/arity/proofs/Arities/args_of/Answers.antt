-- `arity::Arities::args_of` meets its contract: the whole text is sought. Assumes nothing.
use Rattle.path.specs.PathSpelled.{text-spelled}
use Rattle.arity.proofs.Arities.args_of.Goals as goal

pub seek-requires : goal.seek-requires
seek-requires c = (text-spelled _ _).there

pub returns : goal.returns
returns c = rw (text-spelled _ _).is at c.seek.ensures

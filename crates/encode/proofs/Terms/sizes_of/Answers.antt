-- `Terms::sizes_of` meets its contract: nothing is kept yet. Assumes nothing.
use Rattle.encode.specs.Kept.{kept-none}
use Rattle.encode.proofs.Terms.sizes_of.Goals as goal

pub sizes_in-requires : goal.sizes_in-requires
sizes_in-requires c = (c.requires, kept-none _ _ 1)

pub returns : goal.returns
returns c = c.sizes_in.ensures.0

-- `Terms::write_list` meets its contract: nothing is kept yet. Assumes nothing.
use Rattle.encode.specs.Kept.{kept-none}
use Rattle.encode.proofs.Terms.write_list.Goals as goal

pub write_in-requires : goal.write_in-requires
write_in-requires c = (c.requires.0, kept-none _ _ 1, c.requires.1)

pub returns : goal.returns
returns c = c.write_in.ensures.0

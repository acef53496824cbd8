-- `repack::put_two` meets its contract: two numbers in a row. Assumes nothing.
use Rattle.octets.specs.Filling.{writing_fits, writing_next, writing_end}
use Rattle.repack.specs.PackLaws.{two-start}
use Rattle.repack.proofs.put_two.Goals as goal

pub put_le-at-requires : goal.put_le-at-requires
put_le-at-requires c = writing_fits (two-start _ _ _ _ c.requires)

pub put_le-at-requires-2 : goal.put_le-at-requires-2
put_le-at-requires-2 c = writing_fits (writing_next (two-start _ _ _ _ c.requires) c.put_le-at.ensures)

pub returns : goal.returns
returns c = writing_end (writing_next (writing_next (two-start _ _ _ _ c.requires) c.put_le-at.ensures) c.put_le-at-2.ensures)

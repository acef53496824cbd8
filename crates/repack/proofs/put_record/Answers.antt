-- `repack::put_record` meets its contract: six numbers in a row. Assumes nothing.
use Rattle.octets.specs.Filling.{writing_fits, writing_next, writing_end}
use Rattle.repack.specs.PackLaws.{packed_start}
use Rattle.repack.proofs.put_record.Goals as goal

pub put_two-at-requires : goal.put_two-at-requires
put_two-at-requires c = writing_fits (packed_start _ _ c.requires)

pub put_le-at-requires : goal.put_le-at-requires
put_le-at-requires c = writing_fits (writing_next (packed_start _ _ c.requires) c.put_two-at.ensures)

pub put_le-at-requires-2 : goal.put_le-at-requires-2
put_le-at-requires-2 c = writing_fits (writing_next (writing_next (packed_start _ _ c.requires) c.put_two-at.ensures) c.put_le-at.ensures)

pub put_two-at-requires-2 : goal.put_two-at-requires-2
put_two-at-requires-2 c = writing_fits (writing_next (writing_next (writing_next (packed_start _ _ c.requires) c.put_two-at.ensures) c.put_le-at.ensures) c.put_le-at-2.ensures)

pub returns : goal.returns
returns c = writing_end (writing_next (writing_next (writing_next (writing_next (packed_start _ _ c.requires) c.put_two-at.ensures) c.put_le-at.ensures) c.put_le-at-2.ensures) c.put_two-at-2.ensures)

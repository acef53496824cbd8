-- `repack::put_head` meets its contract: the magic, and six numbers in three pairs. Assumes nothing.
use Rattle.octets.specs.Filling.{writing_fits, writing_next, writing_end}
use Rattle.repack.specs.PackLaws.{head-start}
use Rattle.repack.proofs.put_head.Goals as goal

pub put_slice-at-requires : goal.put_slice-at-requires
put_slice-at-requires c = writing_fits (head-start _ _ _ _ c.requires.2)

pub put_two-at-requires : goal.put_two-at-requires
put_two-at-requires c = writing_fits (writing_next (head-start _ _ _ _ c.requires.2) c.put_slice-at.ensures)

pub put_two-at-requires-2 : goal.put_two-at-requires-2
put_two-at-requires-2 c = writing_fits (writing_next (writing_next (head-start _ _ _ _ c.requires.2) c.put_slice-at.ensures) c.put_two-at.ensures)

pub put_two-at-requires-3 : goal.put_two-at-requires-3
put_two-at-requires-3 c = writing_fits (writing_next (writing_next (writing_next (head-start _ _ _ _ c.requires.2) c.put_slice-at.ensures) c.put_two-at.ensures) c.put_two-at-2.ensures)

pub returns : goal.returns
returns c =
    writing_end (writing_next (writing_next (writing_next (writing_next (head-start _ _ _ _ c.requires.2) c.put_slice-at.ensures) c.put_two-at.ensures) c.put_two-at-2.ensures) c.put_two-at-3.ensures)

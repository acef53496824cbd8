-- `reader::put_header` meets its contract: numbers, identity, and its 0. Assumes nothing.
use Rattle.octets.specs.Filling.{writing_fits, writing_next, writing_end}
use Rattle.repack.specs.PackLaws.{header-start}
use Rattle.reader.proofs.put_header.Goals as goal

pub put_head-at-requires : goal.put_head-at-requires
put_head-at-requires c = (c.requires.1, c.requires.2, writing_fits (header-start _ _ _ _ c.args.out.now c.requires.3))

pub put_identity-at-requires : goal.put_identity-at-requires
put_identity-at-requires c =
    (c.requires.0, writing_fits (writing_next (header-start _ _ _ _ c.args.out.now c.requires.3) c.put_head-at.ensures))

pub put_le-at-requires : goal.put_le-at-requires
put_le-at-requires c =
    writing_fits (writing_next (writing_next (header-start _ _ _ _ c.args.out.now c.requires.3) c.put_head-at.ensures) c.put_identity-at.ensures)

pub returns : goal.returns
returns c =
    writing_end (writing_next (writing_next (writing_next (header-start _ _ _ _ c.args.out.now c.requires.3) c.put_head-at.ensures) c.put_identity-at.ensures) c.put_le-at.ensures)

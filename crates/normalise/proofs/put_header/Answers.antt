-- `normalise::put_header` meets its contract: numbers, identity, and its 0. Assumes nothing.
use Rattle.octets.specs.Filling.{writing_fits, writing_next, writing_end}
use Rattle.repack.specs.PackLaws.{header-start}
use Rattle.normalise.proofs.put_header.Goals as goal

pub put_head-at-requires : goal.put_head-at-requires
put_head-at-requires c =
    (c.requires.0, c.requires.1, writing_fits (header-start c.args.id.now c.args.n c.args.arities c.args.pool c.args.out.now c.requires.2))

pub put_slice-at-requires : goal.put_slice-at-requires
put_slice-at-requires c =
    writing_fits (writing_next (header-start c.args.id.now c.args.n c.args.arities c.args.pool c.args.out.now c.requires.2) c.put_head-at.ensures)

pub put_le-at-requires : goal.put_le-at-requires
put_le-at-requires c =
    let w = writing_next (header-start c.args.id.now c.args.n c.args.arities c.args.pool c.args.out.now c.requires.2) c.put_head-at.ensures in
    writing_fits (writing_next w c.put_slice-at.ensures)

pub returns : goal.returns
returns c =
    let w = writing_next (header-start c.args.id.now c.args.n c.args.arities c.args.pool c.args.out.now c.requires.2) c.put_head-at.ensures in
    writing_end (writing_next (writing_next w c.put_slice-at.ensures) c.put_le-at.ensures)

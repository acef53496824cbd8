-- `reader::put_identity` meets its contract: three pieces in a row. Assumes nothing.
use Rattle.octets.specs.Filling.{writing_fits, writing_next, writing_end}
use Rattle.reader.specs.ReaderLaws.{identity-start}
use Rattle.reader.proofs.put_identity.Goals as goal

pub put_slice-at-requires : goal.put_slice-at-requires
put_slice-at-requires c = writing_fits (identity-start c.args.table.now c.args.out.now c.requires.1)

pub put_slice-at-requires-2 : goal.put_slice-at-requires-2
put_slice-at-requires-2 c = writing_fits (writing_next (identity-start c.args.table.now c.args.out.now c.requires.1) c.put_slice-at.ensures)

pub put_slice-at-requires-3 : goal.put_slice-at-requires-3
put_slice-at-requires-3 c =
    writing_fits (writing_next (writing_next (identity-start c.args.table.now c.args.out.now c.requires.1) c.put_slice-at.ensures) c.put_slice-at-2.ensures)

pub returns : goal.returns
returns c =
    writing_end (writing_next (writing_next (writing_next (identity-start c.args.table.now c.args.out.now c.requires.1) c.put_slice-at.ensures) c.put_slice-at-2.ensures) c.put_slice-at-3.ensures)

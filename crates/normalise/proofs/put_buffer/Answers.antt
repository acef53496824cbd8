-- `normalise::put_buffer` meets its contract: two records in a row. Assumes nothing.
use Rattle.octets.specs.Filling.{writing_fits, writing_next, writing_end}
use Rattle.normalise.specs.PackLaws.{buffer-start}
use Rattle.normalise.proofs.put_buffer.Goals as goal

pub put_record-at-requires : goal.put_record-at-requires
put_record-at-requires c = writing_fits (buffer-start c.args.n c.args.start c.args.out.now c.requires)

pub put_integer-at-requires : goal.put_integer-at-requires
put_integer-at-requires c =
    writing_fits (writing_next (buffer-start c.args.n c.args.start c.args.out.now c.requires) c.put_record-at.ensures)

pub returns : goal.returns
returns c =
    writing_end (writing_next (writing_next (buffer-start c.args.n c.args.start c.args.out.now c.requires) c.put_record-at.ensures) c.put_integer-at.ensures)

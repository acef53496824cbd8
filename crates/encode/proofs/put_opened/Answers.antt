-- `encode::put_opened` meets its contract: the header, then the terms. Assumes nothing.
use Rattle.std.proofs.Common.{arith}
use Rattle.octets.specs.Filling.{writing_fits, writing_next, writing_end}
use Rattle.encode.specs.TableLaws.{table-start, table-room}
use Rattle.encode.proofs.put_opened.Goals as goal

pub put_header-at-requires : goal.put_header-at-requires
put_header-at-requires c = (c.requires.1.own, writing_fits (table-start c.requires.1))

pub write_in-done-requires : goal.write_in-done-requires
write_in-done-requires c =
    rw c.count-n.ensures (omega arith, c.requires.0, table-room c.requires.1 (writing_next (table-start c.requires.1) c.put_header-at.ensures))

pub returns : goal.returns
returns c =
    writing_end (writing_next (writing_next (table-start c.requires.1) c.put_header-at.ensures) (rw c.count-n.ensures at c.write_in-done.ensures.0.wrote))

-- `reader::put_file` meets its contract: header and body. Assumes nothing.
use Rattle.std.proofs.Common.{arith}
use Rattle.octets.specs.Filling.{writing_fits, writing_next, writing_end}
use Rattle.reader.specs.ReaderLaws.{names_most, file-start}
use Rattle.reader.proofs.put_file.Goals as goal

pub put_header-at-requires : goal.put_header-at-requires
put_header-at-requires c =
    (c.requires.0.framed.least, c.requires.1.held.few, omega (arith, c.requires.0.few), writing_fits (file-start c.requires.0 c.requires.1.held c.requires.1.named c.args.out.now c.requires.1.room))

pub put_body-at-requires : goal.put_body-at-requires
put_body-at-requires c =
    let h = file-start c.requires.0 c.requires.1.held c.requires.1.named c.args.out.now c.requires.1.room in
    (c.requires.0, record { held = c.requires.1.held; named = c.requires.1.named; room = writing_fits (writing_next h c.put_header-at.ensures) })

pub returns : goal.returns
returns c =
    writing_end (writing_next (writing_next (file-start c.requires.0 c.requires.1.held c.requires.1.named c.args.out.now c.requires.1.room) c.put_header-at.ensures) c.put_body-at.ensures)

pub overflow_add-length : goal.overflow_add-length
overflow_add-length c = omega (arith, names_most c.requires.0 c.requires.1.held c.requires.1.named, c.requires.1.held.short)

-- `encode_main::put_refused` meets its contract: three words, and two numbers between them.
use Rattle.octets.specs.Filling.{writing_next, writing_end}
use Rattle.encode_main.specs.ProgramLaws.{refused-start}
use Rattle.encode_main.proofs.put_refused.Goals as goal

pub returns : goal.returns
returns c =
    let start = refused-start c.args.number c.args.index c.args.out.now c.requires in
    let numbered = writing_next (writing_next start c.put_slice-at.ensures) c.put_decimal-at.ensures in
    let placed = writing_next (writing_next numbered c.put_slice-at-2.ensures) c.put_decimal-at-2.ensures in
    writing_end (writing_next placed c.put_slice-at-3.ensures)

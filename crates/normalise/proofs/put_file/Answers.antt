-- `normalise::put_file` meets its contract: the five parts in a row. Assumes nothing.
use Rattle.std.proofs.Common.{arith}
use Rattle.octets.specs.Filling.{writing_fits, writing_next, writing_end}
use Rattle.normalise.specs.SectionLaws.{file-start, names_most, all_most}
use Rattle.normalise.proofs.put_file.Goals as goal

pub overflow_add-names : goal.overflow_add-names
overflow_add-names c = omega (arith, names_most c.requires.sections c.requires.named, all_most c.args.terms.now.sound c.requires.texted)

pub put_header-at-requires : goal.put_header-at-requires
put_header-at-requires c = (c.requires.most, omega (arith, c.requires.sections.few), writing_fits (file-start c.requires))

pub put_records-at-requires : goal.put_records-at-requires
put_records-at-requires c =
    (omega (arith, names_most c.requires.sections c.requires.named), writing_fits (writing_next (file-start c.requires) c.put_header-at.ensures))

pub put_entries-at-requires : goal.put_entries-at-requires
put_entries-at-requires c =
    let w = writing_next (writing_next (file-start c.requires) c.put_header-at.ensures) c.put_records-at.ensures in
    (c.requires.sections.few, writing_fits w)

pub put_texts-at-requires : goal.put_texts-at-requires
put_texts-at-requires c =
    let w = writing_next (writing_next (file-start c.requires) c.put_header-at.ensures) c.put_records-at.ensures in
    writing_fits (writing_next w c.put_entries-at.ensures)

pub put_texts-at-requires-2 : goal.put_texts-at-requires-2
put_texts-at-requires-2 c =
    let w = writing_next (writing_next (file-start c.requires) c.put_header-at.ensures) c.put_records-at.ensures in
    (c.requires.slender, writing_fits (writing_next (writing_next w c.put_entries-at.ensures) c.put_texts-at.ensures))

pub returns : goal.returns
returns c =
    let w = writing_next (writing_next (file-start c.requires) c.put_header-at.ensures) c.put_records-at.ensures in
    writing_end (writing_next (writing_next (writing_next w c.put_entries-at.ensures) c.put_texts-at.ensures) c.put_texts-at-2.ensures)

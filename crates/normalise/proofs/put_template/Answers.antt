-- `normalise::put_template` meets its contract: the children, and the end tag. Assumes nothing.
use Rattle.octets.specs.Filling.{writing_next, writing_end}
use Rattle.normalise.specs.PackLaws.{template_start}
use Rattle.normalise.proofs.put_template.Goals as goal

pub returns : goal.returns
returns c =
    let w = template_start c.args.terms.now.records.now c.args.terms.now.pool.now c.args.n c.args.i c.args.out.now c.requires.1 in
    writing_end (writing_next (writing_next w c.write_list-at.ensures.wrote) c.put_end_tag-at.ensures)

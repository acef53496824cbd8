-- `normalise::put_step_at` meets its contract. Assumes nothing.
use Rattle.normalise.specs.PackLaws.{fits_as, named_here, step-here}
use Rattle.normalise.proofs.put_step_at.Goals as goal

pub put_step-requires : goal.put_step-requires
put_step-requires c =
    let s = c.args.terms.now.sound in
    let e = step-here s c.requires.0 c.record_at-r.ensures c.text_of.ensures c.args.n c.args.start c.start_of.ensures in
    (named_here s c.requires.0 c.record_at-r.ensures c.text_of.ensures, fits_as e c.requires.1)

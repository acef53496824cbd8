-- `normalise::step_at` meets its contract. Assumes nothing.
use Rattle.normalise.specs.FlatLaws.{children_few, step_changed, step_stays}
use Rattle.normalise.proofs.step_at.Goals as goal

pub texts_in-requires : goal.texts_in-requires
texts_in-requires c = children_few _ _ c.args.terms.now.sound.small _ _ c.sizes_of-kids.ensures

pub returns-then-is_changed : goal.returns-then-is_changed
returns-then-is_changed c =
    step_changed _ _ _ c.record_at-r.ensures c.text_of-text.ensures c.is_changed.ensures c.if-is_changed.true c.sizes_of-kids.ensures c.texts_in.ensures

pub returns : goal.returns
returns c = step_stays _ _ _ c.record_at-r.ensures c.text_of-text.ensures c.is_changed.ensures c.if-is_changed.false

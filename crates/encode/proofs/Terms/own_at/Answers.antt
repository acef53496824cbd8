-- `Terms::own_at` meets its contract: the fields of a sound file's record can be written. Assumes nothing.
use Rattle.encode.specs.Sound.{able-here}
use Rattle.encode.proofs.Terms.own_at.Goals as goal

pub invariant_of-result : goal.invariant_of-result
invariant_of-result c = record { able = able-here c.args.self.now.sound c.requires c.record_at-record.ensures c.position_of.ensures c.text_of.ensures }

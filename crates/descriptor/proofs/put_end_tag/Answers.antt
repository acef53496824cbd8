-- `descriptor::put_end_tag` meets its contract: the tag and the zero are one number. Assumes nothing.
use Rattle.octets.specs.Bytes.{le}
use Rattle.descriptor.proofs.put_end_tag.Goals as goal

pub put_le-requires : goal.put_le-requires
unfolding le
put_le-requires c = c.requires

pub returns : goal.returns
unfolding le
returns c = c.put_le.ensures

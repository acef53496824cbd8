-- `descriptor::descriptor_spelled` meets its contract. Assumes nothing.
use Rattle.descriptor.specs.DescriptorLaws.{spelled_is}
use Rattle.descriptor.proofs.descriptor_spelled.Goals as goal

pub returns : goal.returns
returns c = spelled_is c.args.kind c.columns_of-c.ensures _

-- `descriptor::descriptor_len` meets its contract: no row is longer than 46 bytes. Assumes nothing.
use native.Mathlib.Omega.{arith}
use Rattle.descriptor.specs.DescriptorLaws.{size_is, size-most}
use Rattle.descriptor.proofs.descriptor_len.Goals as goal

pub overflow_add-result : goal.overflow_add-result
overflow_add-result c = omega (arith, size-most c.args.kind c.columns_of-c.ensures)

pub overflow_add-result-2 : goal.overflow_add-result-2
overflow_add-result-2 c = omega (arith, size-most c.args.kind c.columns_of-c.ensures)

pub overflow_add-result-3 : goal.overflow_add-result-3
overflow_add-result-3 c = omega (arith, size-most c.args.kind c.columns_of-c.ensures)

pub returns : goal.returns
returns c = size_is c.args.kind c.columns_of-c.ensures

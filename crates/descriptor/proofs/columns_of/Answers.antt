-- `descriptor::columns_of` meets its contract: at each kind its row computes to these numbers. Assumes nothing.
use Rattle.std.proofs.Common.{refl, ◌∙◌, arith}
use Rattle.octets.specs.Bytes.{value}
use Rattle.descriptor.specs.Descriptor.{row_of}
use Rattle.descriptor.specs.Columns.{columns_of}
use Rattle.descriptor.specs.DescriptorLaws.{no_row}
use Rattle.descriptor.proofs.columns_of.Goals as goal

pub returns-in-57415 : goal.returns-in-57415
unfolding row_of columns_of value
returns-in-57415 c = c.text_columns.ensures ∙ rw c.in-57415.is refl

pub returns-in-57474 : goal.returns-in-57474
unfolding row_of columns_of value
returns-in-57474 c = c.text_columns-in-57474.ensures ∙ rw c.in-57474.is refl

pub returns-in-57478 : goal.returns-in-57478
unfolding row_of columns_of value
returns-in-57478 c = c.number_columns.ensures ∙ rw c.in-57478.is refl

pub returns-in-57481 : goal.returns-in-57481
unfolding row_of columns_of value
returns-in-57481 c = c.number_columns-in-57481.ensures ∙ rw c.in-57481.is refl

pub returns-in-57480 : goal.returns-in-57480
unfolding row_of columns_of value
returns-in-57480 c = c.space_columns.ensures ∙ rw c.in-57480.is refl

pub returns-in-57479 : goal.returns-in-57479
unfolding row_of columns_of value
returns-in-57479 c = c.space_columns-in-57479.ensures ∙ rw c.in-57479.is refl

pub returns-in-57482 : goal.returns-in-57482
unfolding row_of columns_of value
returns-in-57482 c = c.space_columns-in-57482.ensures ∙ rw c.in-57482.is refl

pub returns-in_default : goal.returns-in_default
returns-in_default c = no_row _ (λ e. omega arith) (λ e. omega arith) (λ e. omega arith) (λ e. omega arith) (λ e. omega arith) (λ e. omega arith) (λ e. omega arith)

-- `descriptor::descriptor_in_range` meets its contract, check by check. Assumes nothing.
use Rattle.std.proofs.Common.{◌∙◌, eq-eqb}
use Rattle.descriptor.specs.DescriptorLaws.{space-most, no_fields, no_space, a-space}
use Rattle.descriptor.proofs.descriptor_in_range.Goals as goal

pub space_fits-requires : goal.space_fits-requires
space_fits-requires c = space-most c.args.kind c.columns_of-c.ensures

pub returns-then-c-eq0 : goal.returns-then-c-eq0
returns-then-c-eq0 c =
    eq-eqb _ 0 c.if-c-eq0.true ∙ no_space c.args.kind c.columns_of-c.ensures _ _ _ c.fields_fit.ensures c.if-fields_fit.true c.if-c-eq0.true

pub returns-else-c-eq0 : goal.returns-else-c-eq0
returns-else-c-eq0 c = a-space c.args.kind c.columns_of-c.ensures _ _ _ c.fields_fit.ensures c.if-fields_fit.true c.if-c-eq0.false c.space_fits.ensures

pub returns-else-fields_fit : goal.returns-else-fields_fit
returns-else-fields_fit c = no_fields c.args.kind c.columns_of-c.ensures _ _ _ c.fields_fit.ensures c.if-fields_fit.false

-- `leaves_main::descriptor_into` writes only what was tested, with enough room. Assumes nothing.
use mathlib.Core.Path.{sym, ◌∙◌}
use native.Mathlib.Omega.{arith}
use Rattle.octets.specs.Tests.{true_test}
use Rattle.descriptor.specs.DescriptorLaws.{Valid, descriptor-most}
use Rattle.descriptor.specs.Descriptor.{row_of}
use Rattle.leaves_main.proofs.descriptor_into.Goals as goal

pub put_descriptor-requires : goal.put_descriptor-requires
put_descriptor-requires c =
    let a = c.args in let v : Valid (row_of a.kind) a.t.now a.a a.x = record { ranged = true_test _ (sym c.descriptor_in_range.ensures ∙ c.if-descriptor_in_range.true); spelt = true_test _ (sym c.descriptor_spelled.ensures ∙ c.if-descriptor_spelled.true) } in (v, omega (arith, descriptor-most a.kind v))

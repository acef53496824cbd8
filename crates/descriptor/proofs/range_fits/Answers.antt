-- `descriptor::range_fits` meets its contract, by where max - min stands. Assumes nothing.
use Rattle.std.proofs.Common.{◌∙◌, sym, arith, leb→le}
use Rattle.octets.specs.Tests.{true_test}
use Rattle.descriptor.specs.DescriptorLaws.{range_under, range_wide, range_not_wide}
use Rattle.descriptor.proofs.range_fits.Goals.{then-min-max, else-min-max}
use Rattle.descriptor.proofs.range_fits.Goals as goal

pub returns-then-max-min : goal.returns-then-max-min
returns-then-max-min c =
    let lo = c.get_le-min.ensures.is in
    let hi = c.get_le-max.ensures.is in
    elim c.if-min-max.branch [
      | then-min-max w ↦ c.bus_fits.ensures ∙ range_wide _ _ _ lo hi w.if-min-max.true c.requires.2 (sym w.value-is ∙ c.if-max-min.true)
      | else-min-max w ↦ absurd (omega (arith, w.if-min-max.false, leb→le _ _ (true_test _ (sym w.value-is ∙ c.if-max-min.true))))
    ]

pub returns-else-max-min : goal.returns-else-max-min
returns-else-max-min c =
    let lo = c.get_le-min.ensures.is in
    let hi = c.get_le-max.ensures.is in
    elim c.if-min-max.branch [
      | then-min-max w ↦ c.if-max-min.false ∙ range_not_wide _ _ _ lo hi w.if-min-max.true c.requires.2 (sym w.value-is ∙ c.if-max-min.false)
      | else-min-max w ↦ c.if-max-min.false ∙ range_under _ _ _ lo hi w.if-min-max.false
    ]

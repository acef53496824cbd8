-- `fields::text_fits` meets its contract: an unused text is empty, a descriptor's text has its row. Assumes nothing.
use mathlib.Core.Path.{◌≡◌, refl}
use mathlib.Core.Bool.{true}
use mathlib.Core.List.{List}
use Prim.Native.Nat.{ℕ}
use Rattle.grammar.specs.declared.Text.{Text}
use Rattle.grammar.specs.declared.Text.TheVariants.{Unused, PathText, SegmentText, Ascii, AnyBytes, EisaText, UuidText, DescriptorText}
use Rattle.fields.specs.Fields.{text_fits}
use Rattle.fields.proofs.text_fits.Goals as goal

other : (c : Text) (kind : ℕ) (t : List ℕ) (a x : ℕ) → (c ≡ Unused → ⊥) → (c ≡ DescriptorText → ⊥) → true ≡ text_fits c kind t a x
unfolding text_fits
other Unused kind t a x h g = absurd (h refl)
other PathText kind t a x h g = refl
other SegmentText kind t a x h g = refl
other Ascii kind t a x h g = refl
other AnyBytes kind t a x h g = refl
other EisaText kind t a x h g = refl
other UuidText kind t a x h g = refl
other DescriptorText kind t a x h g = absurd (g refl)

pub returns-in-Unused : goal.returns-in-Unused
unfolding text_fits
returns-in-Unused c = rw c.in-Unused.is c.is_empty.ensures

pub returns-in-DescriptorText : goal.returns-in-DescriptorText
unfolding text_fits
returns-in-DescriptorText c = rw c.in-DescriptorText.is c.descriptor_in_range.ensures

pub returns-in_default : goal.returns-in_default
unfolding text_fits
returns-in_default c = other c.args.text _ _ _ _ c.in_default.not-Unused c.in_default.not-DescriptorText

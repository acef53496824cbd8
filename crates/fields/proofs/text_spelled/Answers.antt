-- `fields::text_spelled` meets its contract, by the kind of text; a segment is tested by its length and its four bytes. Assumes nothing.
use Rattle.std.proofs.Common.{refl, sym, ◌∙◌, ne_eqb}
use Rattle.path.specs.PathLaws.{segment_not}
use Rattle.path.specs.PathText.{segment-whole}
use Rattle.fields.specs.Fields.{text_spelled}
use Rattle.fields.proofs.text_spelled.Goals as goal

pub returns-in-PathText : goal.returns-in-PathText
unfolding text_spelled
returns-in-PathText c = rw c.in-PathText.is c.is_path.ensures

pub returns-then-t-eq4 : goal.returns-then-t-eq4
unfolding text_spelled
returns-then-t-eq4 c = rw c.in-SegmentText.is (c.is_segment.ensures ∙ segment-whole _ c.if-t-eq4.true)

pub returns-else-t-eq4 : goal.returns-else-t-eq4
unfolding text_spelled
returns-else-t-eq4 c = rw c.in-SegmentText.is (ne_eqb _ 4 c.if-t-eq4.false ∙ sym (segment_not _ c.if-t-eq4.false))

pub returns-in-Ascii : goal.returns-in-Ascii
unfolding text_spelled
returns-in-Ascii c = rw c.in-Ascii.is c.is_ascii.ensures

pub returns-in-EisaText : goal.returns-in-EisaText
unfolding text_spelled
returns-in-EisaText c = rw c.in-EisaText.is c.is_eisa.ensures

pub returns-in-UuidText : goal.returns-in-UuidText
unfolding text_spelled
returns-in-UuidText c = rw c.in-UuidText.is c.is_uuid.ensures

pub returns-in-DescriptorText : goal.returns-in-DescriptorText
unfolding text_spelled
returns-in-DescriptorText c = rw c.in-DescriptorText.is c.descriptor_spelled.ensures

pub returns-in-Unused : goal.returns-in-Unused
unfolding text_spelled
returns-in-Unused c = rw c.in-Unused.is refl

pub returns-in-AnyBytes : goal.returns-in-AnyBytes
unfolding text_spelled
returns-in-AnyBytes c = rw c.in-AnyBytes.is refl

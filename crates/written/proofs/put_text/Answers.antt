-- `written::put_text` meets its contract, by the form of the text. Assumes nothing.
use mathlib.Core.Path.{refl}
use Rattle.fields.specs.Fields.{text_spelled}
use Rattle.fields.specs.Written.{text_bytes}
use Rattle.written.specs.FineLaws.{valid_text}
use Rattle.written.proofs.put_text.Goals as goal

pub put_path-requires : goal.put_path-requires
unfolding text_bytes text_spelled
put_path-requires c = (rw c.in-PathText.is at c.requires.2, rw c.in-PathText.is at c.requires.0)

pub put_slice-requires : goal.put_slice-requires
unfolding text_bytes text_spelled
put_slice-requires c = rw c.in-SegmentText.is at c.requires.0

pub put_string-requires : goal.put_string-requires
unfolding text_bytes text_spelled
put_string-requires c = rw c.in-Ascii.is at c.requires.0

pub put_slice-requires-in-AnyBytes : goal.put_slice-requires-in-AnyBytes
unfolding text_bytes text_spelled
put_slice-requires-in-AnyBytes c = rw c.in-AnyBytes.is at c.requires.0

pub eisa_value-requires : goal.eisa_value-requires
unfolding text_bytes text_spelled
eisa_value-requires c = rw c.in-EisaText.is at c.requires.2

pub put_int-requires : goal.put_int-requires
unfolding text_bytes text_spelled
put_int-requires c = rw c.eisa_value.ensures (rw c.in-EisaText.is at c.requires.0)

pub put_uuid_buffer-requires : goal.put_uuid_buffer-requires
unfolding text_bytes text_spelled
put_uuid_buffer-requires c = (rw c.in-UuidText.is at c.requires.2, rw c.in-UuidText.is at c.requires.0)

pub put_descriptor-requires : goal.put_descriptor-requires
unfolding text_bytes text_spelled
put_descriptor-requires c =
    (valid_text c.args.kind (rw c.in-DescriptorText.is at c.requires.1) (rw c.in-DescriptorText.is at c.requires.2), rw c.in-DescriptorText.is at c.requires.0)

pub returns-in-Unused : goal.returns-in-Unused
unfolding text_bytes text_spelled
returns-in-Unused c = rw c.in-Unused.is (record { count = refl; is = refl })

pub returns-in-PathText : goal.returns-in-PathText
unfolding text_bytes text_spelled
returns-in-PathText c = rw c.in-PathText.is c.put_path.ensures

pub returns-in-SegmentText : goal.returns-in-SegmentText
unfolding text_bytes text_spelled
returns-in-SegmentText c = rw c.in-SegmentText.is c.put_slice.ensures

pub returns-in-Ascii : goal.returns-in-Ascii
unfolding text_bytes text_spelled
returns-in-Ascii c = rw c.in-Ascii.is c.put_string.ensures

pub returns-in-AnyBytes : goal.returns-in-AnyBytes
unfolding text_bytes text_spelled
returns-in-AnyBytes c = rw c.in-AnyBytes.is c.put_slice-in-AnyBytes.ensures

pub returns-in-EisaText : goal.returns-in-EisaText
unfolding text_bytes text_spelled
returns-in-EisaText c = rw (c.in-EisaText.is, ← c.eisa_value.ensures) c.put_int.ensures

pub returns-in-UuidText : goal.returns-in-UuidText
unfolding text_bytes text_spelled
returns-in-UuidText c = rw c.in-UuidText.is c.put_uuid_buffer.ensures

pub returns-in-DescriptorText : goal.returns-in-DescriptorText
unfolding text_bytes text_spelled
returns-in-DescriptorText c = rw c.in-DescriptorText.is c.put_descriptor.ensures

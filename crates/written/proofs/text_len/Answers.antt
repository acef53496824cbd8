-- `written::text_len` meets its contract, by the form of the text. Assumes nothing.
use mathlib.Core.Path.{refl, sym, ◌∙◌, ap}
use mathlib.Core.List.{[], ◌∷◌}
use Prim.Native.Nat.{ℕ}
use lib.ListN.{length, length-append}
use Rattle.number.specs.Integer.{integer}
use Rattle.descriptor.specs.DescriptorLaws.{descriptor-length}
use Rattle.fields.specs.Fields.{text_spelled}
use Rattle.fields.specs.Written.{text_bytes}
use Rattle.written.specs.FineLaws.{valid_text, uuid-size}
use Rattle.written.proofs.text_len.Goals as goal

pub path_len-requires : goal.path_len-requires
unfolding text_bytes text_spelled
path_len-requires c = rw c.in-PathText.is at c.requires

pub eisa_value-requires : goal.eisa_value-requires
unfolding text_bytes text_spelled
eisa_value-requires c = rw c.in-EisaText.is at c.requires

pub returns-in-Unused : goal.returns-in-Unused
unfolding text_bytes text_spelled
returns-in-Unused c = λ a x f. rw c.in-Unused.is refl

pub returns-in-PathText : goal.returns-in-PathText
unfolding text_bytes text_spelled
returns-in-PathText c = λ a x f. rw c.in-PathText.is c.path_len.ensures

pub returns-in-SegmentText : goal.returns-in-SegmentText
unfolding text_bytes text_spelled
returns-in-SegmentText c = λ a x f. rw c.in-SegmentText.is refl

pub returns-in-Ascii : goal.returns-in-Ascii
unfolding text_bytes text_spelled
returns-in-Ascii c = λ a x f. rw c.in-Ascii.is (sym (length-append c.args.t.now (0 ∷ [])))

pub returns-in-AnyBytes : goal.returns-in-AnyBytes
unfolding text_bytes text_spelled
returns-in-AnyBytes c = λ a x f. rw c.in-AnyBytes.is refl

pub returns-in-EisaText : goal.returns-in-EisaText
unfolding text_bytes text_spelled
returns-in-EisaText c = λ a x f. rw c.in-EisaText.is (c.int_len.ensures ∙ ap (λ (v : ℕ). length (integer v)) c.eisa_value.ensures)

pub returns-in-UuidText : goal.returns-in-UuidText
unfolding text_bytes text_spelled
returns-in-UuidText c = λ a x f. rw c.in-UuidText.is (sym (uuid-size c.args.t.now))

pub returns-in-DescriptorText : goal.returns-in-DescriptorText
unfolding text_bytes text_spelled
returns-in-DescriptorText c =
    λ a x f. rw c.in-DescriptorText.is (c.descriptor_len.ensures ∙ sym (descriptor-length c.args.kind (valid_text c.args.kind {a = a} {x = x} (rw c.in-DescriptorText.is at f) (rw c.in-DescriptorText.is at c.requires))))

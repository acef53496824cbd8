-- How many bytes fields take at most, for sums of sizes that must fit 64 bits.
-- Assumes nothing.
use Rattle.std.specs.Prelude.{false, ℕ, ◌+◌, ◌≤◌, T, leb, length}
use Rattle.std.proofs.Common.{arith, leb→le, length-append}
use Rattle.octets.specs.Tests.{and_left}
use Rattle.octets.specs.Laws.{le-length}
use Rattle.number.specs.IntegerLaws.{integer-most}
use Rattle.number.specs.PkgLengthLaws.{following-most, pkg_length-length}
use Rattle.path.specs.PathLaws.{path-most}
use Rattle.ident.specs.Ident.{eisa_id}
use Rattle.descriptor.specs.DescriptorLaws.{descriptor-most}
use Rattle.grammar.specs.declared.Text.{Text}
use Rattle.grammar.specs.declared.Text.TheVariants.{Unused, PathText, SegmentText, Ascii, AnyBytes, EisaText, UuidText, DescriptorText}
use Rattle.grammar.specs.declared.Numbers.{Numbers}
use Rattle.grammar.specs.declared.Numbers.TheVariants.{Digits, MethodFlags, LevelOrder, FieldFlags, IntegerX, LengthX}
use Rattle.grammar.specs.declared.Row.{Row}
use Rattle.grammar.specs.Forest.{Fields}
use Rattle.fields.specs.Fields.{text_fits, text_spelled}
use Rattle.fields.specs.Written.{text_bytes, form_bytes, field_bytes}
use Rattle.written.specs.Fine.{narrow, Fine}
use Rattle.written.specs.FineLaws.{fine-narrow, fine-text, fine-spelled, valid_text, uuid-size}

text-most : (c : Text) (kind : ℕ) (v : Fields) → T (text_fits c kind v.text v.a v.x) → T (text_spelled c kind v.text)
    → length (text_bytes c kind v) ≤ 46 + length v.text
unfolding text_bytes
text-most Unused kind v f s = omega arith
text-most PathText kind v f s = omega (arith, path-most v.text)
text-most SegmentText kind v f s = omega arith
text-most Ascii kind v f s = simp length-append (omega arith)
text-most AnyBytes kind v f s = omega arith
text-most EisaText kind v f s = omega (arith, integer-most (eisa_id v.text))
text-most UuidText kind v f s = omega (arith, uuid-size v.text)
text-most DescriptorText kind v f s = omega (arith, descriptor-most kind (valid_text kind f s))

form_most : (n : Numbers) (a x : ℕ) → T (narrow n a x) → length (form_bytes n a x) ≤ 9
unfolding form_bytes narrow
form_most (Digits n base) a x t = rw le-length (omega (arith, leb→le n 8 (and_left (leb n 8) _ t)))
form_most MethodFlags a x t = rw le-length (omega arith)
form_most LevelOrder a x t = rw length-append (omega (arith, le-length 1 x, le-length 2 a))
form_most FieldFlags a x t = rw le-length (omega arith)
form_most IntegerX a x t = integer-most x
form_most LengthX a x t = omega (arith, pkg_length-length false x, following-most x)

pub field_most : (r : Row) (v : Fields) → Fine r v → length (field_bytes r v) ≤ 64 + length v.text
unfolding field_bytes
field_most r v h =
    rw length-append (omega (arith, text-most r.text r.kind v (fine-text r v h) (fine-spelled r v h), form_most r.numbers v.a v.x (fine-narrow r v h)))

-- `written::field_len` meets its contract: the bytes of the text and of the numbers. Assumes nothing.
use Rattle.std.proofs.Common.{◌≡◌, ℕ, ◌+◌, length, sym, ◌∙◌, ap, ap₂, arith, length-append}
use Rattle.grammar.specs.declared.Numbers.{Numbers}
use Rattle.grammar.specs.declared.Row.{Row}
use Rattle.grammar.specs.declared.Text.{Text}
use Rattle.grammar.specs.Packed.{row_at}
use Rattle.grammar.specs.Forest.{Fields}
use Rattle.fields.specs.Written.{text_bytes, form_bytes, field_bytes}
use Rattle.written.specs.Fine.{Fine, fields_of}
use Rattle.written.specs.FineLaws.{Columns, columns-text, columns-spelled, columns-bytes, TextTakes, FormTakes}
use Rattle.written.specs.WrittenMost.{field_most}
use Rattle.written.proofs.field_len.Goals as goal

columns : {r : Row} {t : Text} {k : ℕ} {f : Numbers} → t ≡ r.text → k ≡ r.kind → f ≡ r.numbers → Columns r t k f
columns et ek en = record { text = et; kind = ek; numbers = en }

-- the text's length and the numbers' make that of both
two_lengths : {r : Row} {t : Text} {k : ℕ} {f : Numbers} → Columns r t k f → (v : Fields) → Fine r v
    → {m n : ℕ} → TextTakes t k v.text m → FormTakes f v.x n → m + n ≡ length (field_bytes r v)
two_lengths {r} {t} {k} {f} e v h p q =
    let both = ap₂ ◌+◌ (p v.a v.x (columns-text e v h)) (q v.a) in
    both ∙ sym (length-append (text_bytes t k v) (form_bytes f v.a v.x)) ∙ sym (ap length (columns-bytes e v))

pub text_len-requires : goal.text_len-requires
text_len-requires c =
    let e = columns c.text_at-text.ensures c.kind_at.ensures c.numbers_at-numbers.ensures in
    columns-spelled e (fields_of c.args.t.now c.args.a c.args.x) c.requires

pub overflow_add-result : goal.overflow_add-result
overflow_add-result c =
    let e = columns c.text_at-text.ensures c.kind_at.ensures c.numbers_at-numbers.ensures in
    let v = fields_of c.args.t.now c.args.a c.args.x in
    let n = two_lengths e v c.requires c.text_len.ensures c.form_len.ensures in
    omega (arith, n, field_most (row_at c.args.j) v c.requires, c.well_formed.1.0.0)

pub returns : goal.returns
returns c =
    let e = columns c.text_at-text.ensures c.kind_at.ensures c.numbers_at-numbers.ensures in
    two_lengths e (fields_of c.args.t.now c.args.a c.args.x) c.requires c.text_len.ensures c.form_len.ensures

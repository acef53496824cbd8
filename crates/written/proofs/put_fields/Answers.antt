-- `written::put_fields` meets its contract: the text, then the numbers. Assumes nothing.
use mathlib.Core.Path.{◌≡◌}
use mathlib.Core.List.{List, [], ◌∷◌}
use Prim.Native.Nat.{ℕ, ◌≤◌}
use native.Mathlib.Omega.{arith}
use lib.ListN.{length}
use Rattle.octets.specs.Filling.{Writing, writing_fits, writing_next, writing_within, writing_same, writing_end}
use Rattle.grammar.specs.declared.Numbers.{Numbers}
use Rattle.grammar.specs.declared.Row.{Row}
use Rattle.grammar.specs.declared.Text.{Text}
use Rattle.grammar.specs.Forest.{Fields}
use Rattle.fields.specs.Written.{text_bytes, form_bytes, field_bytes}
use Rattle.written.specs.Fine.{fields_of}
use Rattle.written.specs.FineLaws.{Columns, columns-text, columns-spelled, columns-narrow, columns-bytes, two-start}
use Rattle.written.proofs.put_fields.Goals as goal

columns : {r : Row} {t : Text} {k : ℕ} {f : Numbers} → t ≡ r.text → k ≡ r.kind → f ≡ r.numbers → Columns r t k f
columns et ek en = record { text = et; kind = ek; numbers = en }

-- before the first of the two
begun : {r : Row} {t : Text} {k : ℕ} {f : Numbers} → Columns r t k f → (v : Fields) {first : List ℕ} → length (field_bytes r v) ≤ length first
    → Writing (field_bytes r v) (text_bytes t k v ∷ form_bytes f v.a v.x ∷ []) 0 first first
begun {t = t} {k = k} e v {first} room = two-start (text_bytes t k v) _ first (columns-bytes e v) room

pub put_text-at-requires : goal.put_text-at-requires
put_text-at-requires c =
    let e = columns c.text_at-text.ensures c.kind_at-kind.ensures c.numbers_at-numbers.ensures in
    let h0 = begun e (fields_of c.args.t.now c.args.a c.args.x) c.requires.1 in
    (writing_fits h0, columns-text e _ c.requires.0, columns-spelled e _ c.requires.0)

pub put_form-at-requires : goal.put_form-at-requires
put_form-at-requires c =
    let e = columns c.text_at-text.ensures c.kind_at-kind.ensures c.numbers_at-numbers.ensures in
    let h0 = begun e (fields_of c.args.t.now c.args.a c.args.x) c.requires.1 in
    let h1 = writing_next h0 c.put_text-at.ensures in
    (writing_fits h1, columns-narrow e _ c.requires.0)

pub returns : goal.returns
returns c =
    let e = columns c.text_at-text.ensures c.kind_at-kind.ensures c.numbers_at-numbers.ensures in
    let h0 = begun e (fields_of c.args.t.now c.args.a c.args.x) c.requires.1 in
    let h1 = writing_next h0 c.put_text-at.ensures in
    let h2 = writing_next h1 c.put_form-at.ensures in
    writing_end h2

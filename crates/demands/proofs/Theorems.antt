-- The demands, over the definitions: each statement stands under the sentence that it answers, and cites what proves it.
-- Demand 1 is a property of every function here (docs/AUDIT.md).
use mathlib.Core.Path.{◌≡◌, sym, ap, ◌∙◌}
use mathlib.Core.Logic.{◌↔◌, ◌⊎◌, ⊎_elim}
use mathlib.Core.Option.{some}
use mathlib.Core.List.{List, [], map}
use Prim.Native.Nat.{ℕ}
use lib.Dec.{T}
use lib.ListN.{length}
use Rattle.octets.specs.Bytes.{every, is_byte}
use Rattle.octets.specs.Sum.{byte_sum}
use Rattle.grammar.specs.Forest.{Forest}
use Rattle.term.specs.File.{identity}
use Rattle.checker.specs.Described.{forest_of}
use Rattle.sdt.specs.declared.Sdt.{Sdt}
use Rattle.sdt.specs.Edit as sdt
use Rattle.sdt.specs.Edit.{new_of, append_of, write_of, Left, Standing}
use Rattle.sdt.specs.EditLaws as edits
use Rattle.encode.specs.Encode.{Outcome, refused_by, handed, encode_of}
use Rattle.whole.specs.Whole.{list_of, tree_of, table_for, normal_for, Accepted, normalise_of, read_of, Plain, Framed, Gives}
use Rattle.whole.specs.WholeLaws as wholes
use Rattle.whole.specs.ReadLaws as reads
use Rattle.monitor.specs.declared.AcpiAnswer.{AcpiAnswer}
use Rattle.monitor.specs.declared.AcpiEdit.{AcpiEdit}
use Rattle.monitor.specs.Face.{Faced, edit_of}
use Rattle.monitor.specs.FaceLaws as faces
use Rattle.demands.proofs.Computed as computed
use Rattle.demands.specs.Examples.{Input, encoded, examples, whole_file, whole_table, no_records, stray_table, begun, grown, written}

-- ── Demand 2: "For every accepted term file the bytes are those defined from ACPI 6.4": such a file describes a forest
pub accepted-forest : (f : List ℕ) → Accepted f → (g : Forest) × (forest_of f ≡ some g) × (tree_of f ≡ g)
accepted-forest f a = wholes.accepted-tree-is f a

-- and what the call hands over is the table of that forest
pub encode_table : (f : List ℕ) → Accepted f → (out : List ℕ) → encode_of f out ≡ handed (table_for f) out
encode_table f a out = wholes.encode_accepted f a out

-- "Every table sums to 0 mod 256": that of an accepted file
pub table-sums : (f : List ℕ) → Accepted f → byte_sum (table_for f) ≡ 0
unfolding table_for
table-sums f a = reads.table-sums (identity f) (tree_of f) (wholes.accepted-identity f a)

-- and that which an accepted edit leaves; its record is sound, so that the next edit takes it, and its length and checksum are renewed
pub new_sound : (id : List ℕ) (n : ℕ) (t : Sdt) (b : List ℕ) → length id ≡ 31 → (new_of id n t b).number ≡ 0 → Standing (new_of id n t b)
new_sound id n t b l e = edits.new_sound id n t b l e

pub append-sound : (t : Sdt) (b piece : List ℕ) → (append_of t b piece).number ≡ 0 → Standing (append_of t b piece)
append-sound t b piece e = edits.append-sound t b piece e

pub write_sound : (t : Sdt) (b : List ℕ) (offset : ℕ) (piece : List ℕ) → (write_of t b offset piece).number ≡ 0 → Standing (write_of t b offset piece)
write_sound t b offset piece e = edits.write_sound t b offset piece e

-- ── Demand 3: "With one arity list fixed, two accepted files of equal identity give equal bytes exactly when their normal forms are equal"
pub one-tree-one-table : (f h : List ℕ) → Accepted f → Accepted h → identity f ≡ identity h → list_of f ≡ list_of h
    → (table_for f ≡ table_for h) ↔ (normal_for f ≡ normal_for h)
one-tree-one-table f h a b i l = reads.same-table f h a b i l

-- "the reader accepts exactly the tables that demand 2 defines for some accepted file, and returns its normal form": of an arity file that
-- 1, 2 and 3 let pass, and a table that 20, 12 and 21 let pass, either some accepted file with these arities gives the table, and the
-- reader hands over its normal form, if that fits the output; or none gives it, and the reader refuses it with 22
pub reading : (arities t out : List ℕ) → Plain arities → Framed t → T (every is_byte t)
    → ((f : List ℕ) × Gives arities f t × (read_of arities t out ≡ handed (normal_for f) out))
    ⊎ (((f : List ℕ) → Gives arities f t → ⊥) × (read_of arities t out ≡ refused_by 22 0 out))
reading arities t out p h b = reads.reading arities t out p h b

-- so the table of any accepted file is read, and gives that file's normal form
pub reader_takes : (arities f : List ℕ) → Plain arities → Accepted f → list_of f ≡ list_of arities
    → (out : List ℕ) → read_of arities (table_for f) out ≡ handed (normal_for f) out
reader_takes arities f p a l out = reads.read_table arities f p a l out

-- "normalising twice is normalising once"; the normal form is accepted, and has the same table
pub normal_once : (f : List ℕ) → Accepted f → normal_for (normal_for f) ≡ normal_for f
normal_once f a = wholes.normal-again f a

pub normal-accepted : (f : List ℕ) → Accepted f → Accepted (normal_for f)
normal-accepted f a = wholes.normal-accepted f a

pub normal-same-table : (f : List ℕ) → Accepted f → table_for (normal_for f) ≡ table_for f
normal-same-table f a = wholes.normal-table f a

-- "Normalising is a public call with encoding's refusals": what it hands over
pub normalise_form : (f : List ℕ) → Accepted f → (out : List ℕ) → normalise_of f out ≡ handed (normal_for f) out
normalise_form f a out = wholes.normalise_accepted f a out

-- ── "any two results that satisfy it are shown equal": of encode, normalise and read; of new, append and write
pub answers_determined : (o : Outcome) {r s : AcpiAnswer} {out out' : List ℕ} → Faced r out o → Faced s out' o → (r ≡ s) × (out ≡ out')
answers_determined o h k = faces.faced_determined o h k

pub edits_determined : (o : sdt.Outcome) {r s : AcpiEdit} {out out' : List ℕ} → Left (edit_of r) out o → Left (edit_of s) out' o → (r ≡ s) × (out ≡ out')
edits_determined o h k = faces.edited_determined o h k

-- ── Bytes to check against
-- "Marked + : shown of the definitions as one table"
pub examples_hold : map (λ (e : Input × List ℕ). encoded e.0) examples ≡ map (λ (e : Input × List ℕ). e.1) examples
examples_hold = computed.examples_hold

-- "Whole": the file is accepted, its table is the one that document 01 gives, and encoding hands that over
pub whole-accepted : Accepted whole_file
whole-accepted = record { early = ap (λ v. v.number) computed.whole-early; late = computed.whole-late }

pub whole-encoded : (out : List ℕ) → encode_of whole_file out ≡ handed whole_table out
whole-encoded out = encode_table whole_file whole-accepted out ∙ ap (λ t. handed t out) computed.whole-table

-- the file without records may be read by, and with it the table gives the file back, which is its own normal form
pub no_records-plain : Plain no_records
no_records-plain = computed.no_records-plain

pub whole-read : (out : List ℕ) → read_of no_records whole_table out ≡ handed whole_file out
whole-read out =
    ap (λ t. read_of no_records t out) (sym computed.whole-table)
    ∙ reader_takes no_records whole_file no_records-plain whole-accepted computed.whole-list out
    ∙ ap (λ f. handed f out) computed.whole-normal

-- a table of 37 bytes that 20, 12 and 21 let pass, and that no accepted file without arities gives: it is refused with 22
pub stray_framed : Framed stray_table
stray_framed = computed.stray_framed

pub stray_none : (f : List ℕ) → Gives no_records f stray_table → ⊥
unfolding refused_by
stray_none f =
    ⊎_elim
    (λ (_, _, e). absurd (reads.handed_not_22 _ [] (ap (λ (o : Outcome). o.answer.number) (sym e ∙ computed.stray_refused []))))
    (λ (none, _). none f)
    (reading no_records stray_table [] no_records-plain stray_framed computed.stray_bytes)

-- the whole table by edits: new, append and write are accepted, and what they leave is that table
pub whole-by_edits : (begun.number ≡ 0) × (grown.number ≡ 0) × (written.number ≡ 0) × (written.buffer ≡ whole_table)
whole-by_edits = (computed.begun-number, computed.grown-number, computed.written-number, computed.written-whole)

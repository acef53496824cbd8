-- What the C face hands over: the answers of the calls below, in structs that C has. Document 01, "The growing table" (four entry points).
-- Assumes nothing.
use Rattle.std.specs.Prelude.{◌≡◌, List, ℕ}
use Rattle.checker.specs.Refusal.{Verdict}
use Rattle.sdt.specs.declared.Sdt.{Sdt}
use Rattle.sdt.specs.Edit.{Edit}
use Rattle.encode.specs.Encode.{Answer, Outcome}
use Rattle.monitor.specs.declared.AcpiAnswer.{AcpiAnswer}
use Rattle.monitor.specs.declared.AcpiEdit.{AcpiEdit}

-- ── Answers
abbrev pub face_of : Answer → AcpiAnswer
face_of a = record { number = a.number; index = a.index; length = a.length }

-- a verdict writes nothing
abbrev pub verdict_of : Verdict → Answer
verdict_of v = record { number = v.number; index = v.index; length = 0 }

-- the answer r and the output as it is left are those of the outcome
pub record Faced (r : AcpiAnswer) (out : List ℕ) (o : Outcome) : Type 0 where
  pub answer : r ≡ face_of o.answer
  pub output : out ≡ o.output

-- ── Edits: the record is two numbers of the struct
abbrev pub record_of : ℕ → ℕ → Sdt
record_of length checksum = record { length = length; checksum = checksum }

abbrev pub edit_of : AcpiEdit → Edit
edit_of r = record { number = r.number; table = record_of r.length r.checksum }

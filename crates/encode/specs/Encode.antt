-- Encoding: the table of a term file, the refusals behind 10 (11, 12, 13, 14 in this order), and what the call answers and leaves.
-- Document 01, "Bytes" (Table) and "Refusal numbers"; ACPI 6.4, 5.2.6 (System Description Table Header).
-- Assumes nothing.
use Rattle.std.specs.Prelude.{◌&&◌, not, cond, List, ◌≡◌, ℕ, ◌+◌, eqb, leb, ltb, length, Result, Ok, Err}
use Rattle.std.proofs.Math.Option.{Option, none, some}
use Rattle.octets.specs.Bytes.{laid}
use Rattle.refusal.specs.declared.Fault.{Fault}
use Rattle.refusal.specs.Number.{number}
use Rattle.grammar.specs.Forest.{Forest, nil, depth, flatten}
use Rattle.tree.specs.Bytes.{bytes}
use Rattle.tree.specs.Normal.{norm, roomy}
use Rattle.term.specs.File.{identity}
use Rattle.sdt.specs.Table.{opened, sealed}
use Rattle.checker.specs.Refusal.{refusal_of}
use Rattle.checker.specs.Described.{forest_of}

-- ── The table: header, terms, with its own length and the checksum that brings the sum to 0. What a forest encodes to is by definition
-- the bytes of its normal form
unfoldable pub table_of : List ℕ → Forest → List ℕ
table_of id f = sealed (opened id (bytes (norm f)))

-- ── The refusals that speak of the normal form: 11, 12, 13
unfoldable pub late_number : Forest → ℕ
late_number n =
    cond (not (leb (length (flatten n)) 65536 && leb (depth n) 64)) 11
    (cond (ltb 268435455 (36 + length (bytes n))) 12
    (cond (not (roomy n)) 13 0))

-- ── The call
-- a refusal's number and the record at which it was found; or 0, and how many bytes were written
pub record Answer : Type 0 where
  pub number : ℕ
  pub index : ℕ
  pub length : ℕ

-- the code's result as an answer
abbrev pub answer_of : Result ℕ Fault → Answer
answer_of (Ok n) = record { number = 0; index = 0; length = n }
answer_of (Err f) = record { number = number f.refusal; index = f.index; length = 0 }

-- the answer, and the output as it is left
pub record Outcome : Type 0 where
  pub answer : Answer
  pub output : List ℕ

-- a refused call changes no byte, and its length is 0
unfoldable pub refused_by : ℕ → ℕ → List ℕ → Outcome
refused_by number index out = record { answer = record { number = number; index = index; length = 0 }; output = out }

-- bytes that are handed over, if they fit (else 14): output past them is unchanged
unfoldable pub handed : List ℕ → List ℕ → Outcome
handed bs out =
    cond (ltb (length out) (length bs)) (refused_by 14 0 out)
    (record { answer = record { number = 0; index = 0; length = length bs }; output = laid bs out })

-- what an accepted file describes
unfoldable pub described : Option Forest → Forest
described none = nil
described (some f) = f

unfoldable pub outcome_of : (Forest → List ℕ) → List ℕ → List ℕ → Outcome
outcome_of make f out =
    cond (not (eqb (refusal_of f).number 0)) (refused_by (refusal_of f).number (refusal_of f).index out)
    (cond (not (eqb (late_number (norm (described (forest_of f)))) 0)) (refused_by (late_number (norm (described (forest_of f)))) 0 out)
    (handed (make (described (forest_of f))) out))

unfoldable pub encode_of : List ℕ → List ℕ → Outcome
encode_of f out = outcome_of (table_of (identity f)) f out

-- the result r, as an answer, and the output as it is left are those of the outcome
pub record Answered (r : Result ℕ Fault) (out : List ℕ) (o : Outcome) : Type 0 where
  pub answer : answer_of r ≡ o.answer
  pub output : out ≡ o.output

-- The edits of a growing table: which are refused, with what number, and what is left in the record and in the buffer.
-- Document 01, "The growing table" and "Refusal numbers" (20, 23, 12, 14, in this order). `Sdt` of the crate.
-- Assumes nothing.
use Rattle.std.specs.Prelude.{Bool, ◌&&◌, ◌||◌, not, cond, true, List, ◌≡◌, ℕ, ◌+◌, eqb, leb, ltb, length, take, get_or, Result, Ok, Err}
use Rattle.octets.specs.Bytes.{le_at, laid}
use Rattle.octets.specs.Sum.{byte_sum}
use Rattle.refusal.specs.declared.Refusal.{Refusal}
use Rattle.refusal.specs.Number.{number}
use Rattle.sdt.specs.Table.{new_table, appended, overwritten, sealed}
use Rattle.sdt.specs.declared.Sdt.{Sdt}

-- an answer: 0 or the refusal's number, and the record as it is left
pub record Edit : Type 0 where
  pub number : ℕ
  pub table : Sdt

-- what a result says, with the record t as it is left: a refusal leaves it as it was
abbrev pub edit_said : Sdt → Result Sdt Refusal → Edit
edit_said t (Ok u) = record { number = 0; table = u }
edit_said t (Err e) = record { number = number e; table = t }

-- the answer's number, and the record and the buffer as they are left
pub record Outcome : Type 0 where
  pub number : ℕ
  pub table : Sdt
  pub buffer : List ℕ

-- a refused edit changes nothing
unfoldable pub refused : ℕ → Sdt → List ℕ → Outcome
refused n t b = record { number = n; table = t; buffer = b }

-- an accepted one leaves this table at the buffer's beginning, and its length and checksum in the record
unfoldable pub accepted : List ℕ → List ℕ → Outcome
accepted new b = record { number = 0; table = record { length = length new; checksum = get_or new 9 0 }; buffer = laid new b }

abbrev pub largest_table : ℕ
largest_table = 268435455

-- a record is sound if its length is 36 or more, within the buffer and like the header's, and its checksum like byte 9
unfoldable pub sound : Sdt → List ℕ → Bool
sound t b = leb 36 t.length && leb t.length (length b) && eqb (le_at 4 b 4) t.length && eqb (get_or b 9 0) t.checksum

-- a table of n bytes: 12 if it is too long, 14 if it does not fit the buffer
unfoldable pub sized : ℕ → List ℕ → Sdt → List ℕ → Outcome
sized n new t b = cond (ltb largest_table n) (refused 12 t b) (cond (ltb (length b) n) (refused 14 t b) (accepted new b))

unfoldable pub new_of : List ℕ → ℕ → Sdt → List ℕ → Outcome
new_of identity n t b = cond (ltb n 36) (refused 20 t b) (sized n (new_table identity n) t b)

unfoldable pub append_of : Sdt → List ℕ → List ℕ → Outcome
append_of t b piece =
    cond (not (sound t b)) (refused 20 t b)
    (sized (t.length + length piece) (appended (take t.length b) piece) t b)

-- the piece lies inside the table, and outside 4 to 7 and 9; an empty one anywhere up to the table's end
unfoldable pub writable : ℕ → ℕ → ℕ → Bool
writable n offset k =
    leb (offset + k) n
    && (eqb k 0 || ((leb (offset + k) 4 || leb 8 offset) && (leb (offset + k) 9 || leb 10 offset)))

unfoldable pub write_of : Sdt → List ℕ → ℕ → List ℕ → Outcome
write_of t b offset piece =
    cond (not (sound t b)) (refused 20 t b)
    (cond (not (writable t.length offset (length piece))) (refused 23 t b)
    (sized t.length (overwritten (take t.length b) offset piece) t b))

-- the answer r and the buffer as it is left are those of the outcome
pub record Left (r : Edit) (out : List ℕ) (o : Outcome) : Type 0 where
  pub number : r.number ≡ o.number
  pub table : r.table ≡ o.table
  pub is : out ≡ o.buffer

-- the same of a record that was changed in place
abbrev pub Leaves : ℕ → Sdt → List ℕ → Outcome → Type 0
Leaves n t out o = Left (record { number = n; table = t }) out o

-- the record is sound, and so is taken by the next edit; its table is sealed, and sums to 0
pub record Standing (o : Outcome) : Type 0 where
  pub sound : sound o.table o.buffer ≡ true
  pub again : sealed (take o.table.length o.buffer) ≡ take o.table.length o.buffer
  pub sums : byte_sum (take o.table.length o.buffer) ≡ 0

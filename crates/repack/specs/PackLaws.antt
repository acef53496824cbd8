-- A normal-form file's header and records as the parts in which they are written. Assumes nothing.
use Rattle.std.specs.Prelude.{◌≡◌, refl, ℕ, ◌+◌, ◌*◌, ◌≤◌, length}
use mathlib.Core.List.{List, [], ◌∷◌, ◌++◌, append_assoc, append-nil, flatten}
use Rattle.std.proofs.Common.{arith, length-append}
use Rattle.octets.specs.Bytes.{le}
use Rattle.octets.specs.Laws.{le-length}
use Rattle.octets.specs.Filling.{Writing, writing_start}
use Rattle.grammar.specs.Forest.{Term}
use Rattle.term.specs.declared.Record.{Record}
use Rattle.term.specs.File.{magic}
use Rattle.normal.specs.File.{record_bytes, header_bytes}
pub use Rattle.normal.specs.SectionLaws.{record_of}
use Rattle.repack.specs.Repack.{two, head_bytes, packed}

-- ── Two numbers
pub two-start : (n a b : ℕ) (first : List ℕ) → length (two n a b) ≤ length first → Writing (two n a b) (le n a ∷ le n b ∷ []) 0 first first
unfolding two flatten
two-start n a b first room = writing_start first (record { is = rw append-nil refl }) room

-- ── The header
pub head-start : (r a p : ℕ) (first : List ℕ) → length (head_bytes r a p) ≤ length first
    → Writing (head_bytes r a p) (magic ∷ two 4 r 60 ∷ two 4 a (60 + 24 * r) ∷ two 4 p (60 + 24 * r + 8 * a) ∷ []) 0 first first
unfolding head_bytes flatten
head-start r a p first room = writing_start first (record { is = rw append-nil refl }) room

pub head-length : (r a p : ℕ) → length (head_bytes r a p) ≡ 28
unfolding head_bytes two
head-length r a p = simp (length-append, le-length) (omega arith)

header-head : (id : List ℕ) (r a p : ℕ) → header_bytes id r a p ≡ head_bytes r a p ++ (id ++ (0 ∷ []))
unfolding header_bytes head_bytes two
header-head id r a p = simp append_assoc

pub header-start : (id : List ℕ) (r a p : ℕ) (first : List ℕ) → length (header_bytes id r a p) ≤ length first
    → Writing (header_bytes id r a p) (head_bytes r a p ∷ id ∷ le 1 0 ∷ []) 0 first first
unfolding flatten le
header-start id r a p first room = writing_start first (record { is = header-head id r a p }) room

-- ── A record
pub packed_start : (r : Record) (first : List ℕ) → length (packed r) ≤ length first
    → Writing (packed r) (two 2 r.kind r.a ∷ le 4 r.kids ∷ le 8 r.x ∷ two 4 r.start r.len ∷ []) 0 first first
unfolding packed flatten
packed_start r first room = writing_start first (record { is = rw append-nil refl }) room

pub packed-length : (r : Record) → length (packed r) ≡ 24
unfolding packed two
packed-length r = simp (length-append, le-length) (omega arith)

-- of a term
pub record-packed : (t : Term) (start : ℕ) → record_bytes t start ≡ packed (record_of t start)
unfolding record_bytes packed two
record-packed t start = simp append_assoc

-- The term file: a header of 60 bytes, then records, arities and pool, which touch; and when its layout is refused (1, 2).
-- Document 01, "The term file" and "Refusal numbers".
-- Assumes nothing.
use Rattle.std.specs.Prelude.{Bool, ◌&&◌, not, cond, List, [], ◌∷◌, ℕ, ◌+◌, ◌-◌, ◌*◌, eqb, leb, length, take, drop, get_or}
use Rattle.octets.specs.Bytes.{begins, le_at}

-- "TERM"
abbrev pub magic : List ℕ
magic = 0x54 ∷ 0x45 ∷ 0x52 ∷ 0x4D ∷ []

-- the bytes of a record, and of an arity entry
abbrev pub record_width : ℕ
record_width = 24

abbrev pub arity_width : ℕ
arity_width = 8

-- ── The header: the magic, six u32, 31 bytes of identity, a zero
abbrev pub record_count : List ℕ → ℕ
record_count f = le_at 4 f 4

abbrev pub record_offset : List ℕ → ℕ
record_offset f = le_at 4 f 8

abbrev pub arity_count : List ℕ → ℕ
arity_count f = le_at 4 f 12

abbrev pub arity_offset : List ℕ → ℕ
arity_offset f = le_at 4 f 16

abbrev pub pool_length : List ℕ → ℕ
pool_length f = le_at 4 f 20

abbrev pub pool_offset : List ℕ → ℕ
pool_offset f = le_at 4 f 24

unfoldable pub identity : List ℕ → List ℕ
identity f = take 31 (drop 28 f)

-- ── Sections touch: records at 60, then arities, then the pool, with which the file ends
unfoldable pub touching : List ℕ → Bool
touching f =
    eqb (record_offset f) 60
    && eqb (arity_offset f) (60 + record_width * record_count f)
    && eqb (pool_offset f) (arity_offset f + arity_width * arity_count f)
    && eqb (length f) (pool_offset f + pool_length f)

-- 1: header or section lengths wrong
unfoldable pub laid_out : List ℕ → Bool
laid_out f = leb 60 (length f) && begins magic f && eqb (get_or f 59 0) 0 && touching f

-- 2: over 65,536 records or 4,096 arities
unfoldable pub few : List ℕ → Bool
few f = leb (record_count f) 65536 && leb (arity_count f) 4096

-- the refusal, or 0 and where arities and pool begin
pub record Layout : Type 0 where
  pub number : ℕ
  pub arities : ℕ
  pub pool : ℕ

abbrev pub refused_by : ℕ → Layout
refused_by number = record { number = number; arities = 0; pool = 0 }

unfoldable pub layout_of : List ℕ → Layout
layout_of f =
    cond (not (laid_out f)) (refused_by 1)
    (cond (not (few f)) (refused_by 2)
    (record { number = 0; arities = arity_offset f; pool = pool_offset f }))

-- ── The sections
abbrev pub part : List ℕ → ℕ → ℕ → List ℕ
part f from to = take (to - from) (drop from f)

abbrev pub record_section : List ℕ → List ℕ
record_section f = part f 60 (layout_of f).arities

abbrev pub arity_section : List ℕ → List ℕ
arity_section f = part f (layout_of f).arities (layout_of f).pool

abbrev pub pool_section : List ℕ → List ℕ
pool_section f = part f (layout_of f).pool (length f)

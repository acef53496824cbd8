-- The bytes of the records that a record becomes, by the text beside it, the length of the text that it becomes, and where that starts;
-- and what the writers ask of a record. Assumes nothing.
use Rattle.std.specs.Prelude.{◌≡◌, cond, List, ◌++◌, ℕ, ◌/◌, ◌<◌, ◌≤◌, T, eqb, length}
use Rattle.ident.specs.Ident.{is_eisa, eisa_id, is_uuid}
use Rattle.term.specs.declared.Record.{Record}
use Rattle.term.specs.Record.{record_at, text_at}
use Rattle.normal.specs.File.{start_of}
use Rattle.repack.specs.Repack.{packed}
use Rattle.encode.specs.Walk.{is_buffer, list, term}
use Rattle.encode.specs.WalkLaws.{terms_from}
use Rattle.normalise.specs.FlatLaws.{kids_at}

unfoldable pub integer_bytes : ℕ → List ℕ
integer_bytes x = packed (record { kind = 0x0E; a = 0; kids = 0; x = x; start = 0; len = 0 })

-- a buffer of n bytes, and its size
unfoldable pub buffer_bytes : ℕ → ℕ → List ℕ
buffer_bytes n start = packed (record { kind = 0x11; a = 0; kids = 1; x = 0; start = start; len = n }) ++ integer_bytes n

unfoldable pub step_bytes : Record → List ℕ → ℕ → ℕ → List ℕ
step_bytes r t n start =
    cond (eqb r.kind 0xE001) (integer_bytes (eisa_id t))
    (cond (is_buffer r.kind) (buffer_bytes n start)
    (packed (record { kind = r.kind; a = r.a; kids = r.kids; x = r.x; start = start; len = n })))

-- of the record at i, where the texts go on at `start`
abbrev pub step_at : List ℕ → List ℕ → ℕ → ℕ → ℕ → List ℕ
step_at records pool i n start = step_bytes (record_at records i) (text_at pool (record_at records i).start (record_at records i).len) n (start_of n start)

-- the bytes of n terms from the record at i on
abbrev pub kids_from : List ℕ → List ℕ → ℕ → ℕ → List ℕ
kids_from records pool n i = (list (term 64) n (terms_from records pool i)).bytes

-- an EISA id and a UUID are spelled as such
pub record Named (k : ℕ) (t : List ℕ) : Type 0 where
  pub eisa : k ≡ 0xE001 → T (is_eisa t)
  pub uuid : k ≡ 0xE002 → T (is_uuid t)

-- no record has children of more bytes than a table may have
pub record Slender (records pool : List ℕ) : Type 0 where
  pub each : (i : ℕ) → i < length records / 24 → length (kids_at records pool i) ≤ 268435419

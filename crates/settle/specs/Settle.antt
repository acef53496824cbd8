-- Texts that still stand in the table that was read, moved into the pool: what is fetched for a record by the place that it says, the
-- records once their texts stand one behind the other, and the buffer that holds both.
-- Assumes nothing.
use Rattle.std.specs.Prelude.{◌≡◌, Bool, cond, List, [], ◌∷◌, ◌++◌, ℕ, ◌+◌, ◌-◌, ◌*◌, ◌≤◌, ◌<◌, length, take, drop}
use Rattle.octets.specs.Bytes.{laid}
use Rattle.path.specs.Get.{path_text}
use Rattle.grammar.specs.Kinds.{row_of, row_in}
use Rattle.term.specs.declared.Record.{Record}
use Rattle.term.specs.Record.{records_of, text_at}
use Rattle.normal.specs.File.{start_of}
use Rattle.normal.specs.Writable.{Every}
use Rattle.repack.specs.Repack.{packed}
use Rattle.walk.specs.Calls.{is_path_text}

-- ── What is fetched
-- whether a kind's text is a path: only that has other bytes in a table than in a file
unfoldable pub has_path : ℕ → Bool
has_path kind = is_path_text (row_in (row_of kind)).text

unfoldable pub fetched : List ℕ → Record → List ℕ
fetched table r = cond (has_path r.kind) (path_text (drop r.start table)) (text_at table r.start r.len)

unfoldable pub fetched_all : List ℕ → List Record → List ℕ
fetched_all table [] = []
fetched_all table (r ∷ rs) = fetched table r ++ fetched_all table rs

-- ── The records: a record whose text is at this place of the pool, and all of them
unfoldable pub placed : Record → ℕ → Record
placed r at = record { kind = r.kind; a = r.a; kids = r.kids; x = r.x; start = start_of r.len at; len = r.len }

unfoldable pub moved : ℕ → List Record → List ℕ
moved at [] = []
moved at (r ∷ rs) = packed (placed r at) ++ moved (at + r.len) rs

-- ── The buffer: n records, what is between them and the texts, and the texts
unfoldable pub settled : List ℕ → ℕ → ℕ → ℕ → List ℕ → List ℕ
settled table n pool first out =
    moved first (records_of out 0 n)
    ++ (take (pool - 24 * n) (drop (24 * n) out)
    ++ laid (fetched_all table (records_of out 0 n)) (drop pool out))

-- a text is as long as its record says
abbrev pub AsLong : List ℕ → Record → Type 0
AsLong table r = length (fetched table r) ≡ r.len

-- what the buffer must have room for, and the pool's numbers 32 bits
pub record Settling (table : List ℕ) (n pool first : ℕ) (out : List ℕ) : Type 0 where
  pub few : n ≤ 65536
  pub front : 24 * n ≤ pool
  pub room : pool + length (fetched_all table (records_of out 0 n)) ≤ length out
  pub each : Every (AsLong table) (records_of out 0 n)
  pub small : first + length (fetched_all table (records_of out 0 n)) < 4294967296

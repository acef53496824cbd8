-- Records of 24 bytes and their texts: kind u16, `a` u16, child count u32, `x` u64, text start u32, text length u32.
-- Document 01, "The term file" (A record).
-- Assumes nothing.
use Rattle.std.specs.Prelude.{List, [], ◌∷◌, ℕ, zero, suc, ◌+◌, ◌-◌, ◌*◌, ◌/◌, length, take, drop}
use Rattle.octets.specs.Bytes.{le_at}
use Rattle.term.specs.File.{record_width}
use Rattle.term.specs.declared.Record.{Record}

-- record i of the section b
unfoldable pub record_at : List ℕ → ℕ → Record
record_at b i = record {
  kind = le_at 2 b (record_width * i);
  a = le_at 2 b (record_width * i + 2);
  kids = le_at 4 b (record_width * i + 4);
  x = le_at 8 b (record_width * i + 8);
  start = le_at 4 b (record_width * i + 16);
  len = le_at 4 b (record_width * i + 20);
}

-- n records from i on
unfoldable pub records_of : List ℕ → ℕ → ℕ → List Record
records_of b i zero = []
records_of b i (suc n) = record_at b i ∷ records_of b (suc i) n

-- the records from i to the section's end
unfoldable pub records_from : List ℕ → ℕ → List Record
records_from b i = records_of b i (length b / record_width - i)

-- a text in the pool; what lies outside is left out
unfoldable pub text_at : List ℕ → ℕ → ℕ → List ℕ
text_at pool start len = take len (drop start pool)

-- A descriptor's row as the numbers that the code holds: its head, which is everything before x, is one number with the low byte first.
-- Assumes nothing.
use Rattle.std.specs.Prelude.{Bool, ◌&&◌, ◌||◌, ℕ, ◌+◌, ◌-◌, ◌*◌, ◌^◌, eqb, leb, ltb, length}
use Rattle.octets.specs.Bytes.{every, is_byte, value}
use Rattle.descriptor.specs.Descriptor.{Row}
use Rattle.descriptor.specs.declared.Columns.{Columns}

unfoldable pub columns_of : Row → Columns
columns_of r = record {
  head = value r.tag + 256 ^ length r.tag * (256 ^ r.a * value r.constant);
  unit = 256 ^ length r.tag;
  width = length r.tag + (r.a + length r.constant);
  tail = r.x + r.zeros;
  alimit = r.a_most;
  xlimit = r.x_most;
  text = r.text;
  space = r.space;
  full = 256 ^ r.space - 1;
}

abbrev pub text_columns : ℕ → ℕ → ℕ → ℕ → Columns
text_columns head unit width text = record { head = head; unit = unit; width = width; tail = 0; alimit = 0; xlimit = 0; text = text; space = 0; full = 0 }

abbrev pub number_columns : ℕ → ℕ → ℕ → ℕ → ℕ → Columns
number_columns head width alimit tail xlimit =
    record { head = head; unit = 0x1000000; width = width; tail = tail; alimit = alimit; xlimit = xlimit; text = 0; space = 0; full = 0 }

abbrev pub space_columns : ℕ → ℕ → ℕ → Columns
space_columns head w full =
    record { head = head; unit = 0x1000000; width = 5; tail = 1 + w; alimit = 2; xlimit = 7; text = 3 * w; space = w; full = full }

-- the bytes of a descriptor whose text has the right length
unfoldable pub size_of : Row → ℕ
size_of r = (columns_of r).width + (columns_of r).tail + r.text + r.space

-- what every row keeps to: bytes are bytes, fields fit their bytes, heads fit a u64, and an address space's text is three of its numbers
unfoldable pub solid : Row → Bool
solid r =
    every is_byte r.tag && every is_byte r.constant && ltb r.a_most (256 ^ r.a) && ltb r.x_most (256 ^ r.x)
    && leb ((columns_of r).head + (columns_of r).unit * r.a_most) (256 ^ 5)
    && leb r.space 8 && (eqb r.space 0 || eqb r.text (3 * r.space)) && leb (size_of r) 46

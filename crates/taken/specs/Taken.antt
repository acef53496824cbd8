-- A term's text and numbers as they are read from a slice at a position: what the answers say, and the two steps by which they are
-- found, the length of the text and one number that holds both.
-- Assumes nothing.
use Rattle.std.specs.Prelude as rust
use Rattle.std.specs.Prelude.{◌≡◌, Bool, true, false, cond, ◌&&◌, Some, None, List, ℕ, ◌-◌, ◌/◌, ◌%◌, ◌≤◌, leb, length, drop}
use Rattle.std.proofs.Math.Option.{none, some}
use Rattle.octets.specs.Bytes.{Reader, ◌>>=◌, get_le}
use Rattle.number.specs.Get.{get_integer, get_pkg_length}
use Rattle.grammar.specs.declared.Text.{Text}
use Rattle.grammar.specs.declared.Numbers.{Numbers}
use Rattle.grammar.specs.declared.Numbers.TheVariants.{Digits, MethodFlags, LevelOrder, FieldFlags, IntegerX, LengthX}
use Rattle.grammar.specs.declared.Row.{Row}
use Rattle.fields.specs.Fields.{flags_fit}
use Rattle.fields.specs.Get.{get_text, get_fields}
use Rattle.taken.specs.declared.Fields as code

-- ── Both
-- text and numbers of the row's kind stand in b at `at`, the text is so long, and what is left begins at `next`
pub record Took (row : Row) (b : List ℕ) (at len a x next : ℕ) : Type 0 where
  pub text : List ℕ
  pub is : get_fields row (drop at b) ≡ some (record { text = text; a = a; x = x }, drop next b)
  pub size : len ≡ length text
  pub low : at ≤ next
  pub high : next ≤ length b

-- each case of the answer; a table in which `None` comes up is refused with 22
unfoldable pub takes_at : Row → List ℕ → ℕ → rust.Option code.Fields → Type 0
takes_at row b at (Some f) = Took row b at f.len f.a f.x f.next
takes_at row b at None = get_fields row (drop at b) ≡ none

pub record Takes (row : Row) (b : List ℕ) (at : ℕ) (r : rust.Option code.Fields) : Type 0 where
  pub says : takes_at row b at r

-- ── The text's length
unfoldable pub sized : Reader (List ℕ) → Reader ℕ
sized get bs = do
  (t, r) ← get bs
  some (length t, r)

unfoldable pub get_text_length : Text → Reader ℕ
get_text_length form = sized (get_text form)

-- ── The numbers: one number, and what it holds
unfoldable pub get_number : Numbers → Reader ℕ
get_number (Digits n base) = get_le n
get_number MethodFlags = get_le 1
get_number LevelOrder = get_le 3
get_number FieldFlags = get_le 1
get_number IntegerX = get_integer
get_number LengthX = get_pkg_length false

-- a and x, where the test passes
abbrev pub where_fit : Bool → ℕ → ℕ → rust.Option (ℕ × ℕ)
where_fit fit a x = cond fit (Some (a, x)) None

-- each held to its limit
abbrev pub up_to : ℕ → ℕ → ℕ → ℕ → rust.Option (ℕ × ℕ)
up_to alimit xlimit a x = where_fit (leb a alimit && leb x xlimit) a x

unfoldable pub parts_of : Numbers → ℕ → ℕ → ℕ → rust.Option (ℕ × ℕ)
parts_of (Digits n base) alimit xlimit w = where_fit (leb base w && leb (w - base) alimit) (w - base) 0
parts_of MethodFlags alimit xlimit w = up_to alimit xlimit (w % 8) (w / 8)
parts_of LevelOrder alimit xlimit w = up_to alimit xlimit (w / 256) (w % 256)
parts_of FieldFlags alimit xlimit w = where_fit (leb w alimit && flags_fit w) w 0
parts_of IntegerX alimit xlimit w = where_fit (leb w xlimit) 0 w
parts_of LengthX alimit xlimit w = where_fit (leb w xlimit) 0 w

-- the number has at most eight bytes
unfoldable pub short : Numbers → Bool
short (Digits n base) = leb n 8
short MethodFlags = true
short LevelOrder = true
short FieldFlags = true
short IntegerX = true
short LengthX = true

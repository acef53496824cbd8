-- A term's text and numbers as they are read, by the columns of its kind: strictly, the text first.
use Rattle.std.specs.Prelude.{false, ◌&&◌, cond, List, [], ◌∷◌, ℕ, ◌-◌, ◌/◌, ◌%◌, eqb, leb}
use Rattle.std.proofs.Math.Option.{none, some}
use Rattle.octets.specs.Bytes.{Reader, ◌>>=◌, need, cut, get_le}
use Rattle.number.specs.Get.{get_integer, get_pkg_length}
use Rattle.path.specs.Path.{segment}
use Rattle.path.specs.Get.{get_path_text}
use Rattle.grammar.specs.declared.Text.{Text}
use Rattle.grammar.specs.declared.Text.TheVariants.{Unused, PathText, SegmentText, Ascii, AnyBytes, EisaText, UuidText, DescriptorText}
use Rattle.grammar.specs.declared.Numbers.{Numbers}
use Rattle.grammar.specs.declared.Numbers.TheVariants.{Digits, MethodFlags, LevelOrder, FieldFlags, IntegerX, LengthX}
use Rattle.grammar.specs.declared.Row.{Row}
use Rattle.grammar.specs.Forest.{Fields}
use Rattle.fields.specs.Fields.{flags_fit}

-- a string up to its 00
unfoldable pub get_string : Reader (List ℕ)
get_string [] = none
get_string (b ∷ bs) = cond (eqb b 0) (some ([], bs)) (need (leb b 127) (do
  (t, r) ← get_string bs
  some (b ∷ t, r)))

unfoldable pub get_segment : Reader (List ℕ)
get_segment bs = do
  (t, r) ← cut 4 bs
  need (segment t) (some (t, r))

-- a buffer's text goes to the end of its body; the last three are never read as they stand
unfoldable pub get_text : Text → Reader (List ℕ)
get_text Unused bs = some ([], bs)
get_text PathText bs = get_path_text bs
get_text SegmentText bs = get_segment bs
get_text Ascii bs = get_string bs
get_text AnyBytes bs = some (bs, [])
get_text EisaText bs = none
get_text UuidText bs = none
get_text DescriptorText bs = none

-- a and x, each up to its limit; level and order are read as one number
unfoldable pub get_form : Numbers → ℕ → ℕ → Reader (ℕ × ℕ)
get_form (Digits n base) alimit xlimit bs = do
  (w, r) ← get_le n bs
  need (leb base w && leb (w - base) alimit) (some ((w - base, 0), r))
get_form MethodFlags alimit xlimit bs = do
  (w, r) ← get_le 1 bs
  need (leb (w % 8) alimit && leb (w / 8) xlimit) (some ((w % 8, w / 8), r))
get_form LevelOrder alimit xlimit bs = do
  (w, r) ← get_le 3 bs
  need (leb (w / 256) alimit && leb (w % 256) xlimit) (some ((w / 256, w % 256), r))
get_form FieldFlags alimit xlimit bs = do
  (a, r) ← get_le 1 bs
  need (leb a alimit && flags_fit a) (some ((a, 0), r))
get_form IntegerX alimit xlimit bs = do
  (x, r) ← get_integer bs
  need (leb x xlimit) (some ((0, x), r))
get_form LengthX alimit xlimit bs = do
  (x, r) ← get_pkg_length false bs
  need (leb x xlimit) (some ((0, x), r))

unfoldable pub get_fields : Row → Reader Fields
get_fields r bs = do
  (t, y) ← get_text r.text bs
  ((a, x), z) ← get_form r.numbers r.alimit r.xlimit y
  some (record { text = t; a = a; x = x }, z)

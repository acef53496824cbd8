-- How the code holds the rows: a number a row, whose digits are its columns, the last of which names two numbers more. PackedLaws ties
-- the code's numbers to the table of kinds. Assumes nothing.
use Rattle.std.specs.Prelude.{cond, List, [], ◌∷◌, ℕ, suc, ◌/◌, ◌%◌, ◌^◌, ◌+◌, eqb, get_or}
use Rattle.grammar.specs.declared.Place.{Place}
use Rattle.grammar.specs.declared.Place.TheVariants.{InList, Operand, Datum, Element, FieldEntry, Descriptor}
use Rattle.grammar.specs.declared.Places.{Places}
use Rattle.grammar.specs.declared.Places.TheVariants.{Lists, ListsOperands, Names, Operands, Data, FieldEntries, Descriptors}
use Rattle.grammar.specs.declared.Text.{Text}
use Rattle.grammar.specs.declared.Text.TheVariants.{Unused, PathText, SegmentText, Ascii, AnyBytes, EisaText, UuidText, DescriptorText}
use Rattle.grammar.specs.declared.Numbers.{Numbers}
use Rattle.grammar.specs.declared.Numbers.TheVariants.{Digits, MethodFlags, LevelOrder, FieldFlags, IntegerX, LengthX}
use Rattle.grammar.specs.declared.Rest.{Rest}
use Rattle.grammar.specs.declared.Rest.TheVariants.{Nothing, Arity, Listed, Counted, Measured}
use Rattle.grammar.specs.declared.Row.{Row}
use Rattle.grammar.specs.Kinds.{kinds, no_row}

unfoldable pub place_of : ℕ → Place
place_of c = cond (eqb c 1) Operand (cond (eqb c 2) Datum (cond (eqb c 3) Element (cond (eqb c 4) FieldEntry (cond (eqb c 5) Descriptor InList))))

unfoldable pub places_of : ℕ → Places
places_of c = cond (eqb c 1) ListsOperands (cond (eqb c 2) Names (cond (eqb c 3) Operands (cond (eqb c 4) Data (cond (eqb c 5) FieldEntries (cond (eqb c 6) Descriptors Lists)))))

unfoldable pub text_of : ℕ → Text
text_of c = cond (eqb c 1) PathText (cond (eqb c 2) SegmentText (cond (eqb c 3) Ascii (cond (eqb c 4) AnyBytes (cond (eqb c 5) EisaText (cond (eqb c 6) UuidText (cond (eqb c 7) DescriptorText Unused))))))

unfoldable pub rest_of : ℕ → Rest
rest_of c = cond (eqb c 1) Arity (cond (eqb c 2) Listed (cond (eqb c 3) Counted (cond (eqb c 4) Measured Nothing)))

unfoldable pub numbers_of : ℕ → ℕ → ℕ → Numbers
numbers_of c width base =
    cond (eqb c 1) MethodFlags (cond (eqb c 2) LevelOrder (cond (eqb c 3) FieldFlags (cond (eqb c 4) IntegerX (cond (eqb c 5) LengthX (Digits width base)))))

-- the number of which a list says that it stands at j, where the list begins at i; 0 is none
unfoldable pub entry : List ℕ → ℕ → ℕ → ℕ
entry [] i j = 0
entry (w ∷ ws) i j = cond (eqb j i) w (entry ws (suc i) j)

-- the rows, in the order of the table of kinds
unfoldable pub words : List ℕ
words =
    0x2281000210008 ∷ 0x11400410010 ∷ 0x116096E5B82 ∷ 0x40011400510014 ∷ 0x800116116E5B84 ∷ 0xC41116056E5B81
    ∷ 0x1014412016E5B80 ∷ 0x1410410056E5B01 ∷ 0x18904108D6E5B23 ∷ 0x104109D6E5B27 ∷ 0x164184D6E5B13 ∷ 0x144180229008A
    ∷ 0x14418023D008F ∷ 0x2504028100A0 ∷ 0x2504028900A2 ∷ 0x504028500A1 ∷ 0x12400029100A4 ∷ 0x1440002190086
    ∷ 0x9440001C10070 ∷ 0x92400020D0083 ∷ 0x92400021D0087 ∷ 0x924000239008E ∷ 0x94400024D0093 ∷ 0x9440002510094
    ∷ 0x9440002550095 ∷ 0x944024E4A9293 ∷ 0x94402524A9294 ∷ 0x94402564A9295 ∷ 0x9440002590096 ∷ 0x9440002650099
    ∷ 0x9640001C90072 ∷ 0x9640001CD0073 ∷ 0x9640001D10074 ∷ 0x9640001DD0077 ∷ 0x9640001E50079 ∷ 0x9640001E9007A
    ∷ 0x9640001ED007B ∷ 0x9640001F1007C ∷ 0x9640001F5007D ∷ 0x9640001F9007E ∷ 0x9640001FD007F ∷ 0x9640002110084
    ∷ 0x9640002150085 ∷ 0x9640002210088 ∷ 0x964000271009C ∷ 0x984000279009E ∷ 0x1104900000002E ∷ 0x1D9040000000060
    ∷ 0x219040000000068 ∷ 0x26104000000000E ∷ 0x21040003FD00FF ∷ 0x2104300035000D ∷ 0x21244C00450011 ∷ 0x23058C00490012
    ∷ 0x21240C004D0013 ∷ 0x2A904000001F000 ∷ 0x2A904200000F001 ∷ 0x2104500000E001 ∷ 0x2104600000E002 ∷ 0x25060C0045E003
    ∷ 0x2F104700000E047 ∷ 0x2F104700000E082 ∷ 0x2F104700000E086 ∷ 0x2F104700000E089 ∷ 0x2F104700000E088 ∷ 0x2F104700000E087
    ∷ 0x2F104700000E08A ∷ []

-- the forms of numbers with the limit of a, and the limits of x, of the rows that have any; rows name them from 1 on
unfoldable pub seconds : List ℕ
seconds =
    0xE001 ∷ 0x1FFFE002 ∷ 0x1FE003 ∷ 0x12008 ∷ 0x1E008 ∷ 0x1FFFE010
    ∷ 0xEC08 ∷ 0xCD08 ∷ 0x4 ∷ 0x5 ∷ 0x1FFFE000 ∷ []

unfoldable pub thirds : List ℕ
thirds =
    0x1 ∷ 0xFF ∷ 0x0 ∷ 0x0 ∷ 0x0 ∷ 0x0
    ∷ 0x0 ∷ 0x0 ∷ 0xFFFFFFFFFFFFFFFF ∷ 0xFFFFFFF ∷ 0xFFFFFFFFFFFFFFFF ∷ []

-- the columns of a row: kind, opcode, whether boxed, whether fields are last, text, children and places; numbers and the limits
unfoldable pub unpack : ℕ → Row
unpack w =
    let v = entry seconds 1 (w / 2 ^ 54) in
    record {
      kind = w % 65536;
      ops = w / 2 ^ 16 % 4;
      op = w / 2 ^ 18 % 65536;
      boxed = eqb (w / 2 ^ 34 % 2) 1;
      text = text_of (w / 2 ^ 36 % 8);
      numbers = numbers_of (v % 8) (v / 8 % 4) (v / 32 % 256);
      alimit = v / 8192;
      xlimit = entry thirds 1 (w / 2 ^ 54);
      last = eqb (w / 2 ^ 35 % 2) 1;
      operands = w / 2 ^ 45 % 8;
      operand = place_of (w / 2 ^ 42 % 8);
      rest = rest_of (w / 2 ^ 39 % 8);
      place = place_of (w / 2 ^ 48 % 8);
      places = places_of (w / 2 ^ 51 % 8);
    }

-- where the kind stands in the table; behind its end, if it is not known
unfoldable pub position : ℕ → List Row → ℕ
position k [] = 0
position k (r ∷ rs) = cond (eqb k r.kind) 0 (1 + position k rs)

-- the row at a place of the table
abbrev pub row_at : ℕ → Row
row_at j = get_or kinds j no_row

-- The kinds of terms, as rows of one table: checker, encoder, reader and lister read the same rows, and the code holds the same list.
-- Document 01, "Kinds" and "Bytes"; ACPI 6.4, 20.2.5 (Term Objects Encoding) and 20.3 (AML Byte Stream Byte Values).
-- Assumes nothing.
use Rattle.std.specs.Prelude.{Bool, true, false, ◌||◌, cond, List, [], ◌∷◌, ◌++◌, map, ℕ, ◌-◌, ◌/◌, ◌%◌, ◌^◌, eqb, ltb, leb, length}
use Rattle.std.proofs.Math.Option.{Option, none, some}
use Rattle.octets.specs.Bytes.{le, value}
use Rattle.grammar.specs.declared.Place.{Place}
use Rattle.grammar.specs.declared.Place.TheVariants.{InList, Operand, Datum, Element, FieldEntry, Descriptor}
use Rattle.grammar.specs.declared.Places.{Places}
use Rattle.grammar.specs.declared.Places.TheVariants.{Lists, ListsOperands, Names, Operands, Data, FieldEntries, Descriptors}
use Rattle.grammar.specs.declared.Text.{Text}
use Rattle.grammar.specs.declared.Text.TheVariants.{Unused, PathText, SegmentText, Ascii, AnyBytes, EisaText, UuidText, DescriptorText}
use Rattle.grammar.specs.declared.Numbers.{Numbers}
use Rattle.grammar.specs.declared.Numbers.TheVariants.{Digits, MethodFlags, LevelOrder, FieldFlags, IntegerX, LengthX}
use Rattle.grammar.specs.declared.Rest.{Rest}
use Rattle.grammar.specs.declared.Rest.TheVariants.{Nothing, Arity, Listed, Counted, Measured}
use Rattle.grammar.specs.declared.Row.{Row}

-- ── Places
-- where a kind may stand: a list (L), an operand or target (V), data (D). Data may be an operand and a package's element;
-- a name may be an element too, in which place it has no children
unfoldable pub rank : Place → ℕ
rank InList = 0
rank Operand = 1
rank Datum = 2
rank Element = 3
rank FieldEntry = 4
rank Descriptor = 5

unfoldable pub is : Place → Place → Bool
is p q = eqb (rank p) (rank q)

unfoldable pub stands : Places → Place → Bool
stands Lists p = is p InList
stands ListsOperands p = is p InList || is p Operand
stands Names p = is p InList || is p Operand || is p Element
stands Operands p = is p Operand
stands Data p = is p Operand || is p Datum || is p Element
stands FieldEntries p = is p FieldEntry
stands Descriptors p = is p Descriptor

-- the place of child j: an operand's, or that of the children behind the operands
unfoldable pub child_place : Row → ℕ → Place
child_place r j = cond (ltb j r.operands) r.operand r.place

-- ── Children
-- the number of children: the operands, and behind them what the kind has there
unfoldable pub counts : Rest → ℕ → ℕ → ℕ → Bool
counts Nothing operands args n = eqb n operands
counts Arity operands args n = eqb n args
counts Listed operands args n = leb operands n
counts Counted operands args n = leb n 255
counts Measured operands args n = true

-- as a package's element a name has no children, whatever its arity
unfoldable pub args_at : Place → ℕ → ℕ
args_at place args = cond (is place Element) 0 args

-- ── Opcodes
-- a kind is its opcode: one byte, or two, the high one first
abbrev pub opcode_of : ℕ → List ℕ
opcode_of k = cond (ltb k 256) (k ∷ []) (k / 256 ∷ k % 256 ∷ [])

-- a row holds it as a number of so many bytes
unfoldable pub opcode : Row → List ℕ
opcode r = le r.ops r.op

-- ── Rows by what is written, in the order in which it is written
abbrev pub row : ℕ → List ℕ → Bool → Text → Numbers → ℕ → ℕ → Bool → ℕ → Place → Rest → Place → Places → Row
row kind op boxed text numbers alimit xlimit last operands operand rest place places = record {
  kind = kind;
  ops = length op;
  op = value op;
  boxed = boxed;
  text = text;
  numbers = numbers;
  alimit = alimit;
  xlimit = xlimit;
  last = last;
  operands = operands;
  operand = operand;
  rest = rest;
  place = place;
  places = places;
}

abbrev pub no_numbers : Numbers
no_numbers = Digits 0 0

-- opcode, path, numbers, n children in a place
abbrev pub named : ℕ → Numbers → ℕ → ℕ → Place → Places → Row
named k numbers alimit n p places = row k (opcode_of k) false PathText numbers alimit 0 false n p Nothing p places

-- opcode, length, path, numbers, a list in a place
abbrev pub scope : ℕ → Numbers → ℕ → ℕ → Place → Row
scope k numbers alimit xlimit p = row k (opcode_of k) true PathText numbers alimit xlimit false 0 p Listed p Lists

-- opcode, n operands, path
abbrev pub create_field : ℕ → ℕ → Row
create_field k n = row k (opcode_of k) false PathText no_numbers 0 0 true n Operand Nothing Operand Lists

-- opcode, length, n operands, a list
abbrev pub block : ℕ → ℕ → Row
block k n = row k (opcode_of k) true Unused no_numbers 0 0 false n Operand Listed InList Lists

-- opcode, n operands
abbrev pub operator : ℕ → Places → ℕ → Row
operator n places k = row k (opcode_of k) false Unused no_numbers 0 0 false n Operand Nothing Operand places

-- text and numbers, with no opcode before them, or with one
abbrev pub plain : ℕ → Text → Numbers → ℕ → ℕ → Places → Row
plain k text numbers alimit xlimit places = row k [] false text numbers alimit xlimit false 0 Operand Nothing Operand places

abbrev pub marked : ℕ → Text → Numbers → ℕ → Places → Row
marked k text numbers xlimit places = row k (k % 256 ∷ []) false text numbers 0 xlimit false 0 Operand Nothing Operand places

-- opcode, length, n operands, the other children, text
abbrev pub container : ℕ → ℕ → ℕ → Rest → Place → Text → Row
container k op n rest p text = row k (op ∷ []) true text no_numbers 0 0 true n Operand rest p Data

-- path, then as many operands as its arity
abbrev pub name_or_call : ℕ → Row
name_or_call k = record {
  kind = k;
  ops = 0;
  op = 0;
  boxed = false;
  text = PathText;
  numbers = no_numbers;
  alimit = 0;
  xlimit = 0;
  last = false;
  operands = 0;
  operand = Operand;
  rest = Arity;
  place = Operand;
  places = Names;
}

-- ── The table, in document 01's order
unfoldable pub normal_kinds : List Row
normal_kinds =
    named 0x08 no_numbers 0 1 Datum Lists
    ∷ scope 0x10 no_numbers 0 0 InList
    ∷ scope 0x5B82 no_numbers 0 0 InList
    ∷ scope 0x14 MethodFlags 7 1 InList
    ∷ scope 0x5B84 LevelOrder 65535 255 InList
    ∷ scope 0x5B81 FieldFlags 255 0 FieldEntry
    ∷ named 0x5B80 (Digits 1 0) 9 2 Operand Lists
    ∷ named 0x5B01 (Digits 1 0) 15 0 Operand Lists
    ∷ named 0x5B23 (Digits 2 0) 65535 0 Operand ListsOperands
    ∷ named 0x5B27 no_numbers 0 0 Operand Lists
    ∷ create_field 0x5B13 3
    ∷ create_field 0x8A 2
    ∷ create_field 0x8F 2
    ∷ block 0xA0 1
    ∷ block 0xA2 1
    ∷ block 0xA1 0
    ∷ operator 1 Lists 0xA4
    ∷ operator 2 Lists 0x86
    ∷ operator 2 ListsOperands 0x70
    ∷ (map (operator 1 ListsOperands) (0x83 ∷ 0x87 ∷ 0x8E ∷ [])
    ++ (map (operator 2 ListsOperands) (0x93 ∷ 0x94 ∷ 0x95 ∷ 0x9293 ∷ 0x9294 ∷ 0x9295 ∷ 0x96 ∷ 0x99 ∷ [])
    ++ (map (operator 3 ListsOperands) (0x72 ∷ 0x73 ∷ 0x74 ∷ 0x77 ∷ 0x79 ∷ 0x7A ∷ 0x7B ∷ 0x7C ∷ 0x7D ∷ 0x7E ∷ 0x7F ∷ 0x84 ∷ 0x85 ∷ 0x88 ∷ 0x9C ∷ [])
    ++ (operator 4 ListsOperands 0x9E
    ∷ name_or_call 0x2E
    ∷ plain 0x60 Unused (Digits 1 0x60) 7 0 Operands
    ∷ plain 0x68 Unused (Digits 1 0x68) 6 0 Operands
    ∷ plain 0x0E Unused IntegerX 0 (2 ^ 64 - 1) Data
    ∷ marked 0xFF Unused no_numbers 0 Data
    ∷ marked 0x0D Ascii no_numbers 0 Data
    ∷ container 0x11 0x11 1 Nothing Operand AnyBytes
    ∷ container 0x12 0x12 0 Counted Element Unused
    ∷ container 0x13 0x13 1 Nothing Operand Unused
    ∷ marked 0xF000 Unused LengthX 268435455 FieldEntries
    ∷ plain 0xF001 SegmentText LengthX 0 268435455 FieldEntries
    ∷ []))))

-- other ways to write an integer or a buffer, and the descriptors of a template, whose fields have rows of their own
unfoldable pub other_kinds : List Row
other_kinds =
    plain 0xE001 EisaText no_numbers 0 0 Data
    ∷ plain 0xE002 UuidText no_numbers 0 0 Data
    ∷ container 0xE003 0x11 0 Measured Descriptor Unused
    ∷ map (λ k. plain k DescriptorText no_numbers 65535 (2 ^ 64 - 1) Descriptors) (0xE047 ∷ 0xE082 ∷ 0xE086 ∷ 0xE089 ∷ 0xE088 ∷ 0xE087 ∷ 0xE08A ∷ [])

unfoldable pub kinds : List Row
kinds = normal_kinds ++ other_kinds

-- the row of a kind, if it is known
unfoldable pub find : ℕ → List Row → Option Row
find k [] = none
find k (r ∷ rs) = cond (eqb k r.kind) (some r) (find k rs)

unfoldable pub row_of : ℕ → Option Row
row_of k = find k kinds

-- what stands where there is no row
abbrev pub no_row : Row
no_row = row 0 [] false Unused no_numbers 0 0 false 0 InList Nothing InList Lists

-- the row of a kind that is known
unfoldable pub row_in : Option Row → Row
row_in none = no_row
row_in (some r) = r

-- Resource descriptors, which stand only inside a resource template: a row for each kind, what its fields may be, and its bytes.
-- Document 01, "Kinds" (Descriptors) and "Bytes" (Template); ACPI 6.4, 6.4.2.5 (IO), 6.4.3.4 (Memory32Fixed), 6.4.3.5 (address spaces),
-- 6.4.3.6 (Interrupt), 6.4.3.7 (Register).
-- Assumes nothing.
use Rattle.std.specs.Prelude.{Bool, true, ◌&&◌, cond, List, [], ◌∷◌, ◌++◌, ℕ, ◌+◌, ◌-◌, ◌*◌, ◌^◌, eqb, leb, ltb, length}
use Rattle.octets.specs.Bytes.{le, le_at}

-- A descriptor's bytes, in written order: its tag and length; `a`; a constant; `x`; zeros; the text; the length of the range in the text.
pub record Row : Type 0 where
  pub tag : List ℕ  -- the tag, and the length of what follows it
  pub a : ℕ  -- so many bytes of a
  pub a_most : ℕ  -- which is at most this
  pub constant : List ℕ
  pub x : ℕ  -- so many bytes of x
  pub x_most : ℕ  -- which is at most this
  pub zeros : ℕ  -- so many zeros
  pub text : ℕ  -- a text of this length
  pub space : ℕ  -- of an address space: the bytes of each of its numbers; else 0

-- the tag, then the text alone
abbrev pub text_row : List ℕ → ℕ → Row
text_row tag n = record { tag = tag; a = 0; a_most = 0; constant = []; x = 0; x_most = 0; zeros = 0; text = n; space = 0 }

-- the tag, then a, a constant and x
abbrev pub number_row : List ℕ → ℕ → List ℕ → ℕ → Row
number_row tag a_most constant x = record { tag = tag; a = 1; a_most = a_most; constant = constant; x = x; x_most = 256 ^ x - 1; zeros = 0; text = 0; space = 0 }

-- an address space of w bytes: 3 bytes and 5 numbers follow the length. Type, 0C (both ends fixed), type flags;
-- then 0, min, max, translation and max - min + 1
abbrev pub space_row : ℕ → ℕ → Row
space_row tag w = record {
  tag = tag ∷ (3 + 5 * w) ∷ 0x00 ∷ [];
  a = 1;
  a_most = 2;
  constant = 0x0C ∷ [];
  x = 1;
  x_most = 7;
  zeros = w;
  text = 3 * w;
  space = w;
}

-- x of E086 is base + 2^32 times length: its low four bytes are the base and its high four the length, as in 86 09 00, a, base, length.
-- No other kind is a descriptor
unfoldable pub row_of : ℕ → Row
row_of kind =
    cond (eqb kind 0xE047) (text_row (0x47 ∷ 0x01 ∷ []) 6)
    (cond (eqb kind 0xE082) (text_row (0x82 ∷ 0x0C ∷ 0x00 ∷ []) 12)
    (cond (eqb kind 0xE086) (number_row (0x86 ∷ 0x09 ∷ 0x00 ∷ []) 1 [] 8)
    (cond (eqb kind 0xE089) (number_row (0x89 ∷ 0x06 ∷ 0x00 ∷ []) 15 (0x01 ∷ []) 4)
    (cond (eqb kind 0xE088) (space_row 0x88 2)
    (cond (eqb kind 0xE087) (space_row 0x87 4)
    (cond (eqb kind 0xE08A) (space_row 0x8A 8)
    (text_row [] 0)))))))

-- ── The numbers of an address space of w bytes
abbrev pub min_of : ℕ → List ℕ → ℕ
min_of w text = le_at w text 0

abbrev pub max_of : ℕ → List ℕ → ℕ
max_of w text = le_at w text w

abbrev pub translation_of : ℕ → List ℕ → ℕ
translation_of w text = le_at w text (w + w)

unfoldable pub range_length : ℕ → List ℕ → ℕ
range_length w text = max_of w text - min_of w text + 1

-- type flags: memory 0-7, IO 3, bus 0
unfoldable pub flags_fit : ℕ → ℕ → Bool
flags_fit a x = cond (eqb a 0) (leb x 7) (cond (eqb a 1) (eqb x 3) (eqb x 0))

-- max is at least min, max - min + 1 fits the width, and a bus has no translation
unfoldable pub range_fits : ℕ → ℕ → List ℕ → Bool
range_fits w a text =
    leb (min_of w text) (max_of w text) && ltb (range_length w text) (256 ^ w)
    && cond (eqb a 2) (eqb (translation_of w text) 0) true

-- ── What the fields may be
-- a text of the right length: else 6
unfoldable pub spelled : Row → List ℕ → Bool
spelled r text = eqb (length text) r.text

-- a text that is not used is empty
unfoldable pub unused_fits : ℕ → List ℕ → Bool
unused_fits n text = cond (eqb n 0) (eqb (length text) 0) true

-- the values in an address space's text of wrong length are not looked at
unfoldable pub space_fits : ℕ → List ℕ → ℕ → ℕ → Bool
space_fits w text a x = flags_fit a x && cond (eqb (length text) (3 * w)) (range_fits w a text) true

-- fields in their ranges: else 5, which is given before 6
unfoldable pub in_range : Row → List ℕ → ℕ → ℕ → Bool
in_range r text a x =
    leb a r.a_most && leb x r.x_most && unused_fits r.text text
    && cond (eqb r.space 0) true (space_fits r.space text a x)

-- ── The bytes
unfoldable pub descriptor : Row → List ℕ → ℕ → ℕ → List ℕ
descriptor r text a x =
    r.tag ++ (le r.a a ++ (r.constant ++ (le r.x x ++ (le r.zeros 0 ++ (text ++ le r.space (range_length r.space text))))))

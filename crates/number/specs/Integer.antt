-- Integers: 0 is 00, 1 is 01; else the shortest of 0A, 0B, 0C, 0E with 1, 2, 4, 8 bytes.
-- Document 01, "Bytes" (Integer); ACPI 6.4, 20.2.3 (ZeroOp, OneOp, ByteConst, WordConst, DWordConst, QWordConst).
-- Assumes nothing.
use Rattle.std.specs.Prelude.{cond, List, [], ◌∷◌, ℕ, eqb, ltb}
use Rattle.octets.specs.Bytes.{le}

-- the bytes of the shortest form that holds x
unfoldable pub width : ℕ → ℕ
width x = cond (ltb x 256) 1 (cond (ltb x 65536) 2 (cond (ltb x 4294967296) 4 8))

-- what stands before a number of w bytes
unfoldable pub prefix : ℕ → ℕ
prefix w = cond (eqb w 1) 0x0A (cond (eqb w 2) 0x0B (cond (eqb w 4) 0x0C 0x0E))

unfoldable pub integer : ℕ → List ℕ
integer x = cond (ltb x 2) (x ∷ []) (prefix (width x) ∷ le (width x) x)

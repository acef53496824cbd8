-- What stands in a body with its length in front: an opcode, the PkgLength of the body, the body; and a buffer of given bytes.
-- Document 01, "Bytes" (PkgLength, UUID, Template); ACPI 6.4, 20.2.5.4 (DefBuffer, DefPackage).
-- Assumes nothing.
use Rattle.std.specs.Prelude.{List, ◌∷◌, ◌++◌, ℕ, ◌+◌, length}
use Rattle.number.specs.Integer.{integer}
use Rattle.number.specs.PkgLength.{pkg_length}

unfoldable pub boxed : ℕ → List ℕ → List ℕ
boxed op body = op ∷ (pkg_length (length body) ++ body)

-- a buffer whose size is the number of its bytes
unfoldable pub buffer : List ℕ → List ℕ
buffer bs = boxed 0x11 (integer (length bs) ++ bs)

-- what stands before its n bytes
unfoldable pub buffer_front : ℕ → List ℕ
buffer_front n = 0x11 ∷ (pkg_length (length (integer n) + n) ++ integer n)

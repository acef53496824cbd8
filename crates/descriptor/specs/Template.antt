-- The end of a resource template: the end tag, whose checksum byte is 0, which is always valid.
-- Document 01, "Bytes" (Template); ACPI 6.4, 6.4.2.9 (End Tag) and 19.6 (ResourceTemplate).
use Rattle.std.specs.Prelude.{List, [], ◌∷◌, ℕ}

abbrev pub end_tag : List ℕ
end_tag = 0x79 ∷ 0x00 ∷ []

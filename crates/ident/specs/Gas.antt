-- Generic addresses: where a register stands, and how wide it is accessed.
-- Document 01, "The growing table" (GAS makers); ACPI 6.4, 5.2.3.2 (Generic Address Structure). `GenericAddress` of the crate.
-- Assumes nothing.
use Rattle.std.specs.Prelude.{cond, ℕ, ◌*◌, eqb, Result, Ok, Err}
use Rattle.refusal.specs.declared.Refusal.{Refusal}
use Rattle.refusal.specs.Number.{number}
use Rattle.ident.specs.declared.GenericAddress.{GenericAddress}
use Rattle.ident.specs.declared.AddressSpace.{AddressSpace}
use Rattle.ident.specs.declared.AddressSpace.TheVariants as space

-- a refusal's number, which is 0 where there is none, and the address
pub record Made : Type 0 where
  pub number : ℕ
  pub address : GenericAddress

abbrev pub space_id : AddressSpace → ℕ
space_id space.SystemMemory = 0
space_id space.SystemIo = 1

-- 1, 2, 4, 8 bytes are access size 1 to 4; other widths have none
unfoldable pub access_size : ℕ → ℕ
access_size width = cond (eqb width 1) 1 (cond (eqb width 2) 2 (cond (eqb width 4) 3 (cond (eqb width 8) 4 0)))

unfoldable pub gas : ℕ → ℕ → ℕ → GenericAddress
gas space width at = record {
  address_space_id = space;
  register_bit_width = 8 * width;
  register_bit_offset = 0;
  access_size = access_size width;
  address = at;
}

-- other widths are 5, with all fields 0
unfoldable pub made : ℕ → ℕ → ℕ → Made
made space width at =
    cond (eqb (access_size width) 0)
    (record { number = 5; address = gas 0 0 0 })
    (record { number = 0; address = gas space width at })

-- what the makers answer, in document 01's numbers
unfoldable pub answered : Result GenericAddress Refusal → Made
answered (Ok a) = record { number = 0; address = a }
answered (Err r) = record { number = number r; address = gas 0 0 0 }

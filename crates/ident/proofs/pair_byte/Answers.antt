-- `ident::pair_byte` meets its contract: two digits make a byte. Assumes nothing.
use native.Mathlib.Numerals.{add-one}
use Rattle.octets.specs.Tests.{and_left, and_right}
use Rattle.ident.specs.Ident.{is_hex, char}
use Rattle.ident.proofs.pair_byte.Goals as goal

pub hex_digit-requires : goal.hex_digit-requires
hex_digit-requires c = and_left (is_hex (char c.args.t.now c.args.i)) _ c.requires.1

pub hex_digit-requires-2 : goal.hex_digit-requires-2
hex_digit-requires-2 c = rw (add-one c.args.i) (and_right (is_hex (char c.args.t.now c.args.i)) _ c.requires.1)

pub returns : goal.returns
returns c = cc (add-one c.args.i)

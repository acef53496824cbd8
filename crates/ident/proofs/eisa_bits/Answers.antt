-- `ident::eisa_bits` meets its contract: the letters' bits and four digits below them. Assumes nothing.
use native.Mathlib.Omega.{arith}
use borrow.Author.Rules.{rules}
use Rattle.ident.specs.Ident.{eisa_bits}
use Rattle.ident.specs.IdentLaws.{eisa-length, digit_at_lem}
use Rattle.ident.proofs.eisa_bits.Goals as goal

pub bounds-t-3 : goal.bounds-t-3
unfolding eisa_bits
bounds-t-3 c = omega (arith, eisa-length c.args.t.now c.requires)

pub hex_digit-requires : goal.hex_digit-requires
unfolding eisa_bits
hex_digit-requires c = digit_at_lem c.args.t.now c.requires 3 (omega arith) (omega arith)

pub bounds-t-4 : goal.bounds-t-4
unfolding eisa_bits
bounds-t-4 c = omega (arith, eisa-length c.args.t.now c.requires)

pub hex_digit-requires-2 : goal.hex_digit-requires-2
unfolding eisa_bits
hex_digit-requires-2 c = digit_at_lem c.args.t.now c.requires 4 (omega arith) (omega arith)

pub bounds-t-5 : goal.bounds-t-5
unfolding eisa_bits
bounds-t-5 c = omega (arith, eisa-length c.args.t.now c.requires)

pub hex_digit-requires-3 : goal.hex_digit-requires-3
unfolding eisa_bits
hex_digit-requires-3 c = digit_at_lem c.args.t.now c.requires 5 (omega arith) (omega arith)

pub bounds-t-6 : goal.bounds-t-6
unfolding eisa_bits
bounds-t-6 c = omega (arith, eisa-length c.args.t.now c.requires)

pub hex_digit-requires-4 : goal.hex_digit-requires-4
unfolding eisa_bits
hex_digit-requires-4 c = digit_at_lem c.args.t.now c.requires 6 (omega arith) (omega arith)

pub returns : goal.returns
unfolding eisa_bits
returns c = search rules

-- `ident::letter_bits` meets its contract: three letters, which fit their bits. Assumes nothing.
use native.Mathlib.Omega.{arith}
use Rattle.ident.specs.IdentLaws.{eisa-length, letter_at}
use Rattle.ident.proofs.letter_bits.Goals as goal

pub bounds-t-0 : goal.bounds-t-0
bounds-t-0 c = omega (arith, eisa-length c.args.t.now c.requires)

pub letter-requires : goal.letter-requires
letter-requires c = letter_at c.args.t.now c.requires 0 (omega arith)

pub bounds-t-1 : goal.bounds-t-1
bounds-t-1 c = omega (arith, eisa-length c.args.t.now c.requires)

pub letter-requires-2 : goal.letter-requires-2
letter-requires-2 c = letter_at c.args.t.now c.requires 1 (omega arith)

pub bounds-t-2 : goal.bounds-t-2
bounds-t-2 c = omega (arith, eisa-length c.args.t.now c.requires)

pub letter-requires-3 : goal.letter-requires-3
letter-requires-3 c = letter_at c.args.t.now c.requires 2 (omega arith)

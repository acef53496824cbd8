-- `described::put` lends a number enough room. Assumes nothing.
use Rattle.std.proofs.Common.{arith}
use Rattle.octets.specs.Laws.{le-length}
use Rattle.described.proofs.put.Goals as goal

pub put_le-requires : goal.put_le-requires
put_le-requires c = simp (le-length) (omega arith)

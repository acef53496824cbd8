-- `leaves_main::integer` lends an integer enough room. Assumes nothing.
use Rattle.std.proofs.Common.{arith}
use Rattle.number.specs.IntegerLaws.{integer-most}
use Rattle.leaves_main.proofs.integer.Goals as goal

pub put_int-n-requires : goal.put_int-n-requires
put_int-n-requires c = omega (arith, integer-most c.args.x)

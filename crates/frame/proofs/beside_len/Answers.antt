-- `frame::beside_len` meets its contract. Assumes nothing.
use Rattle.std.proofs.Common.{arith}
use Rattle.frame.specs.FrameLaws.{front-most, back-most}
use Rattle.frame.proofs.beside_len.Goals as goal

pub overflow_add-result : goal.overflow_add-result
overflow_add-result c =
    omega (arith, c.front_len.ensures, c.back_len.ensures, front-most c.args.rest c.args.n c.args.size, back-most c.args.rest)

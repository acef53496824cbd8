-- `number::int_len` meets its contract: one byte, or a prefix and the width. Assumes nothing.
use Rattle.std.proofs.Common.{sym, ap, arith, length}
use Rattle.number.specs.IntegerLaws.{width-most, integer-short, integer-length}
use Rattle.number.proofs.int_len.Goals as goal

pub returns-then-x-lt2 : goal.returns-then-x-lt2
returns-then-x-lt2 c = sym (ap length (integer-short _ c.if-x-lt2.true))

pub overflow_add-result : goal.overflow_add-result
overflow_add-result c = omega (arith, c.int_width.ensures, width-most c.args.x)

pub returns-else-x-lt2 : goal.returns-else-x-lt2
returns-else-x-lt2 c = omega (arith, c.int_width.ensures, integer-length c.args.x c.if-x-lt2.false)

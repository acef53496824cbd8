-- `arity::compare` meets its contract. The bytes not yet compared decide the whole (`Compared`). Assumes nothing.
use Rattle.std.proofs.Common.{arith, Less, Equal, Greater}
use Rattle.arity.specs.OrderLaws.{compared_as}
use Rattle.arity.proofs.compare.Goals as goal

pub returns-then-n-i : goal.returns-then-n-i
returns-then-n-i c = compared_as _ _ c.loop-i.invariant.0 Greater (omega arith) (omega arith)

pub returns-then-a-n : goal.returns-then-a-n
returns-then-a-n c = compared_as _ _ c.loop-i.invariant.0 Less (omega arith) (omega arith)

pub returns-else-a-n : goal.returns-else-a-n
returns-else-a-n c = compared_as _ _ c.loop-i.invariant.0 Equal (omega arith) (omega arith)

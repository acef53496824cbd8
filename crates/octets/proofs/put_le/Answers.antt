-- `octets::put_le` meets its contract. The digits that are left fill the rest (`Filling`). Assumes nothing.
use Rattle.std.proofs.Common.{arith}
use Rattle.octets.specs.Laws.{le-length}
use Rattle.octets.specs.Filling.{le_begin, le_turn, le_end}
use Rattle.octets.proofs.put_le.Goals as goal

pub loop-i-init : goal.loop-i-init
loop-i-init c = le_begin _ _ _ c.requires

pub bounds-out-i : goal.bounds-out-i
bounds-out-i c = omega (arith, c.loop-i.invariant.room, c.loop-i.invariant.len, le-length c.args.n c.args.x)

pub loop-i-preserved : goal.loop-i-preserved
loop-i-preserved c = le_turn _ _ (omega arith) c.loop-i.invariant

pub returns : goal.returns
returns c = le_end _ _ _ (omega arith) c.loop-i.invariant

-- `octets::put_slice` meets its contract. The elements that are left fill the rest (`Filling`). Assumes nothing.
use Rattle.std.proofs.Common.{refl, arith}
use Rattle.octets.specs.Filling.{filling_start, copy_turn, copy_end}
use Rattle.octets.proofs.put_slice.Goals as goal

pub loop-i-init : goal.loop-i-init
loop-i-init c = filling_start _ refl c.requires

pub bounds-out-i : goal.bounds-out-i
bounds-out-i c = omega (arith, c.loop-i.invariant.room, c.loop-i.invariant.len)

pub loop-i-preserved : goal.loop-i-preserved
loop-i-preserved c = copy_turn _ _ (omega arith) c.loop-i.invariant

pub returns : goal.returns
returns c = copy_end _ (omega arith) c.loop-i.invariant

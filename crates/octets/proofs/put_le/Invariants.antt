use Rattle.std.proofs.Common.{◌-◌}
use Rattle.octets.specs.Bytes.{le}
use Rattle.octets.specs.Filling.{Filling}
use Rattle.octets.proofs.put_le.Given as goal

abbrev pub invariant-loop-i : goal.invariant-loop-i
invariant-loop-i l = Filling (le l.n l.x) (le (l.n - l.i) l.y) l.i l.initial.out l.out

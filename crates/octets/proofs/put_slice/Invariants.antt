use Rattle.std.proofs.Common.{drop}
use Rattle.octets.specs.Filling.{Filling}
use Rattle.octets.proofs.put_slice.Given as goal

abbrev pub invariant-loop-i : goal.invariant-loop-i
invariant-loop-i l = Filling l.s (drop l.i l.s) l.i l.initial.out l.out

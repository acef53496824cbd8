use Rattle.path.specs.PathReading.{Running}
use Rattle.path.proofs.are_segments.Given as goal

abbrev pub invariant-loop-i : goal.invariant-loop-i
invariant-loop-i l = Running l.b l.from l.n l.i

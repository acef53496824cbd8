use Rattle.octets.specs.Reading.{Counting}
use Rattle.octets.proofs.get_le.Given as goal

abbrev pub invariant-loop-i : goal.invariant-loop-i
invariant-loop-i l = Counting l.b l.at l.n l.i l.x

use Rattle.taken.specs.TakenLaws.{Scanning}
use Rattle.taken.proofs.string_at.Given as goal

abbrev pub invariant-loop-i : goal.invariant-loop-i
invariant-loop-i l = Scanning l.b l.at l.i

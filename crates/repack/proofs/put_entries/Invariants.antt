use Rattle.repack.specs.RepackLaws.{Entering}
use Rattle.repack.proofs.put_entries.Given as goal

abbrev pub invariant-loop-j : goal.invariant-loop-j
invariant-loop-j l = Entering l.arities.entries.now l.arities.pool.now l.start l.at l.j l.initial.out l.out

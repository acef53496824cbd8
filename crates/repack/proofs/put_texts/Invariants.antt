use Rattle.repack.specs.RepackLaws.{Copying}
use Rattle.repack.proofs.put_texts.Given as goal

abbrev pub invariant-loop-j : goal.invariant-loop-j
invariant-loop-j l = Copying l.b l.pool l.at l.j l.initial.out l.out

use Rattle.repack.specs.RepackLaws.{Summing}
use Rattle.repack.proofs.texts_len.Given as goal

abbrev pub invariant-loop-j : goal.invariant-loop-j
invariant-loop-j l = Summing l.arities.entries.now l.arities.pool.now l.sum l.j

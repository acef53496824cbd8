use Rattle.settle.specs.Moving.{Moving}
use Rattle.settle.proofs.settle.Given as goal

abbrev pub invariant-loop-j : goal.invariant-loop-j
invariant-loop-j l = Moving l.table l.n l.pool l.first l.initial.out l.at l.j l.out

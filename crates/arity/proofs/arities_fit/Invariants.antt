use Rattle.arity.specs.ArityLaws.{Fitting}
use Rattle.arity.proofs.arities_fit.Given as goal

abbrev pub invariant-loop-j : goal.invariant-loop-j
invariant-loop-j l = Fitting l.b l.pool l.last l.j

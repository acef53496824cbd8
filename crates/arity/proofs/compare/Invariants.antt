use Rattle.std.specs.Prelude.{◌≤◌}
use Rattle.path.specs.PathSpelled.{spelled}
use Rattle.arity.specs.OrderLaws.{Compared}
use Rattle.arity.proofs.compare.Given as goal

abbrev pub invariant-loop-i : goal.invariant-loop-i
invariant-loop-i l = Compared l.a (spelled l.head l.rest) l.n l.i × (l.i ≤ l.n)

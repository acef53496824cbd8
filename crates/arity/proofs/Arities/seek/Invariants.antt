use Rattle.std.proofs.Common.{◌-◌, take}
use Rattle.path.specs.PathSpelled.{spelled}
use Rattle.arity.specs.SearchLaws.{Seeking}
use Rattle.arity.proofs.Arities.seek.Given as goal

abbrev pub invariant-loop-low : goal.invariant-loop-low
invariant-loop-low l = Seeking l.self.entries.now l.self.pool.now (take l.n (spelled l.head l.rest)) l.low l.high

abbrev pub decreases-loop-low : goal.decreases-loop-low
decreases-loop-low l = l.high - l.low

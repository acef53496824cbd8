use Rattle.std.proofs.Common.{◌-◌, length}
use Rattle.path.specs.PathText.{Chaining}
use Rattle.path.proofs.is_path.Given as goal

abbrev pub invariant-loop-at : goal.invariant-loop-at
invariant-loop-at l = Chaining l.t l.at

abbrev pub decreases-loop-at : goal.decreases-loop-at
decreases-loop-at l = length l.t - l.at

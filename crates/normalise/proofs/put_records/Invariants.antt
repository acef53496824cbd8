use Rattle.std.proofs.Common.{◌-◌, ◌/◌, length}
use Rattle.normalise.specs.PackLaws.{Recording}
use Rattle.normalise.proofs.put_records.Given as goal

abbrev pub invariant-loop-i : goal.invariant-loop-i
invariant-loop-i l = Recording l.terms.records.now l.terms.pool.now l.first l.start l.i l.at l.initial.out l.out

abbrev pub decreases-loop-i : goal.decreases-loop-i
decreases-loop-i l = length l.terms.records.now / 24 - l.i

use Rattle.std.proofs.Common.{◌-◌, ◌/◌, length}
use Rattle.normalise.specs.FlatLaws.{Passing}
use Rattle.normalise.proofs.texts_len.Given as goal

abbrev pub invariant-loop-i : goal.invariant-loop-i
invariant-loop-i l = Passing l.terms.records.now l.terms.pool.now l.i l.total

abbrev pub decreases-loop-i : goal.decreases-loop-i
decreases-loop-i l = length l.terms.records.now / 24 - l.i

use Rattle.std.proofs.Common.{◌-◌, ◌/◌, length}
use Rattle.normalise.specs.PackLaws.{Texting}
use Rattle.normalise.proofs.put_texts.Given as goal

abbrev pub invariant-loop-i : goal.invariant-loop-i
invariant-loop-i l = Texting l.terms.records.now l.terms.pool.now l.i l.at l.initial.out l.out

abbrev pub decreases-loop-i : goal.decreases-loop-i
decreases-loop-i l = length l.terms.records.now / 24 - l.i

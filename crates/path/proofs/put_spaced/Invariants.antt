use Rattle.std.proofs.Common.{drop}
use Rattle.path.specs.PathWriting.{spaced, Spacing}
use Rattle.path.proofs.put_spaced.Given as goal

abbrev pub invariant-loop : goal.invariant-loop
invariant-loop l = Spacing l.b l.skip l.dots l.n (spaced l.skip l.dots l.n (drop l.from l.b)) l.p l.counter l.at l.initial.out l.out

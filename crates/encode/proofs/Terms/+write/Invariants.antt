use Rattle.std.proofs.Common.{◌+◌, ◌-◌, ◌*◌}
use Rattle.encode.specs.Walk.{list, term}
use Rattle.encode.specs.WalkLaws.{terms_from, Listing}
use Rattle.encode.specs.Kept.{Kept}
use Rattle.encode.proofs.Terms.+write.Given as goal

abbrev pub invariant-write_in-loop : goal.invariant-write_in-loop
invariant-write_in-loop l =
    Listing l.self.records.now l.self.pool.now (term l.levels) (list (term l.levels) l.n (terms_from l.self.records.now l.self.pool.now l.i))
    (l.n - l.counter) l.at l.next l.initial.out l.out
    × Kept l.self.records.now l.self.pool.now l.kept

abbrev pub decreases-write_in : goal.decreases-write_in
decreases-write_in l = 3 * l.levels + 1

abbrev pub decreases-write_kids : goal.decreases-write_kids
decreases-write_kids l = 3 * l.levels + 2

abbrev pub decreases-write_term : goal.decreases-write_term
decreases-write_term l = 3 * l.levels

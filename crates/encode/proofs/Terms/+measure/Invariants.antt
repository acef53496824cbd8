use Rattle.std.proofs.Common.{◌+◌, ◌-◌, ◌*◌}
use Rattle.encode.specs.Walk.{list, term}
use Rattle.encode.specs.WalkLaws.{terms_from, Left}
use Rattle.encode.specs.Kept.{Kept}
use Rattle.encode.proofs.Terms.+measure.Given as goal

abbrev pub invariant-sizes_in-loop : goal.invariant-sizes_in-loop
invariant-sizes_in-loop l =
    Left l.self.records.now l.self.pool.now (term l.levels) (list (term l.levels) l.n (terms_from l.self.records.now l.self.pool.now l.i))
    (l.n - l.counter) l.all.size l.all.records l.all.deep l.all.next
    × Kept l.self.records.now l.self.pool.now l.kept

abbrev pub decreases-kids_of : goal.decreases-kids_of
decreases-kids_of l = 3 * l.levels

abbrev pub decreases-size_of : goal.decreases-size_of
decreases-size_of l = 3 * l.levels + 1

abbrev pub decreases-sizes_in : goal.decreases-sizes_in
decreases-sizes_in l = 3 * l.levels + 2

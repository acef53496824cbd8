-- `Terms::size_of`, `kids_of` and `sizes_in` meet their contracts: a term, its children one level down (`Measured`, `Left`), and each size
-- that is kept is right (`Kept`). Assumes nothing.
use Rattle.std.proofs.Common.{arith, ◌+◌, ◌-◌}
use Rattle.encode.specs.WalkLaws.{list-fits, none-measured, none-listed, left-start, left_turn, left-sum, left_end, node-measured}
use Rattle.encode.specs.Sound.{parent_made, takes-here}
use Rattle.encode.specs.Kept.{parent_put}
use Rattle.encode.proofs.Terms.+measure.Goals as goal

pub kids_of-returns-then-n-eq0 : goal.kids_of-returns-then-n-eq0
kids_of-returns-then-n-eq0 t c = rw c.none.ensures (none-listed _ _ _ _ _ c.if-n-eq0.true, c.requires.1)

pub kids_of-returns : goal.kids_of-returns
kids_of-returns t c =
    (c.sizes_in-s.ensures.0, rw c.keep.ensures (parent_put c.sizes_in-s.ensures.1 c.requires.0 _ c.sizes_in-s.ensures.0.counted))

pub size_of-returns-then-levels-eq0 : goal.size_of-returns-then-levels-eq0
size_of-returns-then-levels-eq0 t c = rw c.none.ensures (none-measured _ _ _ _ c.count-n.ensures c.then-levels-eq0.either, c.requires.1)

pub size_of-term_len-requires : goal.size_of-term_len-requires
size_of-term_len-requires t c =
    let f = list-fits _ _ c.args.self.now.sound.small (c.args.levels - 1) (c.args.i + 1) c.own_at-own.result.record.kids in
    omega (arith, c.kids_of-kids.ensures.0.counted, f.bytes)

pub size_of-records_in-requires : goal.size_of-records_in-requires
size_of-records_in-requires t c =
    let f = list-fits _ _ c.args.self.now.sound.small (c.args.levels - 1) (c.args.i + 1) c.own_at-own.result.record.kids in
    omega (arith, c.kids_of-kids.ensures.0.recorded, f.records)

pub size_of-returns : goal.size_of-returns
size_of-returns t c =
    let (e, p, g) = c.own_at-own.ensures in
    let k = takes-here c.args.self.now.sound (omega arith) e p g _ c.kids_of-kids.ensures.0.counted c.term_len.ensures in
    (node-measured _ _ _ _ c.if-levels-eq0.false (omega arith) e c.kids_of-kids.ensures.0 k c.records_in.ensures c.is_deeper.ensures, c.kids_of-kids.ensures.1)

pub sizes_in-overflow_add-all : goal.sizes_in-overflow_add-all
sizes_in-overflow_add-all t c =
    let f = list-fits _ _ c.args.self.now.sound.small c.args.levels c.args.i c.args.n in
    omega (arith, (left-sum c.loop.invariant.0 (omega arith) c.size_of-s.ensures.0).0, f.bytes)

pub sizes_in-overflow_add-all-in-loop : goal.sizes_in-overflow_add-all-in-loop
sizes_in-overflow_add-all-in-loop t c =
    let f = list-fits _ _ c.args.self.now.sound.small c.args.levels c.args.i c.args.n in
    omega (arith, (left-sum c.loop.invariant.0 (omega arith) c.size_of-s.ensures.0).1, f.records)

pub sizes_in-loop-preserved : goal.sizes_in-loop-preserved
sizes_in-loop-preserved t c = (left_turn c.loop.invariant.0 (omega arith) c.size_of-s.ensures.0, c.size_of-s.ensures.1)

pub sizes_in-returns : goal.sizes_in-returns
sizes_in-returns t c = (left_end c.loop.invariant.0 (omega arith), c.loop.invariant.1)

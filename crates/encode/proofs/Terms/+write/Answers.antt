-- `Terms::write_term`, `write_kids` and `write_in` meet their contracts: a term's parts one after the other, of which its
-- children are written into the part behind what stands before them (`Put`, `Listing`), and each size that is kept is right (`Kept`).
-- Assumes nothing.
use Rattle.std.proofs.Common.{arith, ◌+◌, ◌-◌}
use Rattle.octets.specs.Filling.{writing_fits, writing_next, writing_end}
use Rattle.encode.specs.WalkLaws.{none-measured, none-listed, put-none, node-put, listing_start, listing_fits, listing_less, listing_turn, listing_end}
use Rattle.encode.specs.Sound.{parent_made, start-here, body-few-here, kids-few-here}
use Rattle.encode.proofs.Terms.+write.Goals as goal

pub write_in-write_term-done-requires : goal.write_in-write_term-done-requires
write_in-write_term-done-requires t c = (
  omega arith,
  (
    c.requires.0,
    c.loop.invariant.1,
    record {
      fits = listing_fits c.loop.invariant.0 {j = c.args.n - (c.loop.counter + 1)} (omega arith);
      few = omega (arith, listing_less c.loop.invariant.0 {j = c.args.n - (c.loop.counter + 1)} (omega arith), c.requires.2.few);
    },
  ),
)

pub write_in-loop-preserved : goal.write_in-loop-preserved
write_in-loop-preserved t c = (listing_turn c.loop.invariant.0 (omega arith) c.write_term-done.ensures.0, c.write_term-done.ensures.1)

pub write_in-returns : goal.write_in-returns
write_in-returns t c = (listing_end c.loop.invariant.0 (omega arith), c.loop.invariant.1)

pub write_kids-returns-then-n-eq0 : goal.write_kids-returns-then-n-eq0
write_kids-returns-then-n-eq0 t c = (put-none _ (none-listed _ _ _ _ _ c.if-n-eq0.true), c.requires.1)

pub write_term-returns-then-levels-eq0 : goal.write_term-returns-then-levels-eq0
write_term-returns-then-levels-eq0 t c = (put-none _ (none-measured _ _ _ _ c.count-n.ensures c.then-levels-eq0.either), c.requires.1)

pub write_term-put_head-at-requires : goal.write_term-put_head-at-requires
write_term-put_head-at-requires t c =
    let s = c.args.self.now.sound in
    let (e, p, g) = c.own_at-own.ensures in
    let d = c.asked_size-size.ensures.0 in
    (d.few, writing_fits (start-here s (omega arith) e p g c.if-levels-eq0.false d c.requires.2), body-few-here s (omega arith) e p g c.if-levels-eq0.false d c.requires.2)

pub write_term-write_kids-done-requires : goal.write_term-write_kids-done-requires
write_term-write_kids-done-requires t c =
    let s = c.args.self.now.sound in
    let (e, p, g) = c.own_at-own.ensures in
    let d = c.asked_size-size.ensures.0 in
    let w = writing_next (start-here s (omega arith) e p g c.if-levels-eq0.false d c.requires.2) c.put_head-at.ensures in
    (omega arith, (omega (arith, c.requires.0), c.asked_size-size.ensures.1, record { fits = writing_fits w; few = kids-few-here s (omega arith) e p g c.if-levels-eq0.false d c.requires.2 }))

pub write_term-put_behind-at-requires : goal.write_term-put_behind-at-requires
write_term-put_behind-at-requires t c =
    let s = c.args.self.now.sound in
    let (e, p, g) = c.own_at-own.ensures in
    let w = writing_next (start-here s (omega arith) e p g c.if-levels-eq0.false c.asked_size-size.ensures.0 c.requires.2) c.put_head-at.ensures in
    (c.own_at-own.result.able.fine, writing_fits (writing_next w c.write_kids-done.ensures.0.wrote))

pub write_term-returns : goal.write_term-returns
write_term-returns t c =
    let s = c.args.self.now.sound in
    let (e, p, g) = c.own_at-own.ensures in
    let w = writing_next (start-here s (omega arith) e p g c.if-levels-eq0.false c.asked_size-size.ensures.0 c.requires.2) c.put_head-at.ensures in
    let v = writing_end (writing_next (writing_next w c.write_kids-done.ensures.0.wrote) c.put_behind-at.ensures) in
    (node-put _ _ _ _ c.if-levels-eq0.false (omega arith) e v c.write_kids-done.ensures.0, c.write_kids-done.ensures.1)

-- `walk::term_at` and the three functions that it and its parts call meet their contracts, with the levels falling (laws in `Cycle`, the
-- loop's in `Loop`). Assumes nothing.
use Rattle.std.proofs.Common.{◌≡◌, ◌∙◌, refl, ◌+◌, ◌-◌, sym, arith, length-take-le, drop}
use Rattle.octets.specs.Reading.{got, got-none}
use Rattle.tree.proofs.TableLaws.{normal-row}
use Rattle.taken.specs.TakenLaws.{taken, taken_none, row-short}
use Rattle.start.specs.StartLaws.{start-row}
use Rattle.start.specs.Box.{opened, opened-none}
use Rattle.walk.specs.Walk.{is_listed}
use Rattle.walk.specs.Loop.{ends, ends-not, turning_start, turns, turning_bad, turning_next, turning_end, turning_short, turning_spans}
use Rattle.walk.specs.Steps.{listed-is, listed-not, first-none}
use Rattle.walk.specs.Calls.{call_path}
use Rattle.walk.specs.Cycle.{walkable_on, walkable_part, begins-normal, begins-inside, above_zero, term_zero, term_nowhere, term-none, term-bodiless, term-whole, term-short}
use Rattle.walk.specs.Cycle.{kids_no, kids-lost, kids-whole, kids-miscounted, body_as, first_kidless, first-few, first-whole, last_kidless, last_within, last_fieldless, last-few, last-whole}
use Rattle.walk.proofs.+body_at_kids_at_term_at_terms_at.Goals as goal
use Rattle.walk.proofs.+body_at_kids_at_term_at_terms_at.Goals.{kids_at-in-Listed, kids_at-in_default}

pub body_at-returns-in_err-w : goal.body_at-returns-in_err-w
body_at-returns-in_err-w t c =
    rw c.from_residual.ensures (body_as _ _ _ _ _ c.if-row.true (last_kidless _ _ c.requires.1 _ c.requires.0 _ _ c.in_err-w.ensures))

pub body_at-fields_at-requires : goal.body_at-fields_at-requires
body_at-fields_at-requires t c =
    (row-short _ (normal-row _ c.requires.1.found), last_within _ c.args.place c.requires.1 _ c.requires.0 _ _ c.in_ok-w.ensures)

pub body_at-returns-in_err-f : goal.body_at-returns-in_err-f
body_at-returns-in_err-f t c =
    let f = taken_none refl c.in_err-f.ensures in
    rw c.from_residual-in_err-f.ensures (body_as _ _ _ _ _ c.if-row.true (last_fieldless _ _ c.requires.1 _ c.requires.0 _ _ c.in_ok-w.ensures f))

pub body_at-put_term-requires : goal.body_at-put_term-requires
body_at-put_term-requires t c =
    rw c.record_of-r.ensures (last-few _ c.args.place c.requires.1 _ c.requires.0 _ _ c.in_ok-w.ensures (taken refl c.in_ok-f.ensures))

pub body_at-returns-then-row : goal.body_at-returns-then-row
body_at-returns-then-row t c =
    let (w, r) = rw c.record_of-r.ensures at c.put_term.ensures in
    body_as _ _ _ _ _ c.if-row.true (last-whole _ _ c.requires.1 _ c.requires.0 _ _ c.in_ok-w.ensures (taken refl c.in_ok-f.ensures) r w)

pub body_at-fields_at-requires-2 : goal.body_at-fields_at-requires-2
body_at-fields_at-requires-2 t c = (row-short _ (normal-row _ c.requires.1.found), c.requires.0.within)

pub body_at-returns-in_err-f-2 : goal.body_at-returns-in_err-f-2
body_at-returns-in_err-f-2 t c =
    let f = taken_none refl c.in_err-f-2.ensures in
    rw c.from_residual-in_err-f-2.ensures (body_as _ _ _ _ _ c.if-row.false (first-none _ _ _ _ _ _ _ _ f))

pub body_at-args_for-args-requires : goal.body_at-args_for-args-requires
body_at-args_for-args-requires t c = λ e. call_path c.requires.1.found (taken refl c.in_ok-f-2.ensures) e

pub body_at-kids_at-requires-2 : goal.body_at-kids_at-requires-2
body_at-kids_at-requires-2 t c =
    (omega arith, (walkable_on c.requires.0 (taken refl c.in_ok-f-2.ensures).high, omega (arith, c.requires.2)))

pub body_at-returns-in_err-w-2 : goal.body_at-returns-in_err-w-2
body_at-returns-in_err-w-2 t c =
    let f = taken refl c.in_ok-f-2.ensures in
    let k = first_kidless _ _ c.requires.1 _ c.requires.0 _ _ f c.args_for-args.ensures c.in_err-w-2.ensures in
    rw c.from_residual-in_err-w-2.ensures (body_as _ _ _ _ _ c.if-row.false k)

pub body_at-put_term-requires-2 : goal.body_at-put_term-requires-2
body_at-put_term-requires-2 t c =
    let f = taken refl c.in_ok-f-2.ensures in
    rw c.record_of-r-2.ensures (first-few _ _ c.requires.1 _ c.requires.0 _ _ f c.args_for-args.ensures c.in_ok-w-2.ensures)

pub body_at-returns : goal.body_at-returns
body_at-returns t c =
    let f = taken refl c.in_ok-f-2.ensures in
    let (w, r) = rw c.record_of-r-2.ensures at c.put_term-2.ensures in
    body_as _ _ _ _ _ c.if-row.false (first-whole _ _ c.requires.1 _ c.requires.0 _ _ f c.args_for-args.ensures c.in_ok-w-2.ensures r w)

pub kids_at-terms_at-requires : goal.kids_at-terms_at-requires
kids_at-terms_at-requires t c = (omega arith, (walkable_on c.requires.0 (got refl c.in_ok-n.ensures).high, c.requires.1))

pub kids_at-returns-in_err-w : goal.kids_at-returns-in_err-w
kids_at-returns-in_err-w t c =
    let x : c.match-matches.matches ≡ is_listed c.args.row.rest =
    elim c.match-matches.branch [ kids_at-in-Listed w ↦ listed-is w.in-Listed.is w.matches-is | kids_at-in_default w ↦ listed-not _ w.in_default.not-Listed w.matches-is ] in
    rw c.from_residual-in_err-w.ensures (kids-lost _ _ _ _ _ _ (got refl c.in_ok-n.ensures) x c.in_err-w.ensures)

pub kids_at-returns-then-is_counted : goal.kids_at-returns-then-is_counted
kids_at-returns-then-is_counted t c =
    let x : c.match-matches.matches ≡ is_listed c.args.row.rest =
    elim c.match-matches.branch [ kids_at-in-Listed w ↦ listed-is w.in-Listed.is w.matches-is | kids_at-in_default w ↦ listed-not _ w.in_default.not-Listed w.matches-is ] in
    kids-whole _ _ _ _ _ _ (got refl c.in_ok-n.ensures) x c.in_ok-w.ensures c.is_counted.ensures c.if-is_counted.true

pub kids_at-returns-else-is_counted : goal.kids_at-returns-else-is_counted
kids_at-returns-else-is_counted t c =
    let x : c.match-matches.matches ≡ is_listed c.args.row.rest =
    elim c.match-matches.branch [ kids_at-in-Listed w ↦ listed-is w.in-Listed.is w.matches-is | kids_at-in_default w ↦ listed-not _ w.in_default.not-Listed w.matches-is ] in
    kids-miscounted _ _ _ _ _ _ (got refl c.in_ok-n.ensures) x c.in_ok-w.ensures c.is_counted.ensures c.if-is_counted.false

pub kids_at-returns-in_err-n : goal.kids_at-returns-in_err-n
kids_at-returns-in_err-n t c = rw c.from_residual.ensures (kids_no _ _ _ _ _ _ (got-none refl c.in_err-n.ensures))

pub term_at-returns-then-levels-eq0 : goal.term_at-returns-then-levels-eq0
term_at-returns-then-levels-eq0 t c = term_zero _ _ _ _ _ c.requires.0.within c.if-levels-eq0.true

pub term_at-returns-in_err-j : goal.term_at-returns-in_err-j
term_at-returns-in_err-j t c = rw c.from_residual.ensures (term_nowhere _ _ _ _ _ c.requires.0.within (search) c.in_err-j.ensures (omega arith))

pub term_at-overflow_add-at : goal.term_at-overflow_add-at
term_at-overflow_add-at t c =
    let r = start-row c.args.place (drop c.args.at c.args.b.now) c.in_ok-j.ensures.0 c.in_ok-j.ensures.1 c.row_at-row.ensures in
    omega (arith, begins-inside c.args.b.now c.args.at r c.requires.0.within, c.requires.0.most)

pub term_at-box_at-requires : goal.term_at-box_at-requires
term_at-box_at-requires t c =
    let r = start-row c.args.place (drop c.args.at c.args.b.now) c.in_ok-j.ensures.0 c.in_ok-j.ensures.1 c.row_at-row.ensures in
    begins-inside c.args.b.now c.args.at r c.requires.0.within

pub term_at-slice_bounds-body_at-end : goal.term_at-slice_bounds-body_at-end
term_at-slice_bounds-body_at-end t c = sym (length-take-le _ _ (opened refl c.in_ok-end.ensures).high)

pub term_at-body_at-requires : goal.term_at-body_at-requires
term_at-body_at-requires t c =
    let r = start-row c.args.place (drop c.args.at c.args.b.now) c.in_ok-j.ensures.0 c.in_ok-j.ensures.1 c.row_at-row.ensures in
    let z = above_zero _ c.if-levels-eq0.false in
    (omega (arith, z), (walkable_part c.requires.0 (opened refl c.in_ok-end.ensures), begins-normal r, omega (arith, z, c.requires.1)))

pub term_at-returns-in_err-w : goal.term_at-returns-in_err-w
term_at-returns-in_err-w t c =
    let r = start-row c.args.place (drop c.args.at c.args.b.now) c.in_ok-j.ensures.0 c.in_ok-j.ensures.1 c.row_at-row.ensures in
    rw c.from_residual-in_err-w.ensures (term-bodiless _ _ _ _ _ c.requires.0.within c.if-levels-eq0.false r (opened refl c.in_ok-end.ensures) c.in_err-w.ensures)

pub term_at-returns-then-w-e : goal.term_at-returns-then-w-e
term_at-returns-then-w-e t c =
    let r = start-row c.args.place (drop c.args.at c.args.b.now) c.in_ok-j.ensures.0 c.in_ok-j.ensures.1 c.row_at-row.ensures in
    term-whole _ _ _ _ _ c.requires.0.within c.if-levels-eq0.false r (opened refl c.in_ok-end.ensures) c.in_ok-w.ensures (ends c.if-w-e.either)

pub term_at-returns-else-w-e : goal.term_at-returns-else-w-e
term_at-returns-else-w-e t c =
    let r = start-row c.args.place (drop c.args.at c.args.b.now) c.in_ok-j.ensures.0 c.in_ok-j.ensures.1 c.row_at-row.ensures in
    term-short _ _ _ _ _ c.requires.0.within c.if-levels-eq0.false r (opened refl c.in_ok-end.ensures) c.in_ok-w.ensures (ends-not c.if-w-e.false)

pub term_at-returns-in_err-end : goal.term_at-returns-in_err-end
term_at-returns-in_err-end t c =
    let r = start-row c.args.place (drop c.args.at c.args.b.now) c.in_ok-j.ensures.0 c.in_ok-j.ensures.1 c.row_at-row.ensures in
    rw c.from_residual-in_err-end.ensures (term-none _ _ _ _ _ c.requires.0.within (search) r (opened-none refl c.in_err-end.ensures))

pub terms_at-loop-row-init : goal.terms_at-loop-row-init
terms_at-loop-row-init t c =
    let e : c.args.n - 0 ≡ c.args.n = omega arith in rw e (turning_start _ _ _ _ _ _ c.requires.0.within)

pub terms_at-returns-in_err-t : goal.terms_at-returns-in_err-t
terms_at-returns-in_err-t t c =
    rw c.from_residual.ensures (turning_bad _ _ _ c.loop-row.invariant (sym c.is_more.ensures ∙ c.loop-row-test.true) (rw c.child_place-place.ensures at c.in_err-t.ensures.0), tt)

pub terms_at-overflow_add-w-in-loop-row-2 : goal.terms_at-overflow_add-w-in-loop-row-2
terms_at-overflow_add-w-in-loop-row-2 t c = omega (arith, turns _ _ _ _ (sym c.is_more.ensures ∙ c.loop-row-test.true), c.ranges.n.fits)

pub terms_at-loop-row-smaller : goal.terms_at-loop-row-smaller
terms_at-loop-row-smaller t c = omega (arith, turns _ _ _ _ (sym c.is_more.ensures ∙ c.loop-row-test.true))

pub terms_at-loop-row-preserved : goal.terms_at-loop-row-preserved
terms_at-loop-row-preserved t c =
    let e : c.args.n - c.loop-row.w.kids - 1 ≡ c.args.n - (c.loop-row.w.kids + 1) = omega arith in
    rw e at (turning_next _ _ _ c.loop-row.invariant (sym c.is_more.ensures ∙ c.loop-row-test.true) (rw c.child_place-place.ensures at c.in_ok-t.ensures.0) c.in_ok-t.ensures.1)

pub terms_at-returns-then-w-b : goal.terms_at-returns-then-w-b
terms_at-returns-then-w-b t c =
    (turning_end _ _ _ c.loop-row.invariant (sym c.is_more.ensures ∙ c.loop-row-test.false) (ends c.if-w-b.either), turning_spans _ _ _ c.loop-row.invariant)

pub terms_at-returns-else-w-b : goal.terms_at-returns-else-w-b
terms_at-returns-else-w-b t c =
    (turning_short _ _ _ c.loop-row.invariant (sym c.is_more.ensures ∙ c.loop-row-test.false) (ends-not c.if-w-b.false), tt)

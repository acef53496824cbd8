-- `frame::put_before` meets its contract: the fields stand here or behind. Assumes nothing.
use Rattle.octets.specs.Filling.{wrote_as}
use Rattle.grammar.specs.Packed.{row_at}
use Rattle.written.specs.Fine.{fields_of}
use Rattle.frame.specs.FrameLaws.{before_last, before-first}
use Rattle.frame.proofs.put_before.Goals as goal

pub put_front-requires : goal.put_front-requires
put_front-requires c =
    let v = fields_of c.args.t.now c.args.a c.args.x in
    let e = before_last (row_at c.args.j) v c.last_at.ensures c.rest_at.ensures c.args.n c.args.size c.if-last_at.true in
    (rw e at c.requires.2, c.requires.1)

pub returns-then-last_at : goal.returns-then-last_at
returns-then-last_at c =
    let v = fields_of c.args.t.now c.args.a c.args.x in
    wrote_as (before_last (row_at c.args.j) v c.last_at.ensures c.rest_at.ensures c.args.n c.args.size c.if-last_at.true) c.put_front.ensures

pub put_fields-requires : goal.put_fields-requires
put_fields-requires c =
    let v = fields_of c.args.t.now c.args.a c.args.x in
    (c.requires.0, rw (before-first (row_at c.args.j) v c.last_at.ensures c.args.n c.args.size c.if-last_at.false) at c.requires.2)

pub returns-else-last_at : goal.returns-else-last_at
returns-else-last_at c =
    let v = fields_of c.args.t.now c.args.a c.args.x in
    wrote_as (before-first (row_at c.args.j) v c.last_at.ensures c.args.n c.args.size c.if-last_at.false) c.put_fields.ensures

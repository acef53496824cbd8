-- `frame::put_behind` meets its contract: the fields and the end tag, or nothing. Assumes nothing.
use Rattle.std.specs.Prelude.{refl}
use Rattle.octets.specs.Filling.{wrote_as, last_fits, last-wrote}
use Rattle.grammar.specs.Packed.{row_at}
use Rattle.written.specs.Fine.{fields_of}
use Rattle.frame.specs.FrameLaws.{wrote_none, first_fits, second_part, behind-last, behind-first}
use Rattle.frame.proofs.put_behind.Goals as goal

pub returns-then-not-last_at : goal.returns-then-not-last_at
returns-then-not-last_at c =
    let v = fields_of c.args.t.now c.args.a c.args.x in
    wrote_as (behind-first (row_at c.args.j) v c.last_at.ensures c.if-not-last_at.true) (wrote_none _)

pub put_fields-at-requires : goal.put_fields-at-requires
put_fields-at-requires c =
    let v = fields_of c.args.t.now c.args.a c.args.x in
    (c.requires.0, first_fits _ _ _ (behind-last (row_at c.args.j) v c.last_at.ensures refl c.if-not-last_at.false) c.requires.1)

pub put_back-requires : goal.put_back-requires
put_back-requires c =
    let v = fields_of c.args.t.now c.args.a c.args.x in
    let e = behind-last (row_at c.args.j) v c.last_at.ensures c.rest_at.ensures c.if-not-last_at.false in
    last_fits (second_part _ _ _ e c.requires.1 c.put_fields-at.ensures)

pub returns : goal.returns
returns c =
    let v = fields_of c.args.t.now c.args.a c.args.x in
    let e = behind-last (row_at c.args.j) v c.last_at.ensures c.rest_at.ensures c.if-not-last_at.false in
    last-wrote (second_part _ _ _ e c.requires.1 c.put_fields-at.ensures) c.put_back.ensures

-- `Own::put_head` meets its contract: the frame, then what is before the children. Assumes nothing.
use Rattle.std.proofs.Common.{arith}
use Rattle.octets.specs.Filling.{writing_start, writing_fits, writing_next, writing_end}
use Rattle.grammar.specs.Packed.{row_at}
use Rattle.encode.specs.Terms.{able_ops, head-framed}
use Rattle.encode.proofs.Own.put_head.Goals as goal

pub put_frame-at-requires : goal.put_frame-at-requires
put_frame-at-requires c =
    let w = writing_start c.args.out.now (head-framed (row_at c.args.self.now.row) _ c.args.self.now.record.kids c.args.size c.boxed_len-body.ensures) c.requires.1 in
    (able_ops c.args.self.now.able, writing_fits w, omega (arith, c.boxed_len-body.ensures.least, c.requires.2))

pub put_before-at-requires : goal.put_before-at-requires
put_before-at-requires c =
    let w = writing_start c.args.out.now (head-framed (row_at c.args.self.now.row) _ c.args.self.now.record.kids c.args.size c.boxed_len-body.ensures) c.requires.1 in
    (c.args.self.now.able.fine, omega (arith, c.requires.0), writing_fits (writing_next w c.put_frame-at.ensures))

pub returns : goal.returns
returns c =
    let w = writing_start c.args.out.now (head-framed (row_at c.args.self.now.row) _ c.args.self.now.record.kids c.args.size c.boxed_len-body.ensures) c.requires.1 in
    writing_end (writing_next (writing_next w c.put_frame-at.ensures) c.put_before-at.ensures)

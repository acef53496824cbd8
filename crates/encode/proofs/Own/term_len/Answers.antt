-- `Own::term_len` meets its contract. Assumes nothing.
use Rattle.std.proofs.Common.{arith}
use Rattle.grammar.specs.Packed.{row_at}
use Rattle.encode.specs.Terms.{able_ops, takes-few, takes-sum}
use Rattle.encode.proofs.Own.term_len.Goals as goal

pub frame_len-requires : goal.frame_len-requires
frame_len-requires c = able_ops c.args.self.now.able

pub overflow_add-result : goal.overflow_add-result
overflow_add-result c =
    let n = c.args.self.now.record.kids in
    let e = takes-sum (row_at c.args.self.now.row) _ n c.args.size c.body_len-body.ensures c.frame_len.ensures in
    omega (arith, takes-few n c.args.self.now.able c.requires, e)

pub returns : goal.returns
returns c = takes-sum _ _ _ _ c.body_len-body.ensures c.frame_len.ensures

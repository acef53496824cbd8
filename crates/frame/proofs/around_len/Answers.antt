-- `frame::around_len` meets its contract: the fields stand on one of the two sides. Assumes nothing.
use Rattle.std.proofs.Common.{arith}
use Rattle.grammar.specs.Packed.{row_at}
use Rattle.written.specs.Fine.{fields_of}
use Rattle.written.specs.WrittenMost.{field_most}
use Rattle.frame.specs.FrameLaws.{beside_most, around_length}
use Rattle.frame.proofs.around_len.Goals as goal

pub overflow_add-result : goal.overflow_add-result
overflow_add-result c =
    let most = field_most (row_at c.args.j) (fields_of c.args.t.now c.args.a c.args.x) c.requires.0 in
    let beside = beside_most c.last_at.result c.rest_at.result c.args.n c.args.size in
    omega (arith, c.field_len.ensures, c.beside_len.ensures, most, beside, c.well_formed.1.0.0)

pub returns : goal.returns
returns c =
    let v = fields_of c.args.t.now c.args.a c.args.x in
    omega (arith, c.field_len.ensures, c.beside_len.ensures, around_length (row_at c.args.j) v c.last_at.ensures c.rest_at.ensures c.args.n c.args.size)

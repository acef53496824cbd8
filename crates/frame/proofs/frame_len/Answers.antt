-- `frame::frame_len` meets its contract: opcode and length are added. Assumes nothing.
use native.Mathlib.Omega.{arith}
use Rattle.grammar.specs.Packed.{row_at}
use Rattle.frame.specs.FrameLaws.{length_most, frame_length}
use Rattle.frame.proofs.frame_len.Goals as goal

pub overflow_add-result : goal.overflow_add-result
overflow_add-result c = omega (arith, c.ops_at.ensures, c.length_len.ensures, length_most c.boxed_at.result c.args.body, c.requires)

pub returns : goal.returns
returns c = omega (arith, c.ops_at.ensures, c.length_len.ensures, frame_length (row_at c.args.j) c.args.body c.boxed_at.ensures)

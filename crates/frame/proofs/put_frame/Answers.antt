-- `frame::put_frame` meets its contract: two writers in a row. Assumes nothing.
use Rattle.octets.specs.Filling.{last_fits, last-wrote}
use Rattle.grammar.specs.Packed.{row_at}
use Rattle.frame.specs.Frame.{frame_join}
use Rattle.frame.specs.FrameLaws.{first_fits, second_part}
use Rattle.frame.proofs.put_frame.Goals as goal

pub put_le-at-requires : goal.put_le-at-requires
put_le-at-requires c =
    let e = frame_join (row_at c.args.j) c.args.body c.ops_at-ops.ensures c.op_at-op.ensures c.boxed_at-boxed.ensures in
    first_fits _ _ _ e c.requires.1

pub put_length-requires : goal.put_length-requires
put_length-requires c =
    let e = frame_join (row_at c.args.j) c.args.body c.ops_at-ops.ensures c.op_at-op.ensures c.boxed_at-boxed.ensures in
    (last_fits (second_part _ _ _ e c.requires.1 c.put_le-at.ensures), c.requires.2)

pub returns : goal.returns
returns c =
    let e = frame_join (row_at c.args.j) c.args.body c.ops_at-ops.ensures c.op_at-op.ensures c.boxed_at-boxed.ensures in
    last-wrote (second_part _ _ _ e c.requires.1 c.put_le-at.ensures) c.put_length.ensures

-- `path::put_spaced` meets its contract. The segments that are left fill the rest (`Spacing`). Assumes nothing.
use Rattle.std.proofs.Common.{◌+◌, arith}
use Rattle.octets.specs.Bytes.{le}
use Rattle.octets.specs.Filling.{filling_fits}
use Rattle.path.specs.PathWriting.{four, spacing_start, spacing_there, spacing_more, spacing_dotted, spacing_turn, spacing_end}
use Rattle.path.proofs.put_spaced.Goals as goal

pub put_le-at-requires : goal.put_le-at-requires
put_le-at-requires c = filling_fits (le c.args.dots 0x2E) _ (spacing_more c.loop.invariant c.loop-test.true)

pub overflow_add-at : goal.overflow_add-at
overflow_add-at c =
    let h = (spacing_dotted c.loop.invariant c.loop-test.true c.put_le-at.ensures) in omega (arith, h.within, h.len)

pub slice_bounds-put_slice-end : goal.slice_bounds-put_slice-end
slice_bounds-put_slice-end c = omega (arith, (spacing_there c.loop.invariant c.loop-test.true))

pub put_slice-at-requires : goal.put_slice-at-requires
put_slice-at-requires c =
    filling_fits (four c.args.b.now (c.loop.p + c.args.skip)) _ (spacing_dotted c.loop.invariant c.loop-test.true c.put_le-at.ensures)

pub loop-preserved : goal.loop-preserved
loop-preserved c = (spacing_turn c.loop.invariant c.loop-test.true c.put_le-at.ensures c.put_slice-at.ensures)

pub returns : goal.returns
returns c = spacing_end c.loop.invariant c.loop-test.false

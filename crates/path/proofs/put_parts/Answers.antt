-- `path::put_parts` meets its contract: the first segment and the others behind it. Assumes nothing.
use Rattle.std.proofs.Common.{arith}
use Rattle.octets.specs.Filling.{filling_start, filling_fits, filling_lent, last_fits, last-wrote, last-same}
use Rattle.path.specs.PathWriting.{four, strung-is}
use Rattle.path.proofs.put_parts.Goals as goal

pub put_slice-at-requires : goal.put_slice-at-requires
put_slice-at-requires c =
    let start = filling_start c.args.out.now (strung-is c.args.b.now c.args.skip c.args.dots c.args.from c.args.n) c.requires.2 in
    filling_fits (four c.args.b.now c.args.from) _ start

pub overflow_add-at : goal.overflow_add-at
overflow_add-at c =
    let start = filling_start c.args.out.now (strung-is c.args.b.now c.args.skip c.args.dots c.args.from c.args.n) c.requires.2 in
    let first = filling_lent _ _ start c.put_slice-at.ensures in
    let h = first in omega (arith, h.within, h.len)

pub put_spaced-at-requires : goal.put_spaced-at-requires
put_spaced-at-requires c =
    let start = filling_start c.args.out.now (strung-is c.args.b.now c.args.skip c.args.dots c.args.from c.args.n) c.requires.2 in
    let first = filling_lent _ _ start c.put_slice-at.ensures in
    (c.requires.1, last_fits first)

pub returns : goal.returns
returns c =
    let start = filling_start c.args.out.now (strung-is c.args.b.now c.args.skip c.args.dots c.args.from c.args.n) c.requires.2 in
    let first = filling_lent _ _ start c.put_slice-at.ensures in
    last-wrote first c.put_spaced-at.ensures

-- `path::put_path` meets its contract: the root mark, the number and the segments make the bytes. Assumes nothing.
use Rattle.std.proofs.Common.{arith, length-take}
use Rattle.octets.specs.Filling.{writing_fits, writing_next, writing_within, writing_same, writing_end}
use Rattle.path.specs.PathText.{root-fits}
use Rattle.path.specs.PathWriting.{path-size, path_writing}
use Rattle.path.proofs.put_path.Goals as goal

pub overflow_sub-n : goal.overflow_sub-n
overflow_sub-n c = omega (arith, (path-size c.args.t.now c.requires.0 c.root_at-k.ensures))

pub overflow_add-n : goal.overflow_add-n
overflow_add-n c = omega (arith, (path-size c.args.t.now c.requires.0 c.root_at-k.ensures))

pub slice_bounds-put_slice-end : goal.slice_bounds-put_slice-end
slice_bounds-put_slice-end c = omega (arith, length-take c.root_at-k.result c.args.t.now, root-fits c.args.t.now, c.root_at-k.ensures)

pub put_slice-at-requires : goal.put_slice-at-requires
put_slice-at-requires c =
    writing_fits (path_writing c.args.t.now c.requires.0 c.root_at-k.ensures c.args.out.now c.requires.1)

pub overflow_add-at : goal.overflow_add-at
overflow_add-at c =
    let start = path_writing c.args.t.now c.requires.0 c.root_at-k.ensures c.args.out.now c.requires.1 in
    let marked = writing_next start c.put_slice-at.ensures in
    omega (arith, marked)

pub put_count-at-requires : goal.put_count-at-requires
put_count-at-requires c =
    let start = path_writing c.args.t.now c.requires.0 c.root_at-k.ensures c.args.out.now c.requires.1 in
    let marked = writing_next start c.put_slice-at.ensures in
    ((path-size c.args.t.now c.requires.0 c.root_at-k.ensures).most, writing_fits marked)

pub put_parts-at-requires : goal.put_parts-at-requires
put_parts-at-requires c =
    let start = path_writing c.args.t.now c.requires.0 c.root_at-k.ensures c.args.out.now c.requires.1 in
    let marked = writing_next start c.put_slice-at.ensures in
    let counted = writing_next marked c.put_count-at.ensures in
    ((path-size c.args.t.now c.requires.0 c.root_at-k.ensures).least, omega (arith, (path-size c.args.t.now c.requires.0 c.root_at-k.ensures)), writing_fits counted)

pub returns : goal.returns
returns c =
    let start = path_writing c.args.t.now c.requires.0 c.root_at-k.ensures c.args.out.now c.requires.1 in
    let marked = writing_next start c.put_slice-at.ensures in
    let counted = writing_next marked c.put_count-at.ensures in
    let whole = writing_next counted c.put_parts-at.ensures in
    writing_end whole

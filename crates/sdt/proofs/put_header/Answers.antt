-- `sdt::put_header` meets its contract: field by field, in the first 36 bytes. Assumes nothing.
use Rattle.std.proofs.Common.{◌≡◌, ◌-◌, length, arith, length-take, length-drop}
use Rattle.sdt.specs.AnswerLaws.{header-length, fields-length, header-wrote}
use Rattle.sdt.proofs.put_header.Goals as goal

pub slice_bounds-header-end-2 : goal.slice_bounds-header-end-2
slice_bounds-header-end-2 c = rw length-take (omega (arith, header-length c.args.identity.now c.requires.0))

pub copy_from_slice-requires-2 : goal.copy_from_slice-requires-2
copy_from_slice-requires-2 c =
    let n = fields-length c.args.identity.now c.args.out.now c.requires.0 c.requires.1 c.copy_from_slice.ensures.after (c.fill.ensures.after (λ y e. e)) in
    simp (length-take, length-drop) (omega arith)

pub returns : goal.returns
returns c =
    let e : length c.args.identity.now - 5 ≡ 26 = omega (arith, c.requires.0) in
    header-wrote c.args.identity.now c.args.out.now c.requires.0 c.requires.1 c.copy_from_slice.ensures.after (c.fill.ensures.after (λ y e. e)) (rw e c.copy_from_slice-2.ensures.after)

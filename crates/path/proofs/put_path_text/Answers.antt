-- `path::put_path_text` meets its contract: the root mark and the segments make the text, where a path stands. Assumes nothing.
use Rattle.std.proofs.Common.{refl, arith}
use Rattle.octets.specs.Reading.{got, got-none}
use Rattle.octets.specs.Filling.{writing_fits, writing_next, writing_within, writing_same, writing_end}
use Rattle.path.specs.PathWriting.{text_at_lem, text_writing, no_text}
use Rattle.path.proofs.put_path_text.Goals as goal

pub overflow_sub-n : goal.overflow_sub-n
overflow_sub-n c = omega (arith, (text_at_lem (got refl c.in-Some.ensures) c.root_at-k.ensures))

pub overflow_add-n : goal.overflow_add-n
overflow_add-n c = omega (arith, (text_at_lem (got refl c.in-Some.ensures) c.root_at-k.ensures))

pub overflow_add-at : goal.overflow_add-at
overflow_add-at c = omega (arith, (text_at_lem (got refl c.in-Some.ensures) c.root_at-k.ensures))

pub slice_bounds-put_slice-end : goal.slice_bounds-put_slice-end
slice_bounds-put_slice-end c = (text_at_lem (got refl c.in-Some.ensures) c.root_at-k.ensures).mark

pub put_slice-end-requires : goal.put_slice-end-requires
put_slice-end-requires c =
    let stands = text_at_lem (got refl c.in-Some.ensures) c.root_at-k.ensures in
    let start = text_writing stands c.args.out.now c.requires in
    writing_fits start

pub overflow_sub-next : goal.overflow_sub-next
overflow_sub-next c = (text_at_lem (got refl c.in-Some.ensures) c.root_at-k.ensures).behind

pub put_parts-end-requires : goal.put_parts-end-requires
put_parts-end-requires c =
    let stands = text_at_lem (got refl c.in-Some.ensures) c.root_at-k.ensures in
    let start = text_writing stands c.args.out.now c.requires in
    let marked = writing_next start c.put_slice-end.ensures in
    (stands.least, stands.there, writing_fits marked)

pub returns : goal.returns
returns c =
    let stands = text_at_lem (got refl c.in-Some.ensures) c.root_at-k.ensures in
    let start = text_writing stands c.args.out.now c.requires in
    let marked = writing_next start c.put_slice-end.ensures in
    let whole = writing_next marked c.put_parts-end.ensures in
    writing_end whole

pub returns-in_default : goal.returns-in_default
returns-in_default c = no_text _ (got-none refl c.in_default.ensures)

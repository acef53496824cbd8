-- `settle::put_text` meets its contract: a path's text, or a part of the table. Assumes nothing.
use Rattle.std.proofs.Common.{◌∙◌, sym}
use Rattle.octets.specs.Filling.{wrote_as}
use Rattle.settle.specs.Moving.{fetched-path, fetched-part}
use Rattle.settle.proofs.put_text.Goals as goal

pub put_path_text-requires : goal.put_path_text-requires
put_path_text-requires c = rw (fetched-path c.args.table.now c.args.r c.has_path.ensures c.if-has_path.true) at c.requires

pub returns-then-has_path : goal.returns-then-has_path
returns-then-has_path c = wrote_as (fetched-path c.args.table.now c.args.r c.has_path.ensures c.if-has_path.true) c.put_path_text.ensures

pub put_slice-requires : goal.put_slice-requires
put_slice-requires c =
    rw (fetched-part c.args.table.now c.args.r c.has_path.ensures c.if-has_path.false ∙ sym c.text_at-t.ensures) at c.requires

pub returns : goal.returns
returns c =
    wrote_as (fetched-part c.args.table.now c.args.r c.has_path.ensures c.if-has_path.false ∙ sym c.text_at-t.ensures) c.put_slice.ensures

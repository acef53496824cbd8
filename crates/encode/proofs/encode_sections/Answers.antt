-- `encode::encode_sections` meets its contract: refused by the figures, or the table. Assumes nothing.
use Rattle.std.proofs.Common.{arith}
use Rattle.std.proofs.lemmas.Result.{err_from_is_err_and}
use Rattle.encode.specs.Kept.{kept-none}
use Rattle.encode.specs.Answer.{figures_small}
use Rattle.encode.specs.TableLaws.{walked-refused, walked-short, walked-done, table-length, table_fits}
use Rattle.encode.proofs.encode_sections.Goals as goal

pub sizes_in-s-requires : goal.sizes_in-s-requires
sizes_in-s-requires c = (omega arith, kept-none _ _ 4096)

pub returns-in_err-late_number : goal.returns-in_err-late_number
returns-in_err-late_number c =
    let (f, e, q) = err_from_is_err_and c.from_residual.result c.from_residual.ensures.1 in
    rw (e, q) (walked-refused (rw c.count-n.ensures at c.sizes_in-s.ensures.0) _ c.args.out.now c.in_err-late_number.ensures)

pub overflow_add-s : goal.overflow_add-s
overflow_add-s c = omega (arith, figures_small _ _ _ c.in_ok-late_number.ensures)

pub returns-then-out-s : goal.returns-then-out-s
returns-then-out-s c =
    let m = rw c.count-n.ensures at c.sizes_in-s.ensures.0 in
    rw c.into.ensures (walked-short m _ c.args.out.now c.in_ok-late_number.ensures (table-length m c.args.identity.now c.requires) c.if-out-s.true)

pub put_table-requires : goal.put_table-requires
put_table-requires c =
    (c.sizes_in-s.ensures.1, table_fits (rw c.count-n.ensures at c.sizes_in-s.ensures.0) c.args.identity.now c.requires c.args.out.now c.in_ok-late_number.ensures c.if-out-s.false)

pub returns : goal.returns
returns c =
    let m = rw c.count-n.ensures at c.sizes_in-s.ensures.0 in
    walked-done m _ c.args.out.now c.in_ok-late_number.ensures (table-length m c.args.identity.now c.requires) c.if-out-s.false c.put_table.ensures

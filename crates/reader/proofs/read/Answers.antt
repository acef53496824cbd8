-- `reader::read` meets its contract: the arity file, the table, and then its terms. Assumes nothing.
use Rattle.std.proofs.Common.{◌∙◌, refl, arith}
use Rattle.std.proofs.lemmas.Result.{err_from_is_err_and}
use Rattle.term.specs.FileLaws.{layout-within}
use Rattle.reader.specs.ReaderLaws.{read_unlaid, read-records, read_unfit, read_unframed, read_ready, read-on}
use Rattle.reader.proofs.read.Goals as goal

pub returns-in_err-sections : goal.returns-in_err-sections
returns-in_err-sections c =
    let (f, e, q) = err_from_is_err_and c.from_residual.result c.from_residual.ensures.1 in
    rw (e, q) (read_unlaid _ _ _ c.in_err-sections.ensures)

pub get_le-requires : goal.get_le-requires
get_le-requires c = (omega arith, omega (arith, layout-within c.args.file.now refl c.in_ok-sections.ensures.0))

pub returns-then-get_le-ne0 : goal.returns-then-get_le-ne0
returns-then-get_le-ne0 c =
    rw c.into.ensures (read-records _ _ _ c.in_ok-sections.ensures.0 c.get_le.ensures c.if-get_le-ne0.true)

pub returns-in_default : goal.returns-in_default
returns-in_default c =
    let (z, d) = c.in_ok-sections.ensures in
    rw c.into-in_default.ensures (read_unfit _ _ _ z c.get_le.ensures c.if-get_le-ne0.false (rw (d.arities, d.pool) at c.in_default.ensures))

pub returns-in_err-table_number : goal.returns-in_err-table_number
returns-in_err-table_number c =
    let (f, e, q) = err_from_is_err_and c.from_residual-in_err-table_number.result c.from_residual-in_err-table_number.ensures.1 in
    let (z, d) = c.in_ok-sections.ensures in
    let h = rw (d.arities, d.pool) at c.in-Some.ensures.2 in
    rw (e, q) (read_unframed _ _ _ z c.get_le.ensures c.if-get_le-ne0.false h c.in_err-table_number.ensures)

pub read_sections-requires : goal.read_sections-requires
read_sections-requires c =
    let (z, d) = c.in_ok-sections.ensures in
    let (a, p, h) = c.in-Some.ensures in
    rw (a ∙ d.arities, p ∙ d.pool) (read_ready _ _ c.args.out.now z c.get_le.ensures c.if-get_le-ne0.false (rw (d.arities, d.pool) at h) c.in_ok-table_number.ensures)

pub returns : goal.returns
returns c =
    let (z, d) = c.in_ok-sections.ensures in
    let (a, p, h) = c.in-Some.ensures in
    read-on _ _ _ z c.get_le.ensures c.if-get_le-ne0.false (rw (d.arities, d.pool) at h) c.in_ok-table_number.ensures (rw (a ∙ d.arities, p ∙ d.pool) at c.read_sections.ensures)

-- `reader::table_number` meets its contract. Assumes nothing.
use Rattle.std.proofs.Common.{sym, arith}
use Rattle.reader.specs.ReaderLaws.{table-short, table-other, table_large, table_unsummed, table-fine}
use Rattle.reader.proofs.table_number.Goals as goal

pub returns-then-table-lt36 : goal.returns-then-table-lt36
returns-then-table-lt36 c = table-short _ c.if-table-lt36.true

pub get_le-requires : goal.get_le-requires
get_le-requires c = (omega arith, omega (arith, c.if-table-lt36.false))

pub returns-then-get_le-table : goal.returns-then-get_le-table
returns-then-get_le-table c = table-other _ c.if-table-lt36.false c.get_le.ensures c.if-get_le-table.true

pub returns-then-table-gt268435455 : goal.returns-then-table-gt268435455
returns-then-table-gt268435455 c = table_large _ c.if-table-lt36.false c.get_le.ensures c.if-get_le-table.false c.if-table-gt268435455.true

pub returns-then-byte_sum-ne0 : goal.returns-then-byte_sum-ne0
returns-then-byte_sum-ne0 c =
    table_unsummed _ c.if-table-lt36.false c.get_le.ensures c.if-get_le-table.false c.if-table-gt268435455.false c.byte_sum.ensures c.if-byte_sum-ne0.true

pub returns : goal.returns
returns c =
    sym (table-fine _ c.if-table-lt36.false c.get_le.ensures c.if-get_le-table.false c.if-table-gt268435455.false c.byte_sum.ensures c.if-byte_sum-ne0.false)

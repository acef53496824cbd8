-- `encode::put_table` meets its contract: what was laid out is sealed. Assumes nothing.
use Rattle.std.proofs.Common.{arith, length-take}
use Rattle.encode.specs.TableLaws.{table-size}
use Rattle.sdt.specs.AnswerLaws.{sealed-over}
use Rattle.encode.proofs.put_table.Goals as goal

pub update_checksum-requires : goal.update_checksum-requires
update_checksum-requires c =
    (rw length-take (omega (arith, table-size c.requires.1 c.put_opened-total.ensures)), rw length-take (omega (arith, table-size c.requires.1 c.put_opened-total.ensures, c.requires.1.few)))

pub returns : goal.returns
returns c =
    sealed-over (omega (arith, table-size c.requires.1 c.put_opened-total.ensures)) c.put_opened-total.ensures c.update_checksum.ensures

-- `sdt::update_checksum` meets its contract: length, then a zero, then what brings the sum to 0. Assumes nothing.
use Rattle.sdt.specs.AnswerLaws.{field_fits, sealing}
use Rattle.sdt.proofs.update_checksum.Goals as goal

pub put_le-requires : goal.put_le-requires
put_le-requires c = field_fits c.args.t.now c.requires.0

pub returns : goal.returns
returns c = sealing c.requires.0 c.put_le.ensures c.generate_checksum-checksum.ensures

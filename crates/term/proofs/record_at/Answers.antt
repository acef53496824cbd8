-- `term::record_at` meets its contract: three numbers, taken apart. Assumes nothing.
use Rattle.term.specs.RecordLaws.{record_parted}
use Rattle.term.proofs.record_at.Goals as goal

pub returns : goal.returns
returns c = record_parted _ _ c.requires c.get_u64-w.ensures c.get_u64-x.ensures c.get_u64-v.ensures

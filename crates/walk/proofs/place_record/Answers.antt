-- `walk::place_record` meets its contract. Assumes nothing.
use Rattle.walk.specs.Spots.{spliced_not, spliced-room, spliced-put}
use Rattle.walk.proofs.place_record.Goals as goal

pub put_record-requires : goal.put_record-requires
put_record-requires c = spliced-room _ _ c.args.out.now c.if-i-out.true

pub returns-then-i-out : goal.returns-then-i-out
returns-then-i-out c = spliced-put _ _ c.args.out.now c.if-i-out.true c.put_record.ensures

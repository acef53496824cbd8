-- `settle::settle` meets its contract: records and pool are filled side by side (`Moving`). Assumes nothing.
use Rattle.settle.specs.Moving.{moving_start, moving_record, moving_fits, moving_packs, moving_turn, moving_end}
use Rattle.settle.proofs.settle.Goals as goal

pub loop-j-init : goal.loop-j-init
loop-j-init c = moving_start c.requires

pub put_text-at-requires : goal.put_text-at-requires
put_text-at-requires c = moving_fits c.loop-j.invariant (search) c.record_at-r.ensures

pub put_record-requires : goal.put_record-requires
put_record-requires c = moving_packs c.loop-j.invariant (search) c.record_at-r.ensures c.put_text-at.ensures c.placed_at-s.ensures

pub loop-j-preserved : goal.loop-j-preserved
loop-j-preserved c =
    moving_turn c.loop-j.invariant (search) c.record_at-r.ensures c.put_text-at.ensures c.placed_at-s.ensures c.put_record.ensures

pub returns : goal.returns
returns c = moving_end c.loop-j.invariant c.loop-j-test.false

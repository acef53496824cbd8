-- `repack::put_texts` meets its contract. The texts of the entries that are left fill the rest (`Copying`). Assumes nothing.
use Rattle.repack.specs.RepackLaws.{copying_start, copying_fits, copying_turn, copying_end}
use Rattle.repack.proofs.put_texts.Goals as goal

pub loop-j-init : goal.loop-j-init
loop-j-init c = copying_start _ _ _ c.requires

pub put_slice-at-requires : goal.put_slice-at-requires
put_slice-at-requires c = copying_fits c.loop-j.invariant c.loop-j-test.true c.entry_at-e.ensures c.text_at-t.ensures

pub loop-j-preserved : goal.loop-j-preserved
loop-j-preserved c = copying_turn c.loop-j.invariant c.loop-j-test.true c.entry_at-e.ensures c.text_at-t.ensures c.put_slice-at.ensures

pub returns : goal.returns
returns c = copying_end c.loop-j.invariant c.loop-j-test.false

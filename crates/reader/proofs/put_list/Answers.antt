-- `reader::put_list` meets its contract: entries, and texts behind them. Assumes nothing.
use Rattle.octets.specs.Filling.{writing_fits, writing_next, writing_end}
use Rattle.reader.specs.ReaderLaws.{list-start}
use Rattle.reader.proofs.put_list.Goals as goal

pub put_entries-at-requires : goal.put_entries-at-requires
put_entries-at-requires c = (c.requires.0, writing_fits (list-start _ _ c.args.out.now c.requires.1))

pub put_texts-at-requires : goal.put_texts-at-requires
put_texts-at-requires c = writing_fits (writing_next (list-start _ _ c.args.out.now c.requires.1) c.put_entries-at.ensures)

pub returns : goal.returns
returns c =
    writing_end (writing_next (writing_next (list-start _ _ c.args.out.now c.requires.1) c.put_entries-at.ensures) c.put_texts-at.ensures)

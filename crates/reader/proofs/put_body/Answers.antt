-- `reader::put_body` meets its contract: the arity list in its place, the records, and their texts. Assumes nothing.
use Rattle.reader.specs.ReaderLaws.{ready_walk, walk-left, body-front, list-room, body_settles, body-wrote}
use Rattle.reader.proofs.put_body.Goals as goal

pub put_list-size-requires : goal.put_list-size-requires
put_list-size-requires c =
    (c.requires.0.few, list-room c.requires.0 c.requires.1.held c.requires.1.named c.args.out.now c.requires.1.room)

pub settle-requires : goal.settle-requires
settle-requires c =
    body_settles c.requires.0 c.requires.1.held c.requires.1.named c.args.out.now c.requires.1.room c.put_list-size.ensures (walk-left _ _ _ _ c.walk_terms.ensures c.requires.1.held)

pub returns : goal.returns
returns c =
    body-wrote c.requires.0 c.requires.1.held c.requires.1.named c.args.out.now c.requires.1.room c.put_list-size.ensures (walk-left _ _ _ _ c.walk_terms.ensures c.requires.1.held) c.settle.ensures

pub slice_bounds-put_list-count : goal.slice_bounds-put_list-count
slice_bounds-put_list-count c = body-front c.requires.0 c.requires.1.held c.requires.1.named c.args.out.now c.requires.1.room

pub slice_bounds-put_list-start : goal.slice_bounds-put_list-start
slice_bounds-put_list-start c = body-front c.requires.0 c.requires.1.held c.requires.1.named c.args.out.now c.requires.1.room

-- `arity::Arities::args_at` meets its contract: its mark and its segments spell the path's text. Assumes nothing.
use Rattle.std.proofs.Common.{arith}
use Rattle.path.specs.PathWriting.{text_at_lem}
use Rattle.path.specs.PathSpelled.{path-spelled}
use Rattle.arity.specs.SearchLaws.{seeking_start, seeking_end}
use Rattle.arity.proofs.Arities.args_at.Goals as goal

pub returns-then-self-lt8 : goal.returns-then-self-lt8
returns-then-self-lt8 c = seeking_end (seeking_start _ _ _ c.args.self.now.fit) (omega arith)

pub overflow_sub-n : goal.overflow_sub-n
overflow_sub-n c = omega (arith, (text_at_lem c.requires c.root_at-k.ensures).size)

pub overflow_add-n : goal.overflow_add-n
overflow_add-n c = let s = (text_at_lem c.requires c.root_at-k.ensures) in omega (arith, s.size, s.most)

pub overflow_add-at : goal.overflow_add-at
overflow_add-at c = omega (arith, (text_at_lem c.requires c.root_at-k.ensures).mark)

pub slice_bounds-seek-end : goal.slice_bounds-seek-end
slice_bounds-seek-end c = (text_at_lem c.requires c.root_at-k.ensures).mark

pub overflow_mul-n : goal.overflow_mul-n
overflow_mul-n c = omega (arith, (text_at_lem c.requires c.root_at-k.ensures).most)

pub overflow_sub-next : goal.overflow_sub-next
overflow_sub-next c = (text_at_lem c.requires c.root_at-k.ensures).behind

pub slice_bounds-seek-count-2 : goal.slice_bounds-seek-count-2
slice_bounds-seek-count-2 c = omega (arith, (text_at_lem c.requires c.root_at-k.ensures).there)

pub slice_bounds-seek-start-2 : goal.slice_bounds-seek-start-2
slice_bounds-seek-start-2 c = omega (arith, (text_at_lem c.requires c.root_at-k.ensures).there)

pub seek-requires : goal.seek-requires
seek-requires c = (path-spelled (text_at_lem c.requires c.root_at-k.ensures)).there

pub returns : goal.returns
returns c = rw (path-spelled (text_at_lem c.requires c.root_at-k.ensures)).is at c.seek.ensures

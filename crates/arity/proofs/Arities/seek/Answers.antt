-- `arity::Arities::seek` meets its contract. What is in the window decides (`Seeking`). Assumes nothing.
use Rattle.std.proofs.Common.{arith}
use Rattle.arity.specs.SearchLaws.{seeking_start, seeking_below, seeking_same, seeking_above, seeking_end}
use Rattle.arity.proofs.Arities.seek.Goals as goal

pub loop-low-init : goal.loop-low-init
loop-low-init c = seeking_start _ _ _ c.args.self.now.fit

pub loop-low-preserved-in-Less : goal.loop-low-preserved-in-Less
loop-low-preserved-in-Less c =
    seeking_below c.loop-low.invariant (omega arith) (omega arith) c.entry_at-e.ensures c.text_at.ensures c.compare.ensures c.in-Less.is

pub returns-in-Equal : goal.returns-in-Equal
returns-in-Equal c =
    seeking_same c.loop-low.invariant (omega arith) (omega arith) c.entry_at-e.ensures c.text_at.ensures c.compare.ensures c.in-Equal.is

pub loop-low-preserved : goal.loop-low-preserved
loop-low-preserved c =
    seeking_above c.loop-low.invariant (omega arith) (omega arith) c.entry_at-e.ensures c.text_at.ensures c.compare.ensures c.in-Greater.is

pub returns : goal.returns
returns c = seeking_end c.loop-low.invariant c.loop-low-test.false

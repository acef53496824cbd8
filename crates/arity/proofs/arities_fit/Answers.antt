-- `arity::arities_fit` meets its contract. The entries not yet looked at, behind the last text, decide the whole (`Fitting`). Assumes nothing.
use Rattle.arity.specs.ArityLaws.{fitting_start, fitting_turn, fitting_bad, fitting_end}
use Rattle.arity.proofs.arities_fit.Goals as goal

pub loop-j-init : goal.loop-j-init
loop-j-init c = fitting_start _ _

pub loop-j-preserved : goal.loop-j-preserved
loop-j-preserved c =
    fitting_turn c.loop-j.invariant c.loop-j-test.true c.entry_at-e.ensures c.follows.ensures (search) c.text_at-last.ensures

pub returns-then-not-follows : goal.returns-then-not-follows
returns-then-not-follows c = fitting_bad c.loop-j.invariant c.loop-j-test.true c.entry_at-e.ensures c.follows.ensures (search)

pub returns : goal.returns
returns c = fitting_end c.loop-j.invariant c.loop-j-test.false

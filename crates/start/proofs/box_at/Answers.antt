-- `start::box_at` meets its contract: each end of the code is one of `unbox`. Assumes nothing.
use Rattle.octets.specs.Reading.{got}
use Rattle.start.specs.Box.{opens-bare, opens_unmeasured, opens-short, opens-boxed}
use Rattle.start.proofs.box_at.Goals as goal

pub returns-then-not-boxed : goal.returns-then-not-boxed
returns-then-not-boxed c = opens-bare _ _ c.if-not-boxed.true c.requires

pub returns-in_err-size : goal.returns-in_err-size
returns-in_err-size c = rw c.from_residual.ensures (opens_unmeasured _ _ c.if-not-boxed.false c.pkg_length_at.ensures c.in_err-size.was)

pub overflow_sub-left : goal.overflow_sub-left
overflow_sub-left c = (got c.in_ok-size.was c.pkg_length_at.ensures).high

pub returns-then-left-size : goal.returns-then-left-size
returns-then-left-size c = opens-short _ _ c.if-not-boxed.false c.pkg_length_at.ensures c.in_ok-size.was c.if-left-size.true

pub returns : goal.returns
returns c = opens-boxed _ _ c.if-not-boxed.false c.pkg_length_at.ensures c.in_ok-size.was c.if-left-size.false

-- `settle::placed_at` meets its contract: an empty text starts at 0. Assumes nothing.
use Rattle.settle.specs.Moving.{placed_empty, placed-text}
use Rattle.settle.proofs.placed_at.Goals as goal

pub returns-then-r-eq0 : goal.returns-then-r-eq0
returns-then-r-eq0 c = placed_empty _ _ c.if-r-eq0.true

pub returns-else-r-eq0 : goal.returns-else-r-eq0
returns-else-r-eq0 c = placed-text _ _ c.if-r-eq0.false

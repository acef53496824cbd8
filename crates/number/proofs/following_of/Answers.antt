-- `number::following_of` meets its contract: its bounds are those of `following`. Assumes nothing.
use Rattle.std.proofs.Common.{sym, ◌∙◌}
use Rattle.number.specs.PkgLengthLaws.{following-steps}
use Rattle.number.proofs.following_of.Goals as goal

pub returns : goal.returns
returns c = c.reached.ensures.0 ∙ sym (following-steps _)

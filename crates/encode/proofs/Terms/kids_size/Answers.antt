-- `Terms::kids_size` meets its contract: what is kept is right, and what is measured is kept. Assumes nothing.
use Rattle.std.proofs.Common.{sym, ◌∙◌}
use Rattle.encode.specs.Kept.{parent_got}
use Rattle.encode.proofs.Terms.kids_size.Goals as goal

pub returns-in-Some : goal.returns-in-Some
returns-in-Some c = (parent_got c.requires.1 c.requires.0 (sym c.in-Some.is ∙ c.kept_at.ensures), c.requires.1)

-- `path::root_at` meets its contract: by the byte there. Assumes nothing.
use Rattle.std.proofs.Common.{◌∙◌}
use Rattle.path.specs.PathText.{root_none, root-byte}
use Rattle.path.proofs.root_at.Goals as goal

pub returns-in-Some : goal.returns-in-Some
returns-in-Some c = let (there, is) = c.in-Some.ensures.lookup.3 in c.from.ensures ∙ root-byte _ _ there (is 0)

pub returns-in-None : goal.returns-in-None
returns-in-None c = root_none _ c.in-None.ensures.lookup.3

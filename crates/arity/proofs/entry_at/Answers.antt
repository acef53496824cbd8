-- `arity::entry_at` meets its contract: three numbers. Assumes nothing.
use Rattle.arity.specs.ArityLaws.{entry-made}
use Rattle.arity.proofs.entry_at.Goals as goal

pub returns : goal.returns
returns c = entry-made _ _ c.get_le-start.ensures.is c.get_le-len.ensures.is c.get_le-args.ensures.is

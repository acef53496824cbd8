-- `Own::boxed_len` meets its contract: the size of the body, or none is asked for. Assumes nothing.
use Rattle.encode.specs.Terms.{framed-none}
use Rattle.encode.proofs.Own.boxed_len.Goals as goal

pub returns-else-boxed_at : goal.returns-else-boxed_at
returns-else-boxed_at c = framed-none _ _ c.boxed_at.ensures c.if-boxed_at.false

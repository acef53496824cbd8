-- `leaves_main::uuid_into` writes only what was tested, with enough room. Assumes nothing.
use native.Mathlib.Omega.{arith}
use mathlib.Core.Path.{sym, ◌∙◌}
use Rattle.octets.specs.Tests.{true_test}
use Rattle.leaves_main.proofs.uuid_into.Goals as goal

pub put_uuid-requires : goal.put_uuid-requires
put_uuid-requires c = (true_test _ (sym c.is_uuid.ensures ∙ c.if-is_uuid.true), omega arith)

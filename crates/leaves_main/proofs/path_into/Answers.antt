-- `leaves_main::path_into` writes only what was tested, with enough room. Assumes nothing.
use mathlib.Core.Path.{sym, ◌∙◌}
use native.Mathlib.Omega.{arith}
use Rattle.octets.specs.Tests.{true_test}
use Rattle.path.specs.PathLaws.{path-most}
use Rattle.leaves_main.proofs.path_into.Goals as goal

pub put_path-requires : goal.put_path-requires
put_path-requires c = (true_test _ (sym c.is_path.ensures ∙ c.if-is_path.true), omega (arith, path-most c.args.t.now))

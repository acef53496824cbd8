-- `leaves_main::path_text_into` has room for the text whose length was read. Assumes nothing.
use Rattle.std.proofs.Common.{arith}
use Rattle.octets.specs.Reading.{got}
use Rattle.path.specs.PathCode.{text-read}
use Rattle.leaves_main.proofs.path_text_into.Goals as goal

pub put_path_text-requires : goal.put_path_text-requires
put_path_text-requires c = omega (arith, (text-read _ _ _ (got c.in-Some.is c.path_at.ensures).is).1)

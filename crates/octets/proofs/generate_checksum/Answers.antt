-- `octets::generate_checksum` meets its contract: what wraps to 0 with the sum is the sum negated. Assumes nothing.
use Rattle.std.proofs.Common.{ap, ◌∙◌, arith}
use Rattle.octets.specs.Sum.{negated}
use Rattle.octets.specs.SumLaws.{negated-is}
use Rattle.octets.proofs.generate_checksum.Goals as goal

pub returns : goal.returns
returns c = negated-is _ _ (omega arith) (omega arith) ∙ ap negated c.byte_sum.ensures

use Rattle.octets.specs.SumLaws.{Summing}
use Rattle.octets.proofs.byte_sum.Given as goal

abbrev pub invariant-loop-byte : goal.invariant-loop-byte
invariant-loop-byte l = Summing l.b l.sum l.byte-index

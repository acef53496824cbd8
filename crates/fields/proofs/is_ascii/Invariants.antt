use Rattle.fields.proofs.Looking.{Looking}
use Rattle.fields.proofs.is_ascii.Given as goal

abbrev pub invariant-loop-byte : goal.invariant-loop-byte
invariant-loop-byte l = Looking l.t l.fine l.byte-index

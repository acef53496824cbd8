-- What an answer of the checker says as a verdict: 0 where nothing is refused. Document 01, "Refusal numbers".
-- Assumes nothing.
use Rattle.std.specs.Prelude.{Result, Ok, Err}
use Rattle.refusal.specs.declared.Fault.{Fault}
use Rattle.refusal.specs.Number.{number}
use Rattle.checker.specs.Refusal.{Verdict, verdict}

abbrev pub verdict_said : {A : Type 0} → Result A Fault → Verdict
verdict_said (Ok a) = verdict 0 0
verdict_said (Err f) = verdict (number f.refusal) f.index

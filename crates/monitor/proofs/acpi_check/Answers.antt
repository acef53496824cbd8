-- `monitor::acpi_check` meets its contract: `check`, in a struct that C has. Assumes nothing.
use Rattle.std.proofs.Common.{rules, ◌≡◌}
use Rattle.checker.specs.Refusal.{refusal_of}
use Rattle.encode.specs.Encode.{answer_of}
use Rattle.monitor.specs.Face.{verdict_of}
use Rattle.monitor.specs.FaceLaws.{verdict-narrow}
use Rattle.monitor.proofs.acpi_check.Goals as goal

pub faced-requires : goal.faced-requires
faced-requires c =
    let e : answer_of c.map.result ≡ verdict_of (refusal_of c.args.file.now) = search rules in
    verdict-narrow c.args.file.now e

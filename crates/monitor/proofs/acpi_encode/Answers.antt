-- `monitor::acpi_encode` meets its contract: `encode`, in a struct that C has. Assumes nothing.
use Rattle.monitor.specs.FaceLaws.{encode_narrow, answered-narrow}
use Rattle.monitor.proofs.acpi_encode.Goals as goal

pub faced-requires : goal.faced-requires
faced-requires c = answered-narrow (encode_narrow _ _) c.encode.ensures

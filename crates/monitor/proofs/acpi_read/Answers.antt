-- `monitor::acpi_read` meets its contract: `read`, in a struct that C has. Assumes nothing.
use Rattle.monitor.specs.FaceLaws.{read-narrow, answered-narrow}
use Rattle.monitor.proofs.acpi_read.Goals as goal

pub faced-requires : goal.faced-requires
faced-requires c = answered-narrow (read-narrow _ _ _) c.read.ensures

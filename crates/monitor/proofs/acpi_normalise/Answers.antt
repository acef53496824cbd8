-- `monitor::acpi_normalise` meets its contract: `normalise`, in a struct that C has. Assumes nothing.
use Rattle.monitor.specs.FaceLaws.{normalise_narrow, answered-narrow}
use Rattle.monitor.proofs.acpi_normalise.Goals as goal

pub faced-requires : goal.faced-requires
faced-requires c = answered-narrow (normalise_narrow _ _) c.normalise.ensures

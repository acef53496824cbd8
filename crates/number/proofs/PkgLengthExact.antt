-- A PkgLength is read back as what it was written for, and no other bytes are read.
use Rattle.std.specs.Prelude.{Bool, ◌≤◌}
use Rattle.octets.specs.Exact.{Exact}
use Rattle.number.specs.PkgLength.{largest, create_pkg_length}
use Rattle.number.specs.Get.{get_pkg_length}
use Rattle.number.specs.PkgLengthLaws.{pkg_length-back, pkg_length-only}

pub pkg_length_exact : (self : Bool) → Exact (create_pkg_length self) (get_pkg_length self) (λ n. n ≤ largest self)
pkg_length_exact self = record { back = pkg_length-back self; only = pkg_length-only self }

-- `leaves_main::pkg_length` lends a length enough room. Assumes nothing.
use Rattle.std.proofs.Common.{arith}
use Rattle.number.specs.PkgLengthLaws.{pkg_length-length, following-most}
use Rattle.leaves_main.proofs.pkg_length.Goals as goal

pub create_pkg_length-k-requires : goal.create_pkg_length-k-requires
create_pkg_length-k-requires c =
    (omega (arith, pkg_length-length c.args.include_self c.args.n, following-most c.args.n), c.requires)

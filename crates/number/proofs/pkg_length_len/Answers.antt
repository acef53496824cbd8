-- `number::pkg_length_len` meets its contract: the size is the same for both. Assumes nothing.
use Rattle.std.proofs.Common.{true, false, arith}
use Rattle.number.specs.PkgLengthLaws.{following-most, pkg_length-length}
use Rattle.number.proofs.pkg_length_len.Goals as goal

pub overflow_add-result : goal.overflow_add-result
overflow_add-result c = omega (arith, c.following_of.ensures, following-most c.args.n)

pub returns : goal.returns
returns c =
    (omega (arith, c.following_of.ensures, pkg_length-length true c.args.n), omega (arith, c.following_of.ensures, pkg_length-length false c.args.n))

-- `number::create_pkg_length` meets its contract: its parts are those of the length. Assumes nothing.
use Rattle.std.proofs.Common.{arith}
use Rattle.octets.specs.Filling.{wrote_as}
use Rattle.number.specs.PkgLengthLaws.{following-most, own-most, lead_small, pkg_length-parts}
use Rattle.number.proofs.create_pkg_length.Goals as goal

pub own_of-requires : goal.own_of-requires
own_of-requires c = omega (arith, c.following_of-k.ensures, following-most c.args.n)

pub overflow_add-m : goal.overflow_add-m
overflow_add-m c =
    omega (arith, c.following_of-k.ensures, following-most c.args.n, c.own_of.ensures, own-most c.args.include_self c.following_of-k.result, c.requires.1)

pub lead_of-requires : goal.lead_of-requires
lead_of-requires c =
    (omega (arith, c.following_of-k.ensures, following-most c.args.n), lead_small c.args.include_self c.args.n c.following_of-k.ensures c.own_of.ensures)

pub put_lead-requires : goal.put_lead-requires
put_lead-requires c =
    rw (pkg_length-parts c.args.include_self c.args.n c.following_of-k.ensures c.own_of.ensures c.lead_of.ensures) at c.requires.0

pub returns : goal.returns
returns c =
    wrote_as (pkg_length-parts c.args.include_self c.args.n c.following_of-k.ensures c.own_of.ensures c.lead_of.ensures) c.put_lead.ensures

-- `encode_main::put_decimal` meets its contract: the kit's digits are those of the definition.
use mathlib.Core.Path.{sym, ◌∙◌}
use Rattle.octets.specs.Filling.{wrote_as}
use Rattle.encode_main.specs.ProgramLaws.{decimal-is}
use Rattle.encode_main.proofs.put_decimal.Goals as goal

pub put_slice-requires : goal.put_slice-requires
put_slice-requires c =
    rw (c.decimal-k.ensures.digits ∙ decimal-is c.args.n c.decimal-k.result c.ranges.n.fits c.decimal-k.ensures.len) c.requires

pub returns : goal.returns
returns c =
    wrote_as (sym (c.decimal-k.ensures.digits ∙ decimal-is c.args.n c.decimal-k.result c.ranges.n.fits c.decimal-k.ensures.len)) c.put_slice.ensures

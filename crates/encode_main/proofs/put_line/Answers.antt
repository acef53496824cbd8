-- `encode_main::put_line` meets its contract: one line for 14, the other for every other number.
use Rattle.std.proofs.Common.{◌∙◌}
use Rattle.octets.specs.Filling.{wrote_as}
use Rattle.encode_main.specs.ProgramLaws.{line_short, line_other}
use Rattle.encode_main.proofs.put_line.Goals as goal

pub put_slice-requires : goal.put_slice-requires
put_slice-requires c = rw (line_short _ c.args.fault.index c.in-OutputShort.is) at c.requires

pub returns-in-OutputShort : goal.returns-in-OutputShort
returns-in-OutputShort c = wrote_as (line_short _ c.args.fault.index c.in-OutputShort.is) c.put_slice.ensures

pub put_refused-requires : goal.put_refused-requires
put_refused-requires c =
    rw (line_other _ c.args.fault.index c.in_default.not-OutputShort (c.from.ensures ∙ c.number.ensures)) at c.requires

pub returns-in_default : goal.returns-in_default
returns-in_default c =
    wrote_as (line_other _ c.args.fault.index c.in_default.not-OutputShort (c.from.ensures ∙ c.number.ensures)) c.put_refused.ensures

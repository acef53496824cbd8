-- `ident::hex_digit` meets its contract: the three ranges of digits (`Hex`). Assumes nothing.
use Rattle.std.proofs.Common.{arith}
use Rattle.ident.specs.IdentLaws.{hex_is, digit_figure, digit_upper, digit_lower}
use Rattle.ident.proofs.hex_digit.Goals.{in_default-via-then-b-lt48, in_default-via-else-b-lt48+else-b-lt58+then-b-lt65, in_default-via-else-b-lt48+else-b-lt58+else-b-lt65+else-b-lt71}
use Rattle.ident.proofs.hex_digit.Goals as goal

pub overflow_sub-b-in_default : goal.overflow_sub-b-in_default
overflow_sub-b-in_default c =
    let h = hex_is c.args.b c.requires in
    elim c.in_default.branch [
      | in_default-via-then-b-lt48 w ↦ omega (arith, h)
      | in_default-via-else-b-lt48+else-b-lt58+then-b-lt65 w ↦ omega (arith, h)
      | in_default-via-else-b-lt48+else-b-lt58+else-b-lt65+else-b-lt71 w ↦ omega (arith, h)
    ]

pub returns-in-48-to-57 : goal.returns-in-48-to-57
returns-in-48-to-57 c = (omega (arith, c.from.ensures, digit_figure c.args.b (omega arith)), omega (arith, c.from.ensures))

pub returns-in-65-to-70 : goal.returns-in-65-to-70
returns-in-65-to-70 c = (omega (arith, c.from-in-65-to-70.ensures, digit_upper c.args.b (omega arith) (omega arith)), omega (arith, c.from-in-65-to-70.ensures))

pub returns-in_default : goal.returns-in_default
returns-in_default c =
    let h = hex_is c.args.b c.requires in
    elim c.in_default.branch [
      | in_default-via-then-b-lt48 w ↦ absurd (omega (arith, h))
      | in_default-via-else-b-lt48+else-b-lt58+then-b-lt65 w ↦ absurd (omega (arith, h))
      | in_default-via-else-b-lt48+else-b-lt58+else-b-lt65+else-b-lt71 w ↦
          (omega (arith, h, c.from-in_default.ensures, digit_lower c.args.b (omega arith)), omega (arith, h, c.from-in_default.ensures))
    ]

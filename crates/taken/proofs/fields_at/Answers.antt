-- `taken::fields_at` meets its contract: the text's length, the number behind it, and what that holds. Assumes nothing.
use Rattle.std.proofs.Common.{refl}
use Rattle.octets.specs.Reading.{got, got-none}
use Rattle.taken.specs.TakenLaws.{fields_textless, fields_numberless, fields_unfit, fields-whole}
use Rattle.taken.proofs.fields_at.Goals as goal

pub returns-in_err-len : goal.returns-in_err-len
returns-in_err-len c = rw c.from_residual.ensures (fields_textless _ _ _ (got-none refl c.in_err-len.ensures))

pub number_at-requires : goal.number_at-requires
number_at-requires c = (c.requires.0, (got refl c.in_ok-len.ensures).high)

pub returns-in_err-w : goal.returns-in_err-w
returns-in_err-w c = rw c.from_residual-in_err-w.ensures (fields_numberless _ _ _ c.in_ok-len.ensures (got-none refl c.in_err-w.ensures))

pub returns-in_err-a : goal.returns-in_err-a
returns-in_err-a c = rw c.from_residual-in_err-a.ensures (fields_unfit _ _ _ c.in_ok-len.ensures c.in_ok-w.ensures c.in_err-a.ensures)

pub returns : goal.returns
returns c = fields-whole _ _ _ c.in_ok-len.ensures c.in_ok-w.ensures c.in_ok-a.ensures

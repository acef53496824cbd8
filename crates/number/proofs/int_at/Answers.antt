-- `number::int_at` meets its contract: each end of the code is one of `get_integer`. Assumes nothing.
use Rattle.std.proofs.Common.{sym, ◌∙◌, arith}
use Rattle.number.specs.IntegerLaws.{announced-most, integer_end, integer-one, integer-other, integer-cut, integer_not, integer-done}
use Rattle.number.proofs.int_at.Goals as goal

pub returns-in_err-c : goal.returns-in_err-c
returns-in_err-c c = rw c.from_residual.ensures (integer_end _ _ c.in_err-c.ensures.lookup.3)

pub returns-then-c-lt2 : goal.returns-then-c-lt2
returns-then-c-lt2 c =
    let (there, is) = c.in_ok-c.ensures.lookup.3 in
    integer-one _ _ there _ (c.from.ensures ∙ is 0) (omega (arith, c.from.ensures))

pub returns-in_err-w : goal.returns-in_err-w
returns-in_err-w c =
    let (there, is) = c.in_ok-c.ensures.lookup.3 in
    rw c.from_residual-in_err-w.ensures (integer-other _ _ there _ (is 0) c.if-c-lt2.false c.in_err-w.ensures)

pub le_at-requires : goal.le_at-requires
le_at-requires c = (rw c.in_ok-w.ensures.1 (announced-most _), omega (arith, c.in_ok-c.ensures.lookup.3.0))

pub returns-in_err-x : goal.returns-in_err-x
returns-in_err-x c =
    let (there, is) = c.in_ok-c.ensures.lookup.3 in
    rw c.from_residual-in_err-x.ensures (integer-cut _ _ there _ (is 0) c.if-c-lt2.false _ c.in_ok-w.ensures.1 c.in_err-x.ensures)

pub returns-then-own_form : goal.returns-then-own_form
returns-then-own_form c =
    let (there, is) = c.in_ok-c.ensures.lookup.3 in
    integer-done _ _ there _ (is 0) c.if-c-lt2.false _ c.in_ok-w.ensures.1 c.in_ok-x.ensures (sym c.own_form.ensures ∙ c.if-own_form.true)

pub returns-else-own_form : goal.returns-else-own_form
returns-else-own_form c =
    let (there, is) = c.in_ok-c.ensures.lookup.3 in
    integer_not _ _ there _ (is 0) c.if-c-lt2.false _ c.in_ok-w.ensures.1 c.in_ok-x.ensures (sym c.own_form.ensures ∙ c.if-own_form.false)

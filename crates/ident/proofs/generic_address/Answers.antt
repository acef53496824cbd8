-- `ident::generic_address` meets its contract: a width that has an access size is at most 8. Assumes nothing.
use Rattle.std.proofs.Common.{arith, rules}
use Rattle.std.proofs.lemmas.Result.{err_from_is_err_and}
use Rattle.ident.specs.Gas.{space_id}
use Rattle.ident.specs.GasLaws.{access_width, made_refused, made_some}
use Rattle.ident.proofs.generic_address.Goals as goal

pub returns-in_err-access_size : goal.returns-in_err-access_size
returns-in_err-access_size c =
    let p = err_from_is_err_and c.from_residual.result c.from_residual.ensures.1 in
    rw (p.1, p.2) (made_refused (space_id c.args.space) c.args.width c.args.address _ c.in_err-access_size.ensures.0 c.in_err-access_size.ensures.1)

pub overflow_mul-result : goal.overflow_mul-result
overflow_mul-result c = omega (arith, access_width c.args.width (λ z. omega (arith, z, c.in_ok-access_size.ensures)))

pub overflow_cast-result : goal.overflow_cast-result
overflow_cast-result c = omega (arith, access_width c.args.width (λ z. omega (arith, z, c.in_ok-access_size.ensures)))

pub returns : goal.returns
returns c = made_some (space_id c.args.space) c.args.width c.args.address (search rules) c.in_ok-access_size.ensures.0 c.in_ok-access_size.ensures.1

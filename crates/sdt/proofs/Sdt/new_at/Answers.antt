-- `sdt::Sdt::new_at` meets its contract: refused, or header and zeros in a row, and sealed. Assumes nothing.
use Rattle.std.proofs.Common.{arith, add-zero}
use Rattle.std.proofs.lemmas.Result.{err_from_is_err_and}
use Rattle.sdt.specs.AnswerLaws.{new_under, new_refused, new-done}
use Rattle.sdt.proofs.Sdt.new_at.Goals as goal

pub returns-then-length-lt36 : goal.returns-then-length-lt36
returns-then-length-lt36 c = λ t. new_under _ _ t _ c.if-length-lt36.true

pub returns-in_err-n : goal.returns-in_err-n
returns-in_err-n c =
    let p = err_from_is_err_and c.from_residual.result c.from_residual.ensures.1 in
    rw (p.1, p.2) (λ t. new_refused _ _ t _ c.if-length-lt36.false _ (rw add-zero at c.in_err-n.ensures))

pub returns : goal.returns
returns c =
    let cleared = c.fill.ensures.after (λ y e. e) in
    new-done c.args.identity.now c.told-identity c.if-length-lt36.false (omega arith) c.put_header-at.ensures c.in_ok-n.ensures.0 c.in_ok-n.ensures.1 cleared c.update_checksum.ensures

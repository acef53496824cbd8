-- `sdt::Sdt::append_at` meets its contract: refused, or laid behind the table and sealed. Assumes nothing.
use Rattle.std.proofs.Common.{sym, ◌∙◌, arith}
use Rattle.std.proofs.lemmas.Result.{err_from_is_err_and}
use Rattle.sdt.specs.AnswerLaws.{append_unsound, append-refused, append-done}
use Rattle.sdt.proofs.Sdt.append_at.Goals as goal

pub returns-then-not-is_sound : goal.returns-then-not-is_sound
returns-then-not-is_sound c = append_unsound _ _ _ (sym c.is_sound.ensures.says ∙ c.if-not-is_sound.true)

pub returns-in_err-end : goal.returns-in_err-end
returns-in_err-end c =
    let p = err_from_is_err_and c.from_residual.result c.from_residual.ensures.1 in
    rw (p.1, p.2) (append-refused _ _ _ (sym c.is_sound.ensures.says ∙ c.if-not-is_sound.false) _ c.in_err-end.ensures)

pub returns : goal.returns
returns c =
    append-done _ _ _ (sym c.is_sound.ensures.says ∙ c.if-not-is_sound.false) (omega arith) c.put_slice.ensures c.in_ok-end.ensures.0 (omega arith) c.update_checksum.ensures

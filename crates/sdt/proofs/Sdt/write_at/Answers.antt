-- `sdt::Sdt::write_at` meets its contract: refused, or laid over its place and sealed. Assumes nothing.
use Rattle.std.proofs.Common.{sym, ◌∙◌, arith, add-zero}
use Rattle.std.proofs.lemmas.Result.{err_from_is_err_and}
use Rattle.sdt.specs.AnswerLaws.{write_unsound, write_unwritable, write_refused, write_done}
use Rattle.sdt.proofs.Sdt.write_at.Goals as goal

pub returns-then-not-is_sound : goal.returns-then-not-is_sound
returns-then-not-is_sound c = write_unsound _ _ _ _ (sym c.is_sound.ensures.says ∙ c.if-not-is_sound.true)

pub returns-then-not-is_writable : goal.returns-then-not-is_writable
returns-then-not-is_writable c =
    write_unwritable _ _ _ _ (sym c.is_sound.ensures.says ∙ c.if-not-is_sound.false) (sym c.is_writable.ensures.says ∙ c.if-not-is_writable.true)

pub returns-in_err-n : goal.returns-in_err-n
returns-in_err-n c =
    let p = err_from_is_err_and c.from_residual.result c.from_residual.ensures.1 in
    let sound = sym c.is_sound.ensures.says ∙ c.if-not-is_sound.false in
    let writable = sym c.is_writable.ensures.says ∙ c.if-not-is_writable.false in
    rw (p.1, p.2) (write_refused _ _ _ _ sound writable _ (rw add-zero at c.in_err-n.ensures))

pub returns : goal.returns
returns c =
    let sound = sym c.is_sound.ensures.says ∙ c.if-not-is_sound.false in
    write_done _ _ _ _ sound (sym c.is_writable.ensures.says ∙ c.if-not-is_writable.false) c.put_slice.ensures (omega arith) (omega arith) c.update_checksum.ensures

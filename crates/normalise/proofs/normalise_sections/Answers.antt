-- `normalise::normalise_sections` meets its contract: refused by the figures, or the file. Assumes nothing.
use Rattle.std.proofs.Common.{arith}
use Rattle.std.proofs.lemmas.Result.{err_from_is_err_and}
use Rattle.encode.specs.Answer.{figures_within}
use Rattle.encode.specs.TableLaws.{walked-refused, walked-short, walked-done}
use Rattle.normalise.specs.SectionLaws.{names_most, all_most, file-size, measured}
use Rattle.normalise.proofs.normalise_sections.Goals as goal

pub returns-in_err-late_number : goal.returns-in_err-late_number
returns-in_err-late_number c =
    let (f, e, q) = err_from_is_err_and c.from_residual.result c.from_residual.ensures.1 in
    rw (e, q) (walked-refused (rw c.count.ensures at c.sizes_of-s.ensures) _ c.args.out.now c.in_err-late_number.ensures)

pub overflow_mul-size : goal.overflow_mul-size
overflow_mul-size c = omega (arith, (figures_within _ _ _ c.in_ok-late_number.ensures).0)

pub overflow_add-size : goal.overflow_add-size
overflow_add-size c = omega (arith, (figures_within _ _ _ c.in_ok-late_number.ensures).0)

pub overflow_add-size-2 : goal.overflow_add-size-2
overflow_add-size-2 c = omega (arith, (figures_within _ _ _ c.in_ok-late_number.ensures).0, c.requires.few)

pub overflow_add-size-3 : goal.overflow_add-size-3
overflow_add-size-3 c =
    omega (arith, names_most c.requires c.texts_len-names.ensures, all_most c.args.terms.now.sound c.texts_len-texts.ensures)

pub overflow_add-size-4 : goal.overflow_add-size-4
overflow_add-size-4 c =
    omega (arith, (figures_within _ _ _ c.in_ok-late_number.ensures).0, names_most c.requires c.texts_len-names.ensures, all_most c.args.terms.now.sound c.texts_len-texts.ensures, c.requires.few)

pub returns-then-out-size : goal.returns-then-out-size
returns-then-out-size c =
    let m = rw c.count.ensures at c.sizes_of-s.ensures in
    rw c.into.ensures (walked-short m _ c.args.out.now c.in_ok-late_number.ensures (file-size c.requires m c.texts_len-names.ensures c.texts_len-texts.ensures) c.if-out-size.true)

pub put_file-requires : goal.put_file-requires
put_file-requires c =
    measured c.requires (rw c.count.ensures at c.sizes_of-s.ensures) c.texts_len-names.ensures c.texts_len-texts.ensures c.in_ok-late_number.ensures c.args.out.now c.if-out-size.false

pub returns : goal.returns
returns c =
    let m = rw c.count.ensures at c.sizes_of-s.ensures in
    walked-done m _ c.args.out.now c.in_ok-late_number.ensures (file-size c.requires m c.texts_len-names.ensures c.texts_len-texts.ensures) c.if-out-size.false c.put_file.ensures

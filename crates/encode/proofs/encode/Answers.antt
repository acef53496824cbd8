-- `encode::encode` meets its contract: refused by the checker, or by its sections. Assumes nothing.
use Rattle.std.proofs.lemmas.Result.{err_from_is_err_and}
use Rattle.encode.specs.Answer.{encode_refused}
use Rattle.encode.specs.TableLaws.{own-identity, own-sound, own-answered}
use Rattle.encode.proofs.encode.Goals as goal

pub returns-in_err-sections : goal.returns-in_err-sections
returns-in_err-sections c =
    let (f, e, q) = err_from_is_err_and c.from_residual.result c.from_residual.ensures.1 in
    rw (e, q) (encode_refused c.args.file.now c.args.out.now c.in_err-sections.ensures.verdict)

pub invariant_of-terms : goal.invariant_of-terms
invariant_of-terms c =
    record { sound = own-sound c.args.file.now c.in_ok-sections.ensures.verdict c.in_ok-sections.ensures.sections (λ i. (c.type_inv.file i).fits) }

pub encode_sections-requires : goal.encode_sections-requires
encode_sections-requires c = own-identity c.args.file.now c.in_ok-sections.ensures.verdict c.in_ok-sections.ensures.sections

pub returns : goal.returns
returns c =
    own-answered c.args.file.now c.in_ok-sections.ensures.verdict c.in_ok-sections.ensures.sections c.args.out.now c.encode_sections.ensures

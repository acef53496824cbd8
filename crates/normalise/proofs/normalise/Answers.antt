-- `normalise::normalise` meets its contract: refused by the checker, or by its sections. Assumes nothing.
use Rattle.std.proofs.lemmas.Result.{err_from_is_err_and}
use Rattle.encode.specs.TableLaws.{own-sound}
use Rattle.normalise.specs.SectionLaws.{normalise_refused, own-sections, own-normalised}
use Rattle.normalise.proofs.normalise.Goals as goal

pub returns-in_err-sections : goal.returns-in_err-sections
returns-in_err-sections c =
    let (f, e, q) = err_from_is_err_and c.from_residual.result c.from_residual.ensures.1 in
    rw (e, q) (normalise_refused c.args.file.now c.args.out.now c.in_err-sections.ensures.verdict)

pub invariant_of-terms : goal.invariant_of-terms
invariant_of-terms c =
    record { sound = own-sound c.args.file.now c.in_ok-sections.ensures.verdict c.in_ok-sections.ensures.sections (λ i. (c.type_inv.file i).fits) }

pub normalise_sections-requires : goal.normalise_sections-requires
normalise_sections-requires c = own-sections c.args.file.now c.in_ok-sections.ensures.verdict c.in_ok-sections.ensures.sections

pub returns : goal.returns
returns c =
    own-normalised c.args.file.now c.in_ok-sections.ensures.verdict c.in_ok-sections.ensures.sections c.args.out.now c.normalise_sections.ensures

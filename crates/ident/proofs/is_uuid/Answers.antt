-- `ident::is_uuid` meets its contract: the length, the hyphens and the pairs of digits. Assumes nothing.
use Rattle.std.proofs.Common.{◌∙◌, sym}
use Rattle.ident.specs.IdentLaws.{sized_not, sized_so, uuid-not_hyphened, uuid-pairs}
use Rattle.ident.specs.Ident.{is_uuid}
use Rattle.ident.proofs.is_uuid.Goals.{then-t-eq36, else-t-eq36}
use Rattle.ident.proofs.is_uuid.Goals as goal

pub returns-then-has_hyphens : goal.returns-then-has_hyphens
returns-then-has_hyphens c =
    elim c.if-t-eq36.branch [
      | then-t-eq36 w ↦ c.has_pairs.ensures ∙ uuid-pairs _ w.if-t-eq36.true w.has_hyphens.ensures (sym w.value-is ∙ c.if-has_hyphens.true)
      | else-t-eq36 w ↦ absurd (w.if-t-eq36.false (sized_so (sym w.value-is ∙ c.if-has_hyphens.true)))
    ]

pub returns-else-has_hyphens : goal.returns-else-has_hyphens
unfolding is_uuid
returns-else-has_hyphens c =
    elim c.if-t-eq36.branch [
      | then-t-eq36 w ↦ c.if-has_hyphens.false ∙ uuid-not_hyphened _ w.if-t-eq36.true w.has_hyphens.ensures (sym w.value-is ∙ c.if-has_hyphens.false)
      | else-t-eq36 w ↦ c.if-has_hyphens.false ∙ sized_not _ _ w.if-t-eq36.false
    ]

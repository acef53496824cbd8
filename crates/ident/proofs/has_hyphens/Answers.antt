-- `ident::has_hyphens` meets its contract: the library tests each place. Assumes nothing.
use Rattle.std.proofs.Common.{◌∙◌, rules}
use Rattle.std.proofs.lemmas.Iterator.{YieldsList-from_slice}
use Rattle.std.proofs.lemmas.Iterator.Search.{all_from_yields_List}
use Rattle.ident.specs.Ident.{hyphen_places}
use Rattle.ident.specs.Parts.{is_hyphen}
use Rattle.ident.specs.Each.{list_all-every}
use Rattle.ident.proofs.has_hyphens.Goals as goal

pub returns : goal.returns
returns c =
    all_from_yields_List (is_hyphen c.args.t.now) _ _ _ c.all.ensures.ran (YieldsList-from_slice hyphen_places cc) (λ x b q k. search rules)
    ∙ list_all-every (is_hyphen c.args.t.now) hyphen_places

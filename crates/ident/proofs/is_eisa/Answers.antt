-- `ident::is_eisa` meets its contract: the length, the letters' part and the digits' part. Assumes nothing.
use Rattle.std.proofs.Common.{◌∙◌, sym, rules, take, drop, length, ◌-◌}
use Rattle.std.proofs.lemmas.Iterator.{YieldsList-from_slice}
use Rattle.std.proofs.lemmas.Iterator.Search.{all_from_yields_List}
use Rattle.ident.specs.Ident.{is_letter, is_hex, is_eisa}
use Rattle.ident.specs.Each.{list_all-every}
use Rattle.ident.specs.IdentLaws.{sized_not, sized_so, eisa-not_letters, eisa-digits}
use Rattle.ident.proofs.is_eisa.Goals.{then-t-eq7, else-t-eq7}
use Rattle.ident.proofs.is_eisa.Goals as goal

pub returns-then-all : goal.returns-then-all
returns-then-all c =
    let t = c.args.t.now in
    elim c.if-t-eq7.branch [
      | then-t-eq7 w ↦
          let letters = all_from_yields_List is_letter _ _ _ w.all.ensures.ran (YieldsList-from_slice (take 3 t) cc) (λ x b q k. search rules) ∙ list_all-every is_letter (take 3 t) in
          let rest = take (length t - 3) (drop 3 t) in
          let digits = all_from_yields_List is_hex _ _ _ c.all-then-all.ensures.ran (YieldsList-from_slice rest cc) (λ x b q k. search rules) ∙ list_all-every is_hex rest in
          digits ∙ eisa-digits t w.if-t-eq7.true letters (sym w.value-is ∙ c.if-all.true)
      | else-t-eq7 w ↦ absurd (w.if-t-eq7.false (sized_so (sym w.value-is ∙ c.if-all.true)))
    ]

pub returns-else-all : goal.returns-else-all
unfolding is_eisa
returns-else-all c =
    let t = c.args.t.now in
    elim c.if-t-eq7.branch [
      | then-t-eq7 w ↦
          let letters = all_from_yields_List is_letter _ _ _ w.all.ensures.ran (YieldsList-from_slice (take 3 t) cc) (λ x b q k. search rules) ∙ list_all-every is_letter (take 3 t) in
          c.if-all.false ∙ eisa-not_letters t w.if-t-eq7.true letters (sym w.value-is ∙ c.if-all.false)
      | else-t-eq7 w ↦ c.if-all.false ∙ sized_not _ _ w.if-t-eq7.false
    ]

-- `ident::eisa_name` meets its contract: the test decides, and the bits are swapped. Assumes nothing.
use Rattle.std.proofs.Common.{refl, sym, ap, ◌∙◌}
use Rattle.octets.specs.Tests.{true_test}
use Rattle.ident.specs.Ident.{swap_bytes, eisa_id}
use Rattle.ident.specs.IdentLaws.{swap_is}
use Rattle.ident.specs.EisaOf.{named, eisa_of}
use Rattle.ident.proofs.eisa_name.Goals as goal

pub returns-then-is_eisa : goal.returns-then-is_eisa
unfolding named eisa_of eisa_id
returns-then-is_eisa c =
    let swapped = c.from.ensures ∙ c.swap_bytes.ensures ∙ swap_is c.eisa_bits.result c.eisa_bits.type_inv ∙ ap swap_bytes c.eisa_bits.ensures in
    rw (sym c.is_eisa.ensures ∙ c.if-is_eisa.true, swapped) refl

pub returns-else-is_eisa : goal.returns-else-is_eisa
unfolding named eisa_of
returns-else-is_eisa c = rw (sym c.is_eisa.ensures ∙ c.if-is_eisa.false) refl

-- `written::eisa_value` meets its contract: the text is an EISA id, so that it has a value. Assumes nothing.
use Rattle.std.proofs.Common.{◌≡◌, refl, ◌∙◌, ap, ℕ, T, List, Option, Some, None}
use Rattle.std.specs.Option.{unwrap_or}
use Rattle.octets.specs.Tests.{cond_true}
use Rattle.ident.specs.Ident.{is_eisa, eisa_id}
use Rattle.ident.specs.EisaOf.{Named, named, eisa_of}
use Rattle.written.proofs.eisa_value.Goals as goal

unwrapped : (r : Option ℕ) → unwrap_or r 0 ≡ (named r).value
unfolding named
unwrapped (Some v) = refl
unwrapped None = refl

value-is : (t : List ℕ) (r : Option ℕ) → T (is_eisa t) → named r ≡ eisa_of t → unwrap_or r 0 ≡ eisa_id t
unfolding eisa_of
value-is t r h e = unwrapped r ∙ ap (λ (n : Named). n.value) (e ∙ cond_true (is_eisa t) _ _ h)

pub returns : goal.returns
returns c = c.unwrap_or.ensures ∙ value-is _ c.eisa_name.result c.requires c.eisa_name.ensures

-- What the reader of an EISA id answers, in document 01's numbers: the integer of a well-formed text, or that it is malformed.
use Rattle.std.specs.Prelude.{cond, List, ℕ, Option, Some, None}
use Rattle.ident.specs.Ident.{is_eisa, eisa_id}

-- a refusal's number, which is 0 where there is none, and the value
pub record Named : Type 0 where
  pub number : ℕ
  pub value : ℕ

-- each case of the answer; "text malformed or of wrong length" is 6
unfoldable pub named : Option ℕ → Named
named (Some v) = record { number = 0; value = v }
named None = record { number = 6; value = 0 }

unfoldable pub eisa_of : List ℕ → Named
eisa_of t = cond (is_eisa t) (record { number = 0; value = eisa_id t }) (record { number = 6; value = 0 })

-- A record's number, by its kind. Assumes nothing.
use Rattle.std.specs.Prelude.{◌≡◌, List, ℕ}
use Rattle.std.proofs.Math.Path.{refl}
use Rattle.std.proofs.Math.Option.{none, some}
use Rattle.grammar.specs.declared.Place.{Place}
use Rattle.grammar.specs.declared.Row.{Row}
use Rattle.grammar.specs.Kinds.{row_of}
use Rattle.term.specs.declared.Record.{Record}
use Rattle.arity.specs.Arity.{args_of}
use Rattle.checker.specs.Refusal.{text_of, fault, fault_as, fault_of}

module _ (arities pool : List ℕ) (p : Place) (l : ℕ) (r : Record) where
  pub fault_unknown : row_of r.kind ≡ none → 4 ≡ fault_of arities pool p l r
  unfolding fault_of fault_as
  fault_unknown e = rw e refl

  pub fault-known : {row : Row} {n : ℕ} → row_of r.kind ≡ some row → n ≡ fault row pool (args_of arities pool (text_of pool r)) p l r → n ≡ fault_of arities pool p l r
  unfolding fault_of fault_as
  fault-known e f = rw e f

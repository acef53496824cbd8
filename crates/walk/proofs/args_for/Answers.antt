-- `walk::args_for` meets its contract. Assumes nothing.
use Rattle.walk.specs.Calls.{call_element, call-other, no-call, is-call}
use Rattle.walk.proofs.args_for.Goals as goal

pub args_at-requires : goal.args_at-requires
args_at-requires c = c.requires (is-call c.in-Arity.is)

pub returns-in-Element : goal.returns-in-Element
returns-in-Element c = call_element _ _ c.in-Element.is c.in-Arity.is

pub returns-in_default-place : goal.returns-in_default-place
returns-in_default-place c = call-other _ _ c.in_default-place.not-Element c.in-Arity.is c.args_at.ensures

pub returns-in_default : goal.returns-in_default
returns-in_default c = no-call _ _ _ c.in_default.not-Arity

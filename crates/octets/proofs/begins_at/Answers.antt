-- `octets::begins_at` meets its contract: the library's test of what stands first is `begins`. Assumes nothing.
use Rattle.std.proofs.Common.{◌-◌, length, drop, ap, ◌∙◌, ⊎_elim, arith, take_all, length-drop}
use Rattle.octets.specs.Bytes.{begins}
use Rattle.octets.specs.Reading.{starts-begins, begins-past}
use Rattle.octets.proofs.begins_at.Goals as goal

pub returns-in-Some : goal.returns-in-Some
returns-in-Some c =
    let s = c.args.s.now in
    let e = take_all (length c.args.b.now - c.args.at) (drop c.args.at c.args.b.now) (rw length-drop (omega arith)) in
    c.starts_with.ensures.value ∙ starts-begins s _ ∙ ap (begins s) (c.in-Some.ensures.lookup.0.2 ∙ e)

pub returns-in-None : goal.returns-in-None
returns-in-None c = c.is_empty.ensures ∙ ⊎_elim (λ h. begins-past _ _ _ h) (λ h. absurd (omega arith)) c.in-None.ensures.lookup.0

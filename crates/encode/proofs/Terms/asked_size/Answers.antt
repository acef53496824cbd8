-- `Terms::asked_size` meets its contract: a box or a template asks for it. Assumes nothing.
use Rattle.std.proofs.Common.{sym, ◌∙◌, true≢false, ◌+◌, ◌-◌}
use Rattle.encode.specs.WalkLaws.{list-fits}
use Rattle.encode.specs.Terms.{told-size, told-nothing}
use Rattle.encode.proofs.Terms.asked_size.Goals.{then-boxed_at, else-boxed_at+in-Measured, else-boxed_at+in_default}
use Rattle.encode.proofs.Terms.asked_size.Goals as goal

pub returns-then-matches : goal.returns-then-matches
returns-then-matches c =
    let f = list-fits _ _ c.args.self.now.sound.small (c.args.levels - 1) (c.args.i + 1) c.args.n in
    (told-size _ c.kids_size.ensures.0 f.bytes, c.kids_size.ensures.1)

pub returns-else-matches : goal.returns-else-matches
returns-else-matches c =
    elim c.if-boxed_at.branch [
      | then-boxed_at w ↦ absurd (true≢false (sym w.if-boxed_at.true ∙ sym w.value-is ∙ c.if-matches.false))
      | else-boxed_at+in-Measured w ↦ absurd (true≢false (sym w.value-is ∙ c.if-matches.false))
      | else-boxed_at+in_default w ↦ (told-nothing _ _ c.boxed_at.ensures w.if-boxed_at.false w.rest_at.ensures w.in_default.not-Measured, c.requires.1)
    ]

-- `settle::has_path` meets its contract, by the row of the kind. Assumes nothing.
use Rattle.std.proofs.Common.{◌∙◌, refl, arith, le-ltb}
use Rattle.grammar.specs.Kinds.{row_in}
use Rattle.grammar.specs.KindLaws.{row-known, row_unknown}
use Rattle.walk.specs.Calls.{is_path_text, is-path_text, not-path_text}
use Rattle.settle.specs.Settle.{has_path}
use Rattle.settle.proofs.has_path.Goals as goal

pub returns-in-PathText : goal.returns-in-PathText
unfolding has_path row_in
returns-in-PathText c = is-path_text c.in-PathText.is ∙ rw (row-known _ _ c.position_of-j.ensures (omega arith) c.row_at.ensures) refl

pub returns-in_default : goal.returns-in_default
unfolding has_path row_in
returns-in_default c = not-path_text _ c.in_default.not-PathText ∙ rw (row-known _ _ c.position_of-j.ensures (omega arith) c.row_at.ensures) refl

pub returns-else-j-lt67 : goal.returns-else-j-lt67
unfolding has_path is_path_text row_in
returns-else-j-lt67 c = le-ltb _ 67 c.if-j-lt67.false ∙ rw (row_unknown _ _ c.position_of-j.ensures c.if-j-lt67.false) refl

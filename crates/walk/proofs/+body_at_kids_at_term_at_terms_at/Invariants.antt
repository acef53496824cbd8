use Rattle.std.proofs.Common.{◌+◌, ◌-◌, ◌*◌}
use Rattle.grammar.specs.Kinds.{child_place}
use Rattle.tree.specs.Read.{read}
use Rattle.walk.specs.Walk.{args_by}
use Rattle.walk.specs.Loop.{Turning}
use Rattle.walk.proofs.+body_at_kids_at_term_at_terms_at.Given as goal

abbrev pub invariant-terms_at-loop-row : goal.invariant-terms_at-loop-row
invariant-terms_at-loop-row l =
    Turning l.listed (read (args_by l.arities) l.levels) (child_place l.row) l.n l.b l.at l.i l.initial.out l.out (l.n - l.w.kids) l.w.kids l.w.next l.w.records l.w.texts

abbrev pub decreases-terms_at-loop-row : goal.decreases-terms_at-loop-row
decreases-terms_at-loop-row l = l.n - l.w.kids

abbrev pub decreases-body_at : goal.decreases-body_at
decreases-body_at l = 4 * l.levels + 3

abbrev pub decreases-kids_at : goal.decreases-kids_at
decreases-kids_at l = 4 * l.levels + 2

abbrev pub decreases-term_at : goal.decreases-term_at
decreases-term_at l = 4 * l.levels

abbrev pub decreases-terms_at : goal.decreases-terms_at
decreases-terms_at l = 4 * l.levels + 1

-- `path::is_path` meets its contract. The characters from `at` on decide the whole (`Chaining`). Assumes nothing.
use Rattle.std.proofs.Common.{sym, ◌∙◌, arith}
use Rattle.path.specs.PathText.{root-fits, chaining_long, chaining_start, chaining_end, chaining_dotless, chaining_bad, chaining_turn}
use Rattle.path.proofs.is_path.Goals.{then-t-at-ne46-via-then-t-at-ne46, then-t-at-ne46-via-else-t-at-ne46+then-not-is_segment}
use Rattle.path.proofs.is_path.Goals as goal

pub overflow_sub-t : goal.overflow_sub-t
overflow_sub-t c = omega (arith, root-fits c.args.t.now, c.root_at-at.ensures)

pub returns-then-t-at-gt1274 : goal.returns-then-t-at-gt1274
returns-then-t-at-gt1274 c = chaining_long _ c.root_at-at.ensures c.if-t-at-gt1274.true

pub loop-at-init : goal.loop-at-init
loop-at-init c = chaining_start _ c.root_at-at.ensures c.if-t-at-gt1274.false

pub overflow_add-at : goal.overflow_add-at
overflow_add-at c = omega (arith, c.loop-at.invariant.within, c.loop-at.invariant.short)

pub returns-then-t-at-ne46 : goal.returns-then-t-at-ne46
returns-then-t-at-ne46 c =
    elim c.then-t-at-ne46.branch [
      | then-t-at-ne46-via-then-t-at-ne46 w ↦ chaining_dotless c.loop-at.invariant c.loop-at-test.true w.if-t-at-ne46.true
      | then-t-at-ne46-via-else-t-at-ne46+then-not-is_segment w ↦
          chaining_bad c.loop-at.invariant c.loop-at-test.true (sym w.is_segment.ensures ∙ w.if-not-is_segment.true)
    ]

pub loop-at-preserved : goal.loop-at-preserved
loop-at-preserved c =
    chaining_turn c.loop-at.invariant c.loop-at-test.true c.if-t-at-ne46.false (sym c.is_segment.ensures ∙ c.if-not-is_segment.false)

pub returns : goal.returns
returns c = c.is_segment-2.ensures ∙ chaining_end c.loop-at.invariant c.loop-at-test.false

-- `path::path_at` meets its contract: the root mark, the number, and as many segments. Assumes nothing.
use Rattle.std.proofs.Common.{refl, sym, ◌∙◌, arith}
use Rattle.octets.specs.Reading.{got, got-none}
use Rattle.path.specs.PathText.{root-room}
use Rattle.path.specs.PathReading.{count-least, count_most, runs-there, path_uncounted, path_broken, path-whole}
use Rattle.path.proofs.path_at.Goals as goal

pub overflow_add-at : goal.overflow_add-at
overflow_add-at c = omega (arith, (root-room c.args.b.now c.args.at c.root_at-k.ensures).1)

pub are_segments-requires : goal.are_segments-requires
are_segments-requires c = (got refl c.in_ok-n.ensures).high

pub overflow_mul-result : goal.overflow_mul-result
overflow_mul-result c = omega (arith, count_most (got refl c.in_ok-n.ensures))

pub overflow_sub-result : goal.overflow_sub-result
overflow_sub-result c = omega (arith, count-least (got refl c.in_ok-n.ensures))

pub overflow_add-result : goal.overflow_add-result
overflow_add-result c =
    omega (arith, count_most (got refl c.in_ok-n.ensures), (root-room c.args.b.now c.args.at c.root_at-k.ensures).0)

pub overflow_mul-result-then-are_segments : goal.overflow_mul-result-then-are_segments
overflow_mul-result-then-are_segments c = omega (arith, count_most (got refl c.in_ok-n.ensures))

pub overflow_add-result-then-are_segments : goal.overflow_add-result-then-are_segments
overflow_add-result-then-are_segments c =
    omega (arith, runs-there _ c.args.b.now (got refl c.in_ok-n.ensures).high (sym c.are_segments.ensures ∙ c.if-are_segments.true))

pub returns-then-are_segments : goal.returns-then-are_segments
returns-then-are_segments c =
    path-whole _ _ c.root_at-k.ensures (got refl c.in_ok-n.ensures) (sym c.are_segments.ensures ∙ c.if-are_segments.true)

pub returns-else-are_segments : goal.returns-else-are_segments
returns-else-are_segments c =
    path_broken _ _ c.root_at-k.ensures (got refl c.in_ok-n.ensures) (sym c.are_segments.ensures ∙ c.if-are_segments.false)

pub returns-in_err-n : goal.returns-in_err-n
returns-in_err-n c = rw c.from_residual.ensures (path_uncounted _ _ c.root_at-k.ensures (got-none refl c.in_err-n.ensures))

-- `number::pkg_length_at` meets its contract: each end of the code is one of `get_pkg_length`. Assumes nothing.
use Rattle.std.proofs.Common.{sym, ◌∙◌, arith}
use Rattle.number.specs.Lead.{read_small}
use Rattle.number.specs.PkgLengthLaws.{pkg_length_end, pkg_length-malformed, pkg_length-short, pkg_length_not, pkg_length-done, shortest-own}
use Rattle.number.proofs.pkg_length_at.Goals as goal

pub returns-in_err-get : goal.returns-in_err-get
returns-in_err-get c = rw c.from_residual.ensures (pkg_length_end _ _ _ c.in_err-get.ensures.lookup.3)

pub returns-then-is_malformed : goal.returns-then-is_malformed
returns-then-is_malformed c =
    let (there, is) = c.in_ok-get.ensures.lookup.3 in
    pkg_length-malformed _ _ _ there _ (c.from-c.ensures ∙ is 0) (sym c.is_malformed.ensures ∙ c.if-is_malformed.true)

pub returns-in_err-x : goal.returns-in_err-x
returns-in_err-x c =
    let (there, is) = c.in_ok-get.ensures.lookup.3 in
    rw c.from_residual-in_err-x.ensures (pkg_length-short _ _ _ there _ (c.from-c.ensures ∙ is 0) (sym c.is_malformed.ensures ∙ c.if-is_malformed.false) c.in_err-x.ensures)

pub whole_of-m-requires : goal.whole_of-m-requires
whole_of-m-requires c = (omega (arith, c.from-c.ensures), read_small 3 c.in_ok-x.ensures (omega (arith, c.from-c.ensures)))

pub overflow_sub-result : goal.overflow_sub-result
overflow_sub-result c = omega (arith, c.own_of.ensures, shortest-own _ _ _ (sym c.is_shortest.ensures ∙ c.if-is_shortest.true))

pub returns-then-is_shortest : goal.returns-then-is_shortest
returns-then-is_shortest c =
    let (there, is) = c.in_ok-get.ensures.lookup.3 in
    let formed = sym c.is_malformed.ensures ∙ c.if-is_malformed.false in
    pkg_length-done _ _ _ there _ (c.from-c.ensures ∙ is 0) formed c.in_ok-x.ensures _ c.whole_of-m.ensures (sym c.is_shortest.ensures ∙ c.if-is_shortest.true) _ c.own_of.ensures

pub returns-else-is_shortest : goal.returns-else-is_shortest
returns-else-is_shortest c =
    let (there, is) = c.in_ok-get.ensures.lookup.3 in
    let formed = sym c.is_malformed.ensures ∙ c.if-is_malformed.false in
    pkg_length_not _ _ _ there _ (c.from-c.ensures ∙ is 0) formed c.in_ok-x.ensures _ c.whole_of-m.ensures (sym c.is_shortest.ensures ∙ c.if-is_shortest.false)

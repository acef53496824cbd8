-- `path::count_at` meets its contract: by the marks, then by the number behind 2F. Assumes nothing.
use Rattle.std.proofs.Common.{sym, ◌∙◌, arith}
use Rattle.path.specs.PathReading.{count_past, count-two, count-one, count_cut, count_low, count_many}
use Rattle.path.proofs.count_at.Goals as goal

pub returns-in_err-get : goal.returns-in_err-get
returns-in_err-get c = rw c.from_residual.ensures (count_past _ _ c.in_err-get.ensures.lookup.3)

pub returns-in-46 : goal.returns-in-46
returns-in-46 c = let (there, is) = c.in_ok-get.ensures.lookup.3 in count-two _ _ there (sym (is 0) ∙ c.in-46.is)

pub returns-in_err-get-in-47 : goal.returns-in_err-get-in-47
returns-in_err-get-in-47 c =
    let (there, is) = c.in_ok-get.ensures.lookup.3 in
    let mark = sym (is 0) ∙ c.in-47.is in
    rw c.from_residual-in_err-get-in-47.ensures (count_cut _ _ there (λ e. omega (arith, e, mark)) mark c.in_err-get-in-47.ensures.lookup.3)

pub returns-then-n-lt3 : goal.returns-then-n-lt3
returns-then-n-lt3 c =
    let (there, is) = c.in_ok-get.ensures.lookup.3 in
    let (more, number) = c.in_ok-get-in-47.ensures.lookup.3 in
    let mark = sym (is 0) ∙ c.in-47.is in
    count_low _ _ there (λ e. omega (arith, e, mark)) mark more (c.from-n.ensures ∙ number 0) c.if-n-lt3.true

pub returns-else-n-lt3 : goal.returns-else-n-lt3
returns-else-n-lt3 c =
    let (there, is) = c.in_ok-get.ensures.lookup.3 in
    let (more, number) = c.in_ok-get-in-47.ensures.lookup.3 in
    let mark = sym (is 0) ∙ c.in-47.is in
    count_many _ _ there (λ e. omega (arith, e, mark)) mark more (c.from-n.ensures ∙ number 0) c.if-n-lt3.false (omega (arith, c.from-n.ensures))

pub returns-in_default : goal.returns-in_default
returns-in_default c = let (there, is) = c.in_ok-get.ensures.lookup.3 in count-one _ _ there (λ e. omega (arith, e, is 0)) (λ e. omega (arith, e, is 0))

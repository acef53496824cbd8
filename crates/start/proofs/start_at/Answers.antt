-- `start::start_at` meets its contract: each end of the code is one of `start_at`. Assumes nothing.
use Rattle.std.proofs.Common.{sym, ◌∙◌, arith}
use Rattle.start.specs.StartLaws.{start_end, start_unknown, start-few, start_misplaced, start-other, start-found}
use Rattle.start.proofs.start_at.Goals as goal

pub returns-then-b-at : goal.returns-then-b-at
returns-then-b-at c = start_end _ _ _ c.if-b-at.true

pub returns-then-j-ge57 : goal.returns-then-j-ge57
returns-then-j-ge57 c = start_unknown _ _ c.kind_at.ensures c.position_of-j.ensures c.if-j-ge57.true

pub returns-then-not-may_stand : goal.returns-then-not-may_stand
returns-then-not-may_stand c =
    let s = sym c.if-not-may_stand.true ∙ c.may_stand.ensures in
    start_misplaced _ _ c.kind_at.ensures c.position_of-j.ensures c.if-j-ge57.false c.row_at-row.ensures s

pub is_opcode-requires : goal.is_opcode-requires
is_opcode-requires c =
    let few = start-few _ _ c.kind_at.ensures c.position_of-j.ensures c.if-j-ge57.false c.row_at-row.ensures in
    (few.0, few.1, omega (arith, c.if-b-at.false))

pub returns-then-is_opcode : goal.returns-then-is_opcode
returns-then-is_opcode c =
    let s = sym c.if-not-may_stand.false ∙ c.may_stand.ensures in
    let o = sym c.if-is_opcode.true ∙ c.is_opcode.ensures in
    (start-found _ _ c.kind_at.ensures c.position_of-j.ensures c.if-j-ge57.false c.row_at-row.ensures s o, c.if-j-ge57.false)

pub returns : goal.returns
returns c =
    let s = sym c.if-not-may_stand.false ∙ c.may_stand.ensures in
    let o = sym c.if-is_opcode.false ∙ c.is_opcode.ensures in
    start-other _ _ c.kind_at.ensures c.position_of-j.ensures c.if-j-ge57.false c.row_at-row.ensures s o

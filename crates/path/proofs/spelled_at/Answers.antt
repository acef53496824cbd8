-- `path::spelled_at` meets its contract: a byte of the beginning, a dot behind four characters, or a character. Assumes nothing.
use Rattle.path.specs.PathSpelled.{spelled-head, spelled_dot, spelled-within, spelled-char}
use Rattle.path.proofs.spelled_at.Goals as goal

pub returns-then-i-head : goal.returns-then-i-head
returns-then-i-head c = spelled-head _ _ c.if-i-head.true

pub returns-then-j-eq4 : goal.returns-then-j-eq4
returns-then-j-eq4 c = spelled_dot _ _ c.requires c.if-i-head.false c.if-j-eq4.true

pub bounds-rest-j : goal.bounds-rest-j
bounds-rest-j c = spelled-within _ _ c.requires c.if-i-head.false c.if-j-eq4.false

pub returns-else-j-eq4 : goal.returns-else-j-eq4
returns-else-j-eq4 c = spelled-char _ _ c.requires c.if-i-head.false c.if-j-eq4.false

-- `taken::string_at` meets its contract: each turn passes one character. Assumes nothing.
use Rattle.std.proofs.Common.{refl}
use Rattle.taken.specs.TakenLaws.{scanning_start, scanning_end, scanning_found, scanning_high, scanning_turn}
use Rattle.taken.proofs.string_at.Goals as goal

pub loop-i-init : goal.loop-i-init
loop-i-init c = scanning_start _ _ c.requires

pub returns-then-c-eq0 : goal.returns-then-c-eq0
returns-then-c-eq0 c = scanning_found c.loop-i.invariant c.loop-i-test.true refl c.if-c-eq0.true

pub returns-then-c-gt127 : goal.returns-then-c-gt127
returns-then-c-gt127 c = scanning_high c.loop-i.invariant c.loop-i-test.true refl c.if-c-eq0.false c.if-c-gt127.true

pub loop-i-preserved : goal.loop-i-preserved
loop-i-preserved c = scanning_turn c.loop-i.invariant c.loop-i-test.true refl c.if-c-eq0.false c.if-c-gt127.false

pub returns : goal.returns
returns c = scanning_end c.loop-i.invariant c.loop-i-test.false

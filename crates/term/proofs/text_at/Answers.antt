-- `term::text_at` meets its contract: what lies outside is left out. Assumes nothing.
use Rattle.std.proofs.lemmas.List.{take_rest, take_min, drop_min}
use Rattle.std.specs.Prelude.{refl}
use Rattle.term.specs.Record.{text_at}
use Rattle.term.proofs.text_at.Goals as goal

pub returns : goal.returns
unfolding text_at
returns c = rw (c.min-n.ensures, take_rest, take_min, c.min-from.ensures, drop_min) refl

-- `walk::walk_terms` meets its contract. Assumes nothing.
use Rattle.walk.specs.Cycle.{table_walks}
use Rattle.walk.proofs.walk_terms.Goals as goal

pub returns : goal.returns
returns c = table_walks _ _ c.row_at-row.ensures c.terms_at.ensures

-- `fields::is_spelled` meets its contract, which is the text's test. Assumes nothing.
use Rattle.fields.specs.Fields.{spelled}
use Rattle.fields.proofs.is_spelled.Goals as goal

pub returns : goal.returns
unfolding spelled
returns c = c.text_spelled.ensures

-- `grammar::unpacked` meets its contract: each column is the digit at its place. Assumes nothing.
use Rattle.grammar.proofs.PackedLaws.{row_made}
use Rattle.grammar.proofs.unpacked.Goals as goal

pub returns : goal.returns
returns c =
    let text = c.text_of-text.ensures in
    let numbers = c.numbers_of-numbers.ensures in
    row_made _ c.second_of-v.ensures c.third_of-x.ensures text numbers c.place_of-operand.ensures c.rest_of-rest.ensures c.place_of-place.ensures c.places_of-places.ensures

-- `Own::body_len` meets its contract. Assumes nothing.
use Rattle.std.proofs.Common.{refl, arith}
use Rattle.encode.specs.Terms.{body_of, body-few}
use Rattle.encode.proofs.Own.body_len.Goals as goal

pub overflow_add-result : goal.overflow_add-result
unfolding body_of
overflow_add-result c = omega (arith, body-few c.args.self.now.record.kids c.args.self.now.able c.requires, c.around_len.ensures)

pub returns : goal.returns
unfolding body_of
returns c = rw c.around_len.ensures refl

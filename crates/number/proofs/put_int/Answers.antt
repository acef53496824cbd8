-- `number::put_int` meets its contract: its parts are those of the form of x. Assumes nothing.
use Rattle.std.proofs.Common.{arith}
use Rattle.octets.specs.Bytes.{le}
use Rattle.octets.specs.Filling.{wrote_as}
use Rattle.number.specs.IntegerLaws.{width-most, integer-short, integer-parts}
use Rattle.number.proofs.put_int.Goals as goal

pub put_lead-requires : goal.put_lead-requires
unfolding le
put_lead-requires c = rw (integer-short c.args.x c.if-x-lt2.true) at c.requires

pub returns-then-x-lt2 : goal.returns-then-x-lt2
unfolding le
returns-then-x-lt2 c = wrote_as (integer-short c.args.x c.if-x-lt2.true) c.put_lead.ensures

pub overflow_cast-w : goal.overflow_cast-w
unfolding le
overflow_cast-w c = omega (arith, c.int_width-w.ensures, width-most c.args.x)

pub put_lead-requires-2 : goal.put_lead-requires-2
unfolding le
put_lead-requires-2 c = rw (integer-parts c.args.x c.if-x-lt2.false c.int_width-w.ensures) at c.requires

pub returns : goal.returns
unfolding le
returns c = wrote_as (integer-parts c.args.x c.if-x-lt2.false c.int_width-w.ensures) c.put_lead-2.ensures

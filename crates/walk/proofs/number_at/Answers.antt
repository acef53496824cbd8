-- `walk::number_at` meets its contract, by the form of the children. Assumes nothing.
use Rattle.std.proofs.Common.{refl}
use Rattle.std.proofs.Common.{arith}
use lib.ListN.{length-drop}
use Rattle.octets.specs.Reading.{reads, reads_none}
use Rattle.walk.specs.Walk.{get_number}
use Rattle.walk.proofs.number_at.Goals as goal

pub returns-in-Nothing : goal.returns-in-Nothing
unfolding get_number
returns-in-Nothing c = rw c.in-Nothing.is (reads (record { is = refl; low = omega arith; high = c.requires }))

pub returns-in-Arity : goal.returns-in-Arity
unfolding get_number
returns-in-Arity c = rw c.in-Arity.is (reads (record { is = refl; low = omega arith; high = c.requires }))

pub returns-in-Listed : goal.returns-in-Listed
unfolding get_number
returns-in-Listed c = rw c.in-Listed.is (reads (record { is = rw length-drop refl; low = omega arith; high = c.requires }))

pub returns-in-Counted : goal.returns-in-Counted
unfolding get_number
returns-in-Counted c = rw c.in-Counted.is c.le_at.ensures

pub returns-in-Measured : goal.returns-in-Measured
unfolding get_number
returns-in-Measured c = rw c.in-Measured.is (reads_none refl)

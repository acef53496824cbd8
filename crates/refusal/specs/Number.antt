-- Document 01's number of each refusal ("Refusal numbers"). 13 has none: such a table is over 268,435,455 bytes, and 12 is given first.
-- Assumes nothing.
use Rattle.std.specs.Prelude.{ℕ, Result, Ok, Err}
use Rattle.refusal.specs.declared.Refusal.{Refusal}
use Rattle.refusal.specs.declared.Refusal.TheVariants as refusal

abbrev pub number : Refusal → ℕ
number refusal.Layout = 1
number refusal.TooMany = 2
number refusal.Arities = 3
number refusal.Kind = 4
number refusal.Range = 5
number refusal.Spelling = 6
number refusal.ChildCount = 7
number refusal.Place = 8
number refusal.Depth = 9
number refusal.RecordsEnd = 10
number refusal.NormalForm = 11
number refusal.TooLarge = 12
number refusal.OutputShort = 14
number refusal.BadTable = 20
number refusal.Sum = 21
number refusal.NoFile = 22
number refusal.WriteOutside = 23

-- what an answer says: 0 where nothing is refused
abbrev pub number_said : {A : Type 0} → Result A Refusal → ℕ
number_said (Ok a) = 0
number_said (Err e) = number e

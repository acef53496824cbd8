-- A fact together with what it says. A proof file names what is known at a place of the code without writing the statement out:
--     abbrev w₁ : tie.After-put-slice → Known
--     w₁ c = known (writing_next (w₀ c.before.before.before).holds c.put-slice.ensures)
-- Assumes nothing.
pub record Known : Type 1 where
  pub Says : Type 0
  pub holds : Says

abbrev pub known : {P : Type 0} → P → Known
known {P} p = record { Says = P; holds = p }

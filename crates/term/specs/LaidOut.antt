-- What laying out answers: the sections where nothing is refused, and else the refusal. Document 01, "Refusal numbers" (1, 2).
-- Assumes nothing.
use Rattle.std.specs.Prelude.{◌≡◌, List, ℕ, Result, MatchResult}
use Rattle.refusal.specs.declared.Refusal.{Refusal}
use Rattle.refusal.specs.Number.{number}
use Rattle.term.specs.declared.File.{File}
use Rattle.term.specs.File.{identity, layout_of, record_section, arity_section, pool_section}

-- s is the file f taken apart
pub record Sections (f : List ℕ) (s : File) : Type 0 where
  pub identity : s.identity.now ≡ identity f
  pub records : s.records.now ≡ record_section f
  pub arities : s.arities.now ≡ arity_section f
  pub pool : s.pool.now ≡ pool_section f

abbrev pub LaidOut : List ℕ → Result File Refusal → Type 0
LaidOut f r = MatchResult r (λ s. ((layout_of f).number ≡ 0) × Sections f s) (λ e. number e ≡ (layout_of f).number)

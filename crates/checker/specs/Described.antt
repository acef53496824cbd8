-- What a term file describes: the forest of its records, whose texts stand in the pool.
-- Document 01, "The term file" ("Records stand in preorder; the top level is a list").
use Rattle.std.proofs.Math.Option.{Option}
use Rattle.std.specs.Prelude.{List, map, ℕ}
use Rattle.grammar.specs.Forest.{Forest, Term, build}
use Rattle.term.specs.declared.Record.{Record}
use Rattle.term.specs.Record.{records_from}
use Rattle.checker.specs.Refusal.{text_of, record_section, pool_section}

-- ── A file's forest
unfoldable pub term_of : List ℕ → Record → Term
term_of pool r = record { kind = r.kind; fields = record { text = text_of pool r; a = r.a; x = r.x }; kids = r.kids }

unfoldable pub forest_of : List ℕ → Option Forest
forest_of f = build (map (term_of (pool_section f)) (records_from (record_section f) 0))

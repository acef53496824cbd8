-- The normal-form file: header, records of a normal forest, the arity list, and a pool that holds the arity texts and then the record
-- texts, in order, with no gaps and no sharing. Document 01, "The term file" and "Bytes" (Normal form).
-- Assumes nothing.
use Rattle.std.specs.Prelude.{cond, List, [], ◌∷◌, ◌++◌, ℕ, ◌+◌, ◌*◌, eqb, length}
use Rattle.octets.specs.Bytes.{le}
use Rattle.grammar.specs.Forest.{Forest, Term, flatten}
use Rattle.term.specs.File.{magic, record_width, arity_width}
use Rattle.arity.specs.Arity.{Arity}

-- where a text of n bytes starts that is put at this place of the pool: an empty text starts at 0
unfoldable pub start_of : ℕ → ℕ → ℕ
start_of n at = cond (eqb n 0) 0 at

-- ── Records: kind u16, `a` u16, child count u32, `x` u64, text start u32, text length u32
unfoldable pub record_bytes : Term → ℕ → List ℕ
record_bytes t start =
    le 2 t.kind ++ (le 2 t.fields.a ++ (le 4 t.kids ++ (le 8 t.fields.x ++ (le 4 start ++ le 4 (length t.fields.text)))))

-- of terms whose texts stand in the pool from a place on
unfoldable pub records_bytes : ℕ → List Term → List ℕ
records_bytes at [] = []
records_bytes at (t ∷ ts) = record_bytes t (start_of (length t.fields.text) at) ++ records_bytes (at + length t.fields.text) ts

unfoldable pub term_texts : List Term → List ℕ
term_texts [] = []
term_texts (t ∷ ts) = t.fields.text ++ term_texts ts

-- ── Arities: text start u32, length u16, argument count u16
unfoldable pub arity_bytes : Arity → ℕ → List ℕ
arity_bytes a start = le 4 start ++ (le 2 (length a.text) ++ le 2 a.args)

unfoldable pub arities_bytes : ℕ → List Arity → List ℕ
arities_bytes at [] = []
arities_bytes at (a ∷ l) = arity_bytes a (start_of (length a.text) at) ++ arities_bytes (at + length a.text) l

unfoldable pub arity_texts : List Arity → List ℕ
arity_texts [] = []
arity_texts (a ∷ l) = a.text ++ arity_texts l

-- ── The file
unfoldable pub header_bytes : List ℕ → ℕ → ℕ → ℕ → List ℕ
header_bytes identity records arities pool =
    magic
    ++ (le 4 records ++ (le 4 60
    ++ (le 4 arities ++ (le 4 (60 + record_width * records)
    ++ (le 4 pool ++ (le 4 (60 + record_width * records + arity_width * arities)
    ++ (identity ++ (0 ∷ []))))))))

unfoldable pub file_of : List ℕ → List Arity → Forest → List ℕ
file_of identity arities f =
    header_bytes identity (length (flatten f)) (length arities) (length (arity_texts arities) + length (term_texts (flatten f)))
    ++ (records_bytes (length (arity_texts arities)) (flatten f)
    ++ (arities_bytes 0 arities
    ++ (arity_texts arities ++ term_texts (flatten f))))

-- The normal form of a forest: an EISA id is an integer; a UUID and a resource template are buffers of their bytes. And which
-- forests have bodies in the range of their PkgLengths. Document 01, "Bytes" (Normal form) and "Refusal numbers" (13).
-- Assumes nothing.
use Rattle.std.specs.Prelude.{Bool, true, ◌&&◌, ◌||◌, not, cond, List, [], ◌++◌, ℕ, eqb, leb, length}
use Rattle.number.specs.PkgLength.{largest}
use Rattle.ident.specs.Ident.{eisa_id, uuid_bytes}
use Rattle.descriptor.specs.Template.{end_tag}
use Rattle.grammar.specs.declared.Row.{Row}
use Rattle.grammar.specs.Kinds.{row_of, row_in}
use Rattle.grammar.specs.Forest.{Fields, Forest, nil, node, count}
use Rattle.tree.specs.Bytes.{bytes, body}

abbrev pub numbers : ℕ → Fields
numbers x = record { text = []; a = 0; x = x }

-- an integer, and a buffer with its size, before the terms that follow
abbrev pub integer_term : ℕ → Forest → Forest
integer_term x s = node 0x0E (numbers x) nil s

abbrev pub buffer_term : List ℕ → Forest → Forest
buffer_term t s = node 0x11 (record { text = t; a = 0; x = 0 }) (integer_term (length t) nil) s

unfoldable pub norm : Forest → Forest
norm nil = nil
norm (node k v c s) =
    cond (eqb k 0xE001) (integer_term (eisa_id v.text) (norm s))
    (cond (eqb k 0xE002) (buffer_term (uuid_bytes v.text) (norm s))
    (cond (eqb k 0xE003) (buffer_term (bytes c ++ end_tag) (norm s))
    (node k v (norm c) (norm s))))

-- ── Each body in the range of its PkgLength
unfoldable pub body_fits : Row → Fields → Forest → Bool
body_fits r v c = not r.boxed || leb (length (body r v (count c) (bytes c))) (largest true)

-- 13: a body over 268,435,451 bytes
unfoldable pub roomy : Forest → Bool
roomy nil = true
roomy (node k v c s) = body_fits (row_in (row_of k)) v c && roomy c && roomy s

-- The bytes of a forest: each term's opcode, its PkgLength if it has one, and its body: text and numbers before or behind the children.
-- Document 01, "Bytes"; ACPI 6.4, 20.2 (AML Grammar Definition).
-- Assumes nothing.
use Rattle.std.specs.Prelude.{Bool, cond, List, [], ◌++◌, ℕ, ◌+◌, length}
use Rattle.octets.specs.Bytes.{le}
use Rattle.number.specs.Integer.{integer}
use Rattle.number.specs.PkgLength.{pkg_length}
use Rattle.descriptor.specs.Template.{end_tag}
use Rattle.grammar.specs.declared.Rest.{Rest}
use Rattle.grammar.specs.declared.Rest.TheVariants.{Nothing, Arity, Listed, Counted, Measured}
use Rattle.grammar.specs.declared.Row.{Row}
use Rattle.grammar.specs.Kinds.{opcode, row_of, row_in}
use Rattle.grammar.specs.Forest.{Fields, Forest, nil, node, count}
use Rattle.fields.specs.Written.{field_bytes}

-- before n children whose bytes are bs: their number, or the size of a template with its end tag
unfoldable pub front : Rest → ℕ → List ℕ → List ℕ
front Nothing n bs = []
front Arity n bs = []
front Listed n bs = []
front Counted n bs = le 1 n
front Measured n bs = integer (length bs + 2)

unfoldable pub back : Rest → List ℕ
back Nothing = []
back Arity = []
back Listed = []
back Counted = []
back Measured = end_tag

-- what stands before a term's children in its body, and what stands behind them
unfoldable pub before : Row → Fields → ℕ → List ℕ → List ℕ
before r v n bs = cond r.last (front r.rest n bs) (field_bytes r v)

unfoldable pub behind : Row → Fields → List ℕ
behind r v = cond r.last (field_bytes r v ++ back r.rest) []

unfoldable pub body : Row → Fields → ℕ → List ℕ → List ℕ
body r v n bs = before r v n bs ++ (bs ++ behind r v)

unfoldable pub box : Bool → List ℕ → List ℕ
box b bs = cond b (pkg_length (length bs) ++ bs) bs

-- a term with n children whose bytes are bs
unfoldable pub term_bytes : Row → Fields → ℕ → List ℕ → List ℕ
term_bytes r v n bs = opcode r ++ box r.boxed (body r v n bs)

unfoldable pub bytes : Forest → List ℕ
bytes nil = []
bytes (node k v c s) = term_bytes (row_in (row_of k)) v (count c) (bytes c) ++ bytes s

-- What stands around a term's children, by the number of their bytes: its frame (opcode and PkgLength), what is before them in the
-- body and what is behind. Assumes nothing.
use Rattle.std.specs.Prelude.{◌≡◌, Bool, cond, ℕ, ◌+◌, length}
use Rattle.std.proofs.Math.Path.{refl}
use Rattle.std.proofs.Math.Bool.{true, false}
use mathlib.Core.List.{List, [], ◌∷◌, ◌++◌, append_assoc, append-nil, flatten}
use Rattle.std.proofs.Common.{arith}
use Rattle.std.proofs.Math.ListN.{length-append}
use Rattle.octets.specs.Bytes.{le}
use Rattle.octets.specs.Filling.{Parts}
use Rattle.number.specs.Integer.{integer}
use Rattle.number.specs.PkgLength.{pkg_length}
use Rattle.grammar.specs.declared.Rest.{Rest}
use Rattle.grammar.specs.declared.Rest.TheVariants.{Nothing, Arity, Listed, Counted, Measured}
use Rattle.grammar.specs.declared.Row.{Row}
use Rattle.grammar.specs.Kinds.{opcode}
use Rattle.grammar.specs.Forest.{Fields}
use Rattle.fields.specs.Written.{field_bytes}
use Rattle.tree.specs.Bytes.{front, back, before, behind, body, box, term_bytes}

-- the length of a body of m bytes, where it has one
unfoldable pub length_of : Bool → ℕ → List ℕ
length_of b m = cond b (pkg_length m) []

-- behind the opcode
unfoldable pub frame_of : Row → ℕ → List ℕ
frame_of r m = opcode r ++ length_of r.boxed m

-- before n children of m bytes
unfoldable pub front_of : Rest → ℕ → ℕ → List ℕ
front_of Nothing n m = []
front_of Arity n m = []
front_of Listed n m = []
front_of Counted n m = le 1 n
front_of Measured n m = integer (m + 2)

unfoldable pub before_of : Row → Fields → ℕ → ℕ → List ℕ
before_of r v n m = cond r.last (front_of r.rest n m) (field_bytes r v)

-- the bytes of both sides beside the fields, which stand on one of them
unfoldable pub beside_of : Bool → Rest → ℕ → ℕ → ℕ
beside_of b f n m = cond b (length (front_of f n m) + length (back f)) 0

-- ── The term is these, around its children
front_of_lem : (f : Rest) (n : ℕ) (bs : List ℕ) → front f n bs ≡ front_of f n (length bs)
unfolding front front_of
front_of_lem Nothing n bs = refl
front_of_lem Arity n bs = refl
front_of_lem Listed n bs = refl
front_of_lem Counted n bs = refl
front_of_lem Measured n bs = refl

module _ (r : Row) (v : Fields) (n : ℕ) (bs : List ℕ) where
  before_of_lem : before r v n bs ≡ before_of r v n (length bs)
  unfolding before before_of
  before_of_lem = rw (front_of_lem r.rest n bs) refl

  -- the bytes of the body
  unfoldable pub body_size : ℕ
  body_size = length (before_of r v n (length bs)) + length (behind r v) + length bs

  body-size : length (body r v n bs) ≡ body_size
  unfolding body body_size
  body-size = rw before_of_lem (simp length-append (omega arith))

  body_is : body r v n bs ≡ before_of r v n (length bs) ++ (bs ++ behind r v)
  unfolding body
  body_is = rw before_of_lem refl

  framed : (b : Bool) → box b (body r v n bs) ≡ length_of b body_size ++ body r v n bs
  unfolding box length_of
  framed true = rw body-size refl
  framed false = refl

  pub term-parts : Parts (term_bytes r v n bs) (frame_of r body_size ∷ before_of r v n (length bs) ∷ bs ∷ behind r v ∷ [])
  unfolding term_bytes frame_of flatten
  term-parts = record { is = rw (framed r.boxed, body_is) (simp (append_assoc, append-nil)) }

  pub term-length : length (term_bytes r v n bs) ≡ length (frame_of r body_size) + body_size
  unfolding term_bytes frame_of
  term-length = rw (framed r.boxed) (simp length-append (omega (arith, body-size)))

-- the frame's two parts, from columns that were looked up one by one
pub frame_join : (r : Row) (m : ℕ) {k o : ℕ} {b : Bool} → k ≡ r.ops → o ≡ r.op → b ≡ r.boxed → frame_of r m ≡ le k o ++ length_of b m
unfolding frame_of opcode
frame_join r m e f g = rw (e, f, g) refl

-- Laws of what stands around a term's children: how many bytes it is, on which side the fields stand, and a writer that has nothing to write.
-- For the proofs of this crate and for the encoder. Assumes nothing.
use Rattle.std.specs.Prelude.{◌≡◌, Bool, List, [], ◌++◌, ℕ, ◌+◌, ◌≤◌}
use Rattle.std.proofs.Math.Path.{refl}
use Rattle.std.proofs.Math.Bool.{true, false, cond}
use native.Mathlib.Omega.{arith}
use Rattle.std.proofs.Math.ListN.{length}
use Rattle.std.proofs.Common.{ap, length-append, length-drop, take_at, drop_at}
use Rattle.octets.specs.Bytes.{le}
use Rattle.octets.specs.Laws.{le-length}
use Rattle.octets.specs.Filling.{Wrote, Filling}
use Rattle.number.specs.IntegerLaws.{integer-most}
use Rattle.number.specs.PkgLengthLaws.{following-most, pkg_length-length}
use Rattle.grammar.specs.declared.Rest.{Rest}
use Rattle.grammar.specs.declared.Rest.TheVariants.{Nothing, Arity, Listed, Counted, Measured}
use Rattle.grammar.specs.declared.Row.{Row}
use Rattle.grammar.specs.Kinds.{opcode}
use Rattle.grammar.specs.Forest.{Fields}
use Rattle.fields.specs.Written.{field_bytes}
use Rattle.tree.specs.Bytes.{back, behind}
use Rattle.frame.specs.Frame.{length_of, frame_of, front_of, before_of, beside_of}

pub wrote_none : (out : List ℕ) → Wrote [] out out 0
wrote_none out = record { count = refl; is = refl }

-- ── Two writers in a row: the first is lent the whole buffer, the second what is behind its part
module _ {bs : List ℕ} (p q first : List ℕ) (e : bs ≡ p ++ q) (room : length bs ≤ length first) where
  pub first_fits : length p ≤ length first
  first_fits = omega (arith, room, ap length e, length-append p q)

  pub second_part : {out : List ℕ} {n : ℕ} → Wrote p first out n → Filling bs q n first out
  second_part w =
      let fits = first_fits in
      rw (w.count, w.is) (record {
        bytes = rw (take_at p _ _ refl) e;
        past = drop_at p _ _ refl;
        len = simp (length-append, length-drop) (omega (arith, fits));
        within = simp length-append (omega arith);
        room = room;
      })

-- ── Sizes
pub length_most : (b : Bool) (m : ℕ) → length (length_of b m) ≤ 4
unfolding length_of
length_most true m = omega (arith, pkg_length-length true m, following-most m)
length_most false m = omega arith

pub frame_length : (r : Row) (m : ℕ) {b : Bool} → b ≡ r.boxed → length (frame_of r m) ≡ r.ops + length (length_of b m)
unfolding frame_of opcode
frame_length r m e = rw (e, length-append (le r.ops r.op) _, le-length r.ops r.op) refl

pub back-most : (f : Rest) → length (back f) ≤ 2
unfolding back
back-most Nothing = omega arith
back-most Arity = omega arith
back-most Listed = omega arith
back-most Counted = omega arith
back-most Measured = omega arith

pub front-most : (f : Rest) (n m : ℕ) → length (front_of f n m) ≤ 9
unfolding front_of
front-most Nothing n m = omega arith
front-most Arity n m = omega arith
front-most Listed n m = omega arith
front-most Counted n m = omega (arith, le-length 1 n)
front-most Measured n m = integer-most (m + 2)

pub beside_most : (b : Bool) (f : Rest) (n m : ℕ) → beside_of b f n m ≤ 11
unfolding beside_of
beside_most true f n m = omega (arith, front-most f n m, back-most f)
beside_most false f n m = omega arith

-- ── The fields stand on one side of the children; the columns may have been looked up one by one
module _ (r : Row) (v : Fields) {b : Bool} (e : b ≡ r.last) where
  pub before-first : (n m : ℕ) → b ≡ false → before_of r v n m ≡ field_bytes r v
  unfolding before_of
  before-first n m t = rw (← e, t) refl

  pub behind-first : b ≡ false → behind r v ≡ []
  unfolding behind
  behind-first t = rw (← e, t) refl

  module _ {f : Rest} (g : f ≡ r.rest) where
    pub before_last : (n m : ℕ) → b ≡ true → before_of r v n m ≡ front_of f n m
    unfolding before_of
    before_last n m t = rw (← e, g, t) refl

    pub behind-last : b ≡ true → behind r v ≡ field_bytes r v ++ back f
    unfolding behind
    behind-last t = rw (← e, g, t) refl

    pub around_length : (n m : ℕ) → length (before_of r v n m) + length (behind r v) ≡ length (field_bytes r v) + beside_of b f n m
    unfolding before_of behind beside_of
    around_length n m = rw (e, g) (by r.last)
      where
        by : (b : Bool) → length (cond b (front_of r.rest n m) (field_bytes r v)) + length (cond b (field_bytes r v ++ back r.rest) [])
            ≡ length (field_bytes r v) + cond b (length (front_of r.rest n m) + length (back r.rest)) 0
        by true = rw (length-append (field_bytes r v) (back r.rest)) (omega arith)
        by false = omega arith

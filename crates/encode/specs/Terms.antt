-- A term around children of so many bytes: how many bytes it takes, and what is written before them. For the measuring and the writing
-- functions. Assumes nothing.
use Rattle.std.specs.Prelude.{◌≡◌, refl, Bool, true, false, ℕ, ◌+◌, ◌≤◌, ◌<◌, T, length}
use Rattle.std.proofs.Common.{sym, ◌∙◌, ap₂, true≢false, arith}
use mathlib.Core.List.{List, [], ◌∷◌, ◌++◌, append_assoc, append-nil, flatten}
use Rattle.octets.specs.Filling.{Parts}
use Rattle.grammar.specs.declared.Rest.{Rest}
use Rattle.grammar.specs.declared.Rest.TheVariants.{Nothing, Arity, Listed, Counted, Measured}
use Rattle.grammar.specs.declared.Row.{Row}
use Rattle.grammar.specs.Forest.{Fields}
use Rattle.tree.specs.Bytes.{behind, term_bytes}
use Rattle.written.specs.Fine.{Fine}
use Rattle.frame.specs.Frame.{length_of, frame_of, front_of, before_of, body_size, term-parts, term-length}
use Rattle.encode.specs.Most.{slim, ops_few, around_few, frame_few}

-- the bytes of its body, its own bytes and the children's, and what is before the children
unfoldable pub body_of : Row → Fields → ℕ → ℕ → ℕ
body_of r v n m = length (before_of r v n m) + length (behind r v) + m

unfoldable pub takes_of : Row → Fields → ℕ → ℕ → ℕ
takes_of r v n m = length (frame_of r (body_of r v n m)) + body_of r v n m

unfoldable pub head_of : Row → Fields → ℕ → ℕ → List ℕ
head_of r v n m = frame_of r (body_of r v n m) ++ before_of r v n m

unfoldable pub is_measured : Rest → Bool
is_measured Nothing = false
is_measured Arity = false
is_measured Listed = false
is_measured Counted = false
is_measured Measured = true

-- what the code asks: its fields can be written, and its text is not so long that a sum would not fit
pub record Able (r : Row) (v : Fields) : Type 0 where
  pub slender : T (slim r)
  pub fine : Fine r v
  pub short : length v.text < 4294967296

module _ (r : Row) (v : Fields) (n : ℕ) (bs : List ℕ) {m : ℕ} (e : m ≡ length bs) where
  pub takes-length : takes_of r v n m ≡ length (term_bytes r v n bs)
  unfolding takes_of body_of body_size
  takes-length = rw e (sym (term-length r v n bs))

  pub head-parts : Parts (term_bytes r v n bs) (head_of r v n m ∷ bs ∷ behind r v ∷ [])
  unfolding head_of body_of body_size flatten
  head-parts = record { is = rw (e, append_assoc) (term-parts r v n bs).is }

-- ── A size is asked for by a box and by a template; elsewhere none need be told
pub record Told (r : Row) (bs : List ℕ) (m : ℕ) : Type 0 where
  pub same : (v : Fields) (n : ℕ) → head_of r v n m ≡ head_of r v n (length bs)
  pub least : (v : Fields) (n : ℕ) → body_of r v n m ≤ body_of r v n (length bs)
  pub few : m ≤ 281474983002112

pub told-size : (r : Row) {bs : List ℕ} {m : ℕ} → m ≡ length bs → length bs ≤ 281474983002112 → Told r bs m
told-size r e h = record { same = λ v n. rw e refl; least = λ v n. rw e (omega arith); few = omega arith }

front_same : (f : Rest) (n m k : ℕ) → is_measured f ≡ false → front_of f n m ≡ front_of f n k
unfolding front_of is_measured
front_same Nothing n m k h = refl
front_same Arity n m k h = refl
front_same Listed n m k h = refl
front_same Counted n m k h = refl
front_same Measured n m k h = absurd (true≢false h)

frame_same : (r : Row) (b c : ℕ) → r.boxed ≡ false → frame_of r b ≡ frame_of r c
unfolding frame_of length_of
frame_same r b c h = rw h refl

measured_not : (f : Rest) → (f ≡ Measured → ⊥) → is_measured f ≡ false
unfolding is_measured
measured_not Nothing h = refl
measured_not Arity h = refl
measured_not Listed h = refl
measured_not Counted h = refl
measured_not Measured h = absurd (h refl)

-- with the columns looked up one by one
pub told-nothing : (r : Row) (bs : List ℕ) {c : Bool} {f : Rest} → c ≡ r.boxed → c ≡ false → f ≡ r.rest → (f ≡ Measured → ⊥) → Told r bs 0
unfolding head_of body_of before_of
told-nothing r bs e z d h =
    let b : r.boxed ≡ false = sym e ∙ z in
    let m = rw d at (measured_not _ h) in
    record {
      same = λ v n. ap₂ (λ x y. x ++ y) (frame_same r (body_of r v n 0) (body_of r v n (length bs)) b) (rw (front_same r.rest n 0 (length bs) m) refl);
      least = λ v n. rw (front_same r.rest n 0 (length bs) m) (omega arith);
      few = omega arith;
    }

pub able_ops : {r : Row} {v : Fields} → Able r v → r.ops ≤ 2
able_ops {r} {v} h = ops_few r v h.slender

module _ {r : Row} {v : Fields} (n : ℕ) {m : ℕ} (h : Able r v) (k : m ≤ 281474983002112) where
  -- every sum fits
  pub body-few : body_of r v n m ≤ 281487867904128
  unfolding body_of
  body-few = omega (arith, around_few r v h.slender n m, k, h.short)

  pub takes-few : takes_of r v n m ≤ 281487867904140
  unfolding takes_of
  takes-few = omega (arith, frame_few r v h.slender (body_of r v n m), body-few)

-- ── The size of a body is asked for by a box alone
pub record Framed (r : Row) (m b : ℕ) : Type 0 where
  pub same : frame_of r b ≡ frame_of r m
  pub least : b ≤ m

pub framed-none : (r : Row) (m : ℕ) {c : Bool} → c ≡ r.boxed → c ≡ false → Framed r m 0
framed-none r m e f = record { same = frame_same r 0 m (sym e ∙ f); least = omega arith }

pub head-framed : (r : Row) (v : Fields) (n m : ℕ) {b : ℕ} → Framed r (body_of r v n m) b → Parts (head_of r v n m) (frame_of r b ∷ before_of r v n m ∷ [])
unfolding head_of flatten
head-framed r v n m h = record { is = rw h.same (simp append-nil) }

pub takes-sum : (r : Row) (v : Fields) (n m : ℕ) {b f : ℕ} → b ≡ body_of r v n m → f ≡ length (frame_of r b) → f + b ≡ takes_of r v n m
unfolding takes_of
takes-sum r v n m e g = rw (g, e) refl

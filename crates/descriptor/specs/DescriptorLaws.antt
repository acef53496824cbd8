-- Laws of descriptors: every row is solid, a descriptor's bytes are four writes, and what the field checks say of an address space.
-- Assumes nothing.
use Rattle.std.specs.Prelude.{◌≡◌, Bool, true, false, ◌&&◌, ◌||◌, cond, ℕ, ◌+◌, ◌-◌, ◌*◌, ◌^◌, ◌≤◌, ◌<◌, eqb, length}
use Rattle.std.proofs.Math.Path.{refl}
use Rattle.std.proofs.Common.{sym, ◌∙◌, ap, mul-le-mul_left, mul-add, mul-zero, length-append}
use mathlib.Core.List.{List, [], ◌∷◌, ◌++◌, flatten, append_assoc, append-nil}
use native.Mathlib.Omega.{arith}
use Rattle.std.proofs.Math.Nat.{pow-le-pow_right, lt_of_lt_of_le}
use Rattle.std.proofs.Math.Dec.{T, leb→le, ltb→lt, eqb→eq}
use Rattle.std.proofs.Common.{leb, ltb}
use Rattle.std.proofs.lemmas.Bool.{ltb-false}
use borrow.Author.Tests.{lt-ltb, le-ltb, le-leb, lt-leb, eq-eqb, ne_eqb}
use Rattle.octets.specs.Bytes.{every, is_byte, le, value, le_at}
use Rattle.octets.specs.Tests.{and_left, and_right, or_case, cond_case, true_test}
use Rattle.octets.specs.Filling.{Parts}
use Rattle.octets.specs.Laws.{le-length, le_join, le-value, value-small}
use Rattle.descriptor.specs.Descriptor.{Row, row_of, min_of, max_of, translation_of, range_length, flags_fit, range_fits, spelled, unused_fits, space_fits, in_range, descriptor}
use Rattle.descriptor.specs.Columns.{columns_of, size_of, solid, text_columns}
use Rattle.descriptor.specs.declared.Columns.{Columns}

-- a rule of the rows, tested on each
pub rows-solid : (kind : ℕ) → T (solid (row_of kind))
unfolding row_of solid columns_of size_of every value
rows-solid kind =
    let P : Row → Type 0 = λ r. T (solid r) in
    cond_case P (eqb kind 0xE047) _ _ (λ t. tt) λ t.
    cond_case P (eqb kind 0xE082) _ _ (λ t. tt) λ t.
    cond_case P (eqb kind 0xE086) _ _ (λ t. tt) λ t.
    cond_case P (eqb kind 0xE089) _ _ (λ t. tt) λ t.
    cond_case P (eqb kind 0xE088) _ _ (λ t. tt) λ t.
    cond_case P (eqb kind 0xE087) _ _ (λ t. tt) λ t.
    cond_case P (eqb kind 0xE08A) _ _ (λ t. tt) λ t. tt

pub record Solid (r : Row) : Type 0 where
  pub tag : T (every is_byte r.tag)
  pub constant : T (every is_byte r.constant)
  pub a : r.a_most < 256 ^ r.a
  pub x : r.x_most < 256 ^ r.x
  pub head : (columns_of r).head + (columns_of r).unit * r.a_most ≤ 256 ^ 5
  pub space : r.space ≤ 8
  pub text : T (eqb r.space 0 || eqb r.text (3 * r.space))
  pub size : size_of r ≤ 46

pub solid-row : (kind : ℕ) → Solid (row_of kind)
unfolding solid
solid-row kind =
    let r = row_of kind in
    let t = rows-solid kind in
    record {
      tag = search (and_left, and_right) depth 10;
      constant = search (and_left, and_right) depth 10;
      a = ltb→lt r.a_most (256 ^ r.a) (search (and_left, and_right) depth 10);
      x = ltb→lt r.x_most (256 ^ r.x) (search (and_left, and_right) depth 10);
      head = leb→le ((columns_of r).head + (columns_of r).unit * r.a_most) (256 ^ 5) (search (and_left, and_right) depth 10);
      space = leb→le r.space 8 (search (and_left, and_right) depth 10);
      text = search (and_left, and_right) depth 10;
      size = leb→le (size_of r) 46 (search (and_left, and_right) depth 10);
    }

-- a kind that is no descriptor
module _ (kind : ℕ) (n₁ : kind ≡ 0xE047 → ⊥) (n₂ : kind ≡ 0xE082 → ⊥) (n₃ : kind ≡ 0xE086 → ⊥) (n₄ : kind ≡ 0xE089 → ⊥) (n₅ : kind ≡ 0xE088 → ⊥) (n₆ : kind ≡ 0xE087 → ⊥) (n₇ : kind ≡ 0xE08A → ⊥) where
  pub no_row : text_columns 0 1 0 0 ≡ columns_of (row_of kind)
  unfolding row_of columns_of value
  no_row = rw (ne_eqb kind _ n₁, ne_eqb kind _ n₂, ne_eqb kind _ n₃, ne_eqb kind _ n₄, ne_eqb kind _ n₅, ne_eqb kind _ n₆, ne_eqb kind _ n₇) refl

-- a bus has no translation
abbrev pub bus_fits : ℕ → ℕ → List ℕ → Bool
bus_fits w a text = cond (eqb a 2) (eqb (translation_of w text) 0) true

-- ── The range in an address space's text
module _ (w a : ℕ) (text : List ℕ) {lo hi : ℕ} (el : lo ≡ min_of w text) (eh : hi ≡ max_of w text) where
  pub range_under : hi < lo → false ≡ range_fits w a text
  unfolding range_fits
  range_under h = rw (← el, ← eh, lt-leb lo hi h) refl

  module _ (h : lo ≤ hi) {full : ℕ} (ef : full ≡ 256 ^ w - 1) where
    pub range_over : full ≤ hi - lo → false ≡ range_fits w a text
    unfolding range_fits range_length
    range_over g = rw (← el, ← eh, le-leb lo hi h, le-ltb (hi - lo + 1) (256 ^ w) (omega arith)) refl

    range_last : hi - lo < full → bus_fits w a text ≡ range_fits w a text
    unfolding range_fits range_length
    range_last g = rw (← el, ← eh, le-leb lo hi h, lt-ltb (hi - lo + 1) (256 ^ w) (omega arith)) refl

    -- as the code asks for the width
    pub range_wide : ltb (hi - lo) full ≡ true → bus_fits w a text ≡ range_fits w a text
    range_wide t = range_last (ltb→lt (hi - lo) full (true_test _ t))

    pub range_not_wide : ltb (hi - lo) full ≡ false → false ≡ range_fits w a text
    range_not_wide t = range_over (ltb-false (hi - lo) full t)

-- the limits of a row, and its text where that is not used
abbrev pub fields_fit : Columns → List ℕ → ℕ → ℕ → Bool
fields_fit c text a x = leb a c.alimit && leb x c.xlimit && unused_fits c.text text

-- ── A row that was looked up
module _ (kind : ℕ) {c : Columns} (e : c ≡ columns_of (row_of kind)) where
  pub size_is : c.width + c.tail + c.text + c.space ≡ size_of (row_of kind)
  unfolding size_of columns_of
  size_is = rw e refl

  pub size-most : c.width + c.tail + c.text + c.space ≤ 46
  size-most = rw size_is (solid-row kind).size

  pub spelled_is : (text : List ℕ) → eqb (length text) c.text ≡ spelled (row_of kind) text
  unfolding spelled columns_of
  spelled_is text = rw e refl

  pub space-most : (c.space ≤ 8) × (c.full ≡ 256 ^ c.space - 1)
  unfolding columns_of
  space-most = rw e ((solid-row kind).space, refl)

  -- the field checks, one after the other
  module _ (text : List ℕ) (a x : ℕ) {f : Bool} (ef : f ≡ fields_fit c text a x) where
    rest : in_range (row_of kind) text a x ≡ f && cond (eqb c.space 0) true (space_fits c.space text a x)
    unfolding in_range columns_of
    rest = rw (ef, e) refl

    pub no_fields : f ≡ false → f ≡ in_range (row_of kind) text a x
    no_fields h = rw (rest, h) refl

    module _ (t : f ≡ true) where
      pub no_space : c.space ≡ 0 → true ≡ in_range (row_of kind) text a x
      no_space z = rw (rest, t, eq-eqb c.space 0 z) refl

      pub a-space : (c.space ≡ 0 → ⊥) → {s : Bool} → s ≡ space_fits c.space text a x → s ≡ in_range (row_of kind) text a x
      a-space z es = rw (rest, t, ne_eqb c.space 0 z) es

-- ── The bytes of fields that are in range
-- the numbers in an address space's text; where there is none they are 0
pub record Ranged (w : ℕ) (text : List ℕ) : Type 0 where
  pub wide : w + w ≤ length text
  pub least : min_of w text ≤ max_of w text
  pub small : range_length w text < 256 ^ 8

pub record Valid (r : Row) (text : List ℕ) (a x : ℕ) : Type 0 where
  pub ranged : T (in_range r text a x)
  pub spelt : T (spelled r text)

module _ {r : Row} {text : List ℕ} {a x : ℕ} (s : Solid r) (v : Valid r text a x) where
  pub valid_a : a ≤ r.a_most
  unfolding in_range
  valid_a = let t = v.ranged in leb→le a r.a_most (search (and_left, and_right))

  pub valid_x : x ≤ r.x_most
  unfolding in_range
  valid_x = let t = v.ranged in leb→le x r.x_most (search (and_left, and_right))

  valid_space : T (cond (eqb r.space 0) true (space_fits r.space text a x))
  unfolding in_range
  valid_space = let t = v.ranged in search (and_left, and_right)

  valid_length : length text ≡ r.text
  unfolding spelled
  valid_length = eqb→eq (length text) r.text v.spelt

  no_range : (w : ℕ) → w ≡ 0 → Ranged w text
  unfolding range_length le_at value
  no_range w e = rw e (record { wide = omega arith; least = omega arith; small = omega arith })

  some_range : length text ≡ 3 * r.space → T (space_fits r.space text a x) → Ranged r.space text
  unfolding space_fits range_fits
  some_range e t =
      let w = r.space in
      let f : T (range_fits w a text) = rw (eq-eqb (length text) (3 * w) e) at (and_right (flags_fit a x) _ t) in
      let l : 256 ^ w ≤ 256 ^ 8 = pow-le-pow_right {n = 256} (omega arith) {i = w} {j = 8} s.space in
      let g : range_length w text < 256 ^ w = ltb→lt (range_length w text) (256 ^ w) (search (and_left, and_right)) in
      record { wide = omega arith; least = leb→le (min_of w text) (max_of w text) (search (and_left, and_right)); small = lt_of_lt_of_le g l }

  pub ranged : Ranged r.space text
  ranged = go (eqb r.space 0) refl
    where
      go : (b : Bool) → eqb r.space 0 ≡ b → Ranged r.space text
      go true e = no_range r.space (eqb→eq r.space 0 (true_test _ e))
      go false e =
          or_case (eqb r.space 0) (eqb r.text (3 * r.space)) s.text (λ t. no_range r.space (eqb→eq r.space 0 t))
          λ t. some_range (valid_length ∙ eqb→eq r.text (3 * r.space) t) (rw e at valid_space)

-- one number makes the head, and one x and the zeros
le-head : (t k : List ℕ) (n a : ℕ) → T (every is_byte t) → T (every is_byte k) → a < 256 ^ n
    → t ++ (le n a ++ k) ≡ le (length t + (n + length k)) (value t + 256 ^ length t * (256 ^ n * value k) + 256 ^ length t * a)
le-head t k n a bt bk h =
    let e : value t + 256 ^ length t * (a + 256 ^ n * value k) ≡ value t + 256 ^ length t * (256 ^ n * value k) + 256 ^ length t * a =
    rw (mul-add (256 ^ length t) a (256 ^ n * value k)) (omega arith) in
    let inner : le n a ++ k ≡ le (n + length k) (a + 256 ^ n * value k) = ap (λ l. le n a ++ l) (sym (le-value k bk)) ∙ le_join n (length k) a (value k) h in
    rw inner (ap (λ l. l ++ le (n + length k) (a + 256 ^ n * value k)) (sym (le-value t bt)) ∙ le_join (length t) (n + length k) (value t) (a + 256 ^ n * value k) (value-small t bt) ∙ ap (le (length t + (n + length k))) e)

le_tail : (n z x : ℕ) → x < 256 ^ n → le n x ++ le z 0 ≡ le (n + z) x
le_tail n z x h = let e : x + 256 ^ n * 0 ≡ x = omega (arith, mul-zero (256 ^ n)) in le_join n z x 0 h ∙ ap (le (n + z)) e

module _ (kind : ℕ) {c : Columns} (e : c ≡ columns_of (row_of kind)) {text : List ℕ} {a x : ℕ} (v : Valid (row_of kind) text a x) where
  pub head-most : c.head + c.unit * a ≤ 256 ^ 5
  head-most =
      let s = solid-row kind in
      let m : (columns_of (row_of kind)).unit * a ≤ (columns_of (row_of kind)).unit * (row_of kind).a_most = mul-le-mul_left (columns_of (row_of kind)).unit (valid_a s v) in
      rw e (omega (arith, s.head))

  pub range_known : Ranged c.space text
  unfolding columns_of
  range_known = rw e (ranged (solid-row kind) v)

  pub four-parts : {n : ℕ} → n ≡ range_length c.space text
      → Parts (descriptor (row_of kind) text a x) (le c.width (c.head + c.unit * a) ∷ le c.tail x ∷ text ∷ le c.space n ∷ [])
  unfolding descriptor columns_of flatten
  four-parts en =
      let s = solid-row kind in
      let r = row_of kind in
      let h = le-head r.tag r.constant r.a a s.tag s.constant (omega (arith, s.a, valid_a s v)) in
      let t = le_tail r.x r.zeros x (omega (arith, s.x, valid_x s v)) in
      record { is = rw (en, e, ← h, ← t) (simp (append_assoc, append-nil)) }

pub descriptor-length : (kind : ℕ) {text : List ℕ} {a x : ℕ} → Valid (row_of kind) text a x → length (descriptor (row_of kind) text a x) ≡ size_of (row_of kind)
unfolding descriptor size_of columns_of
descriptor-length kind {text} {a} {x} v =
    let r = row_of kind in
    let l = valid_length (solid-row kind) v in
    let e₁ = le-length r.a a in
    let e₂ = le-length r.x x in
    let e₃ = le-length r.zeros 0 in
    let e₄ = le-length r.space (range_length r.space text) in
    simp length-append (omega arith)

pub descriptor-most : (kind : ℕ) {text : List ℕ} {a x : ℕ} → Valid (row_of kind) text a x → length (descriptor (row_of kind) text a x) ≤ 46
descriptor-most kind v = omega (arith, descriptor-length kind v, (solid-row kind).size)

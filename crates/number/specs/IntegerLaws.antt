-- Laws of integers: sizes, exactness, and what the code that reads one at a position answers at each of its ends.
-- For the proofs of this crate and for every reader and writer of terms. Assumes nothing.
use Rattle.std.specs.Prelude.{◌≡◌, refl, Bool, true, false, ◌&&◌, cond, List, [], ◌∷◌, ◌++◌, ℕ, ◌+◌, ◌*◌, ◌/◌, ◌%◌, ◌^◌, ◌≤◌, ◌<◌, T, Some, None, eqb, ltb, leb, length, drop, get_or}
use Rattle.std.proofs.Common.{◌∙◌, ap, arith, lt-ltb, le-ltb, eqb→eq, ltb→lt, lt→ltb, leb→le, le→leb, nltb→le}
use Rattle.std.proofs.Math.Option.{some, none-ne-some}
use Rattle.std.proofs.Math.Dec.{eqb_refl}
use Rattle.octets.specs.Bytes.{◌>>=◌, need, every, is_byte, le, get_le}
use Rattle.octets.specs.Tests.{and_left, and_right, and_both, not_less, cond_true, cond_false, cond_case, cond_inv, took, gave, need_inv, need_true}
use Rattle.octets.specs.Exact.{Exact}
use Rattle.octets.specs.Laws.{le-length, le_exact}
use Rattle.octets.specs.Reading.{Reads, reads, reads_none, past_end, next_byte}
use Rattle.number.specs.Integer.{width, prefix, integer}
use Rattle.number.specs.Get.{announced, get_integer}
use Rattle.number.specs.Lead.{steps, by-steps, lead_bytes, none-follow, tested-short, tested_not, tested-done}

-- ── Widths
pub width-steps : (x : ℕ) → width x ≡ 2 ^ steps x 256 65536 4294967296
unfolding width steps
width-steps x = go (ltb x 256) (ltb x 65536) (ltb x 4294967296)
  where
    go : (p q r : Bool) → cond {A = ℕ} p 1 (cond {A = ℕ} q 2 (cond {A = ℕ} r 4 8)) ≡ 2 ^ cond {A = ℕ} p 0 (cond {A = ℕ} q 1 (cond {A = ℕ} r 2 3))
    go true q r = refl
    go false true r = refl
    go false false true = refl
    go false false false = refl

-- the same, as a shift in code has it
pub width_shift : (x : ℕ) {k : ℕ} → k ≡ steps x 256 65536 4294967296 → 1 * 2 ^ k % 2 ^ 64 ≡ width x
width_shift x e = rw (e, width-steps x) (by-steps x 256 65536 4294967296 (λ k. 1 * 2 ^ k % 2 ^ 64 ≡ 2 ^ k) (λ l. refl) (λ l. refl) (λ l. refl) (λ l. refl))

-- by cases on the width of x
pub by_width : (P : ℕ → Type 0) (x : ℕ) → (x < 256 → P 1) → (x < 65536 → P 2) → (x < 4294967296 → P 4) → P 8 → P (width x)
by_width P x f₁ f₂ f₄ f₈ = rw (width-steps x) (by-steps x 256 65536 4294967296 (λ k. P (2 ^ k)) f₁ f₂ f₄ (λ l. f₈))

-- by cases on the width that b announces
by-announced : (P : ℕ → Type 0) (b : ℕ) → (b ≡ 0x0A → P 1) → (b ≡ 0x0B → P 2) → (b ≡ 0x0C → P 4) → (b ≡ 0x0E → P 8) → P 0 → P (announced b)
unfolding announced
by-announced P b f₁ f₂ f₄ f₈ f₀ =
    cond_case P (eqb b 0x0A) 1 _ (λ t. f₁ (eqb→eq b 0x0A t)) λ t₁.
    cond_case P (eqb b 0x0B) 2 _ (λ t. f₂ (eqb→eq b 0x0B t)) λ t₂.
    cond_case P (eqb b 0x0C) 4 _ (λ t. f₄ (eqb→eq b 0x0C t)) λ t₃.
    cond_case P (eqb b 0x0E) 8 0 (λ t. f₈ (eqb→eq b 0x0E t)) λ t₄. f₀

pub width-least : (x : ℕ) → 1 ≤ width x
width-least x = by_width (λ w. 1 ≤ w) x (λ l. omega arith) (λ l. omega arith) (λ l. omega arith) (omega arith)

pub width-most : (x : ℕ) → width x ≤ 8
width-most x = by_width (λ w. w ≤ 8) x (λ l. omega arith) (λ l. omega arith) (λ l. omega arith) (omega arith)

width-holds : (x : ℕ) → x < 2 ^ 64 → x < 256 ^ width x
width-holds x h = by_width (λ w. x < 256 ^ w) x (λ l. l) (λ l. l) (λ l. l) h

-- before 1, 2, 4, 8 bytes stand 0A, 0B, 0C, 0E
pub prefix_half : (x : ℕ) → prefix (width x) ≡ 0x0A + width x / 2
unfolding prefix
prefix_half x = by_width (λ w. prefix w ≡ 0x0A + w / 2) x (λ l. refl) (λ l. refl) (λ l. refl) refl

-- a prefix announces its width, and is no integer of its own
prefix-tells : (x : ℕ) → announced (prefix (width x)) ≡ width x
unfolding prefix announced
prefix-tells x = by_width (λ w. announced (prefix w) ≡ w) x (λ l. refl) (λ l. refl) (λ l. refl) refl

prefix-apart : (x : ℕ) → 2 ≤ prefix (width x)
prefix-apart x = omega (arith, prefix_half x)

prefix-small : (x : ℕ) → prefix (width x) < 256
prefix-small x = omega (arith, prefix_half x, width-most x)

announced-holds : (b : ℕ) → 256 ^ announced b ≤ 2 ^ 64
announced-holds b = by-announced (λ w. 256 ^ w ≤ 2 ^ 64) b (λ l. omega arith) (λ l. omega arith) (λ l. omega arith) (λ l. omega arith) (omega arith)

pub announced-most : (b : ℕ) → announced b ≤ 8
announced-most b = by-announced (λ w. w ≤ 8) b (λ l. omega arith) (λ l. omega arith) (λ l. omega arith) (λ l. omega arith) (omega arith)

announced-only : (b : ℕ) → 1 ≤ announced b → b ≡ prefix (announced b)
unfolding prefix
announced-only b = by-announced (λ w. 1 ≤ w → b ≡ prefix w) b (λ e l. e) (λ e l. e) (λ e l. e) (λ e l. e) (λ l. absurd (omega arith))

-- ── The bytes of an integer
pub integer-short : (x : ℕ) → x < 2 → integer x ≡ x ∷ []
unfolding integer
integer-short x h = cond_true (ltb x 2) _ _ (lt→ltb x 2 h)

pub integer_long : (x : ℕ) → 2 ≤ x → integer x ≡ prefix (width x) ∷ le (width x) x
unfolding integer
integer_long x h = cond_false (ltb x 2) _ _ (not_less x 2 h)

-- the same, for code that has computed the width
pub integer-parts : (x : ℕ) → 2 ≤ x → {w : ℕ} → w ≡ width x → integer x ≡ (0x0A + w / 2) ∷ le w x
integer-parts x h e = rw (e, ← prefix_half x) (integer_long x h)

-- by cases on the form of x
pub by_form : (P : List ℕ → Type 0) (x : ℕ) → (x < 2 → P (x ∷ [])) → (2 ≤ x → P (prefix (width x) ∷ le (width x) x)) → P (integer x)
unfolding integer
by_form P x f g = cond_case P (ltb x 2) _ _ (λ t. f (ltb→lt x 2 t)) λ t. g (nltb→le x 2 t)

pub integer-length : (x : ℕ) → 2 ≤ x → length (integer x) ≡ width x + 1
integer-length x h = ap length (integer_long x h) ∙ omega (arith, le-length (width x) x)

pub integer-most : (x : ℕ) → length (integer x) ≤ 9
integer-most x = by_form (λ l. length l ≤ 9) x (λ h. omega arith) λ h. omega (arith, le-length (width x) x, width-most x)

pub integer-least : (x : ℕ) → 1 ≤ length (integer x)
integer-least x = by_form (λ l. 1 ≤ length l) x (λ h. omega arith) λ h. omega arith

pub integer-bytes : (x : ℕ) → T (every is_byte (integer x))
unfolding every
integer-bytes x =
    by_form (λ l. T (every is_byte l)) x
    (λ h. and_both (is_byte x) true (lt→ltb x 256 (omega arith)) tt)
    λ h. lead_bytes (prefix (width x)) (width x) x (prefix-small x)

-- ── An integer is read back from its bytes, and from no others
integer-back : (x : ℕ) (rest : List ℕ) → x < 2 ^ 64 → get_integer (integer x ++ rest) ≡ some (x, rest)
unfolding get_integer ◌>>=◌
integer-back x rest h =
    by_form (λ l. get_integer (l ++ rest) ≡ some (x, rest)) x
    (λ s. cond_true (ltb x 2) _ _ (lt→ltb x 2 s))
    λ s.
    cond_false (ltb (prefix (width x)) 2) _ _ (not_less (prefix (width x)) 2 (prefix-apart x))
    ∙ rw (prefix-tells x, (le_exact (width x)).back x rest (width-holds x h))
    (need_true (leb 2 x && eqb (width x) (width x)) _ (and_both (leb 2 x) _ (le→leb 2 x s) (eqb_refl (width x))))

integer-only : (bs : List ℕ) (x : ℕ) (rest : List ℕ) → get_integer bs ≡ some (x, rest) → (x < 2 ^ 64) × (bs ≡ integer x ++ rest)
unfolding get_integer
integer-only [] x rest h = absurd (none-ne-some _ h)
integer-only (b ∷ bs) x rest h₀ =
    cond_inv (ltb b 2) _ _ h₀
    (λ t h.
    let (p, q) = gave h in
    let l : b < 2 = ltb→lt b 2 t in
    (omega arith, rw (← p, ← q, integer-short b l)))
    λ t h.
    took (get_le (announced b) bs) _ h λ y z h₁ h₂.
    let (c, h₃) = need_inv (leb 2 y && eqb (width y) (announced b)) _ _ h₂ in
    let (p, q) = gave h₃ in
    let (l, e) = (le_exact (announced b)).only bs y z h₁ in
    let g : width y ≡ announced b = eqb→eq (width y) (announced b) (search (and_left, and_right)) in
    let s : 2 ≤ y = leb→le 2 y (search and_left) in
    let f : b ≡ prefix (announced b) = announced-only b (omega (arith, width-least y)) in
    (omega (arith, announced-holds b), rw (← p, ← q, integer_long y s, g, ← f) (ap (λ t. b ∷ t) e))

pub integer_exact : Exact integer get_integer (λ x. x < 2 ^ 64)
integer_exact = record { back = integer-back; only = integer-only }

-- ── Reading at a position: the end of the bytes, one byte, or a width and its number
-- x, read from w bytes, is an integer in its own form
unfoldable pub own_form : ℕ → ℕ → Bool
own_form w x = leb 2 x && eqb (width x) w

module _ (b : List ℕ) (at : ℕ) where
  pub integer_end : length b ≤ at → Reads get_integer b at None
  unfolding get_integer
  integer_end h = reads_none (rw (past_end b h))

  module _ (h : at < length b) (c : ℕ) (is : c ≡ get_or b at 0) where
    pub integer-one : c < 2 → Reads get_integer b at (Some (c, at + 1))
    unfolding get_integer
    integer-one s = reads (record { is = rw (next_byte b at h, ← is, lt-ltb c 2 s); low = omega arith; high = omega arith })

    module _ (s : 2 ≤ c) where
      rest : {w : ℕ} → w ≡ announced c → get_integer (drop at b) ≡ (get_le w (drop (at + 1) b) >>= λ v. need (own_form w v.0) (some (v.0, v.1)))
      unfolding get_integer own_form
      rest we = rw (next_byte b at h, ← is, le-ltb c 2 s, ← we)

      -- behind a byte that is no prefix no bytes are read, and the 0 that they are has a form of its own
      pub integer-other : ¬ (1 ≤ announced c) → Reads get_integer b at None
      unfolding own_form need ◌>>=◌
      integer-other n = reads_none (rest {w = 0} (omega (arith, n)) ∙ rw (none-follow (drop (at + 1) b)) refl)

      module _ (w : ℕ) (we : w ≡ announced c) where
        pub integer-cut : Reads (get_le w) b (at + 1) None → Reads get_integer b at None
        integer-cut d = tested-short w (own_form w) (λ x. x) (rest we) d

        module _ {x next : ℕ} (d : Reads (get_le w) b (at + 1) (Some (x, next))) where
          pub integer_not : own_form w x ≡ false → Reads get_integer b at None
          integer_not t = tested_not w (own_form w) (λ x. x) (rest we) d t

          pub integer-done : own_form w x ≡ true → Reads get_integer b at (Some (x, next))
          integer-done t = tested-done w (own_form w) (λ x. x) (rest we) d t

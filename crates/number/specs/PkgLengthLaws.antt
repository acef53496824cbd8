-- Laws of lengths, of a body and of a field entry at once: sizes, exactness, and what the code that reads one at a position answers.
-- For the proofs of this crate and for every reader and writer of bodies. Assumes nothing.
use Rattle.std.specs.Prelude.{◌≡◌, ℕ, zero, suc, ◌+◌, ◌-◌, ◌*◌, ◌/◌, ◌%◌, ◌^◌, ◌≤◌, ◌<◌, Bool, true, false, T, Some, None, cond, eqb, ltb, leb, List, [], ◌∷◌, ◌++◌, length, drop, get_or, refl}
use Rattle.std.proofs.Common.{ap, ap₂, ◌∙◌, arith, eqb→eq, ltb→lt, lt→ltb, leb→le, le→leb, lt-ltb, le-ltb, leb-true, leb-false}
use Rattle.std.proofs.Math.Option.{Option, none, some, none-ne-some}
use Rattle.std.proofs.Math.Dec.{eqb_refl}
use Rattle.octets.specs.Bytes.{◌>>=◌, need, every, is_byte, le, get_le}
use Rattle.octets.specs.Tests.{and_left, and_right, and_both, true_test, took, gave, need_inv, need_true}
use Rattle.octets.specs.Laws.{le-length, le_exact}
use Rattle.octets.specs.Reading.{Reads, reads_none, past_end, next_byte}
use Rattle.number.specs.PkgLength.{following, own, largest, length_bytes, create_pkg_length}
use Rattle.number.specs.Get.{get_length, shortest, get_pkg_length}
use Rattle.number.specs.Lead.{steps, by-steps, steps-most, lead_bytes, none-follow, tested-short, tested_not, tested-done}

-- ── Sizes
pub following-steps : (n : ℕ) → following n ≡ steps n 63 4094 1048573
unfolding following steps
following-steps n = refl

-- by cases on the number of bytes after the first
pub by-following : (P : ℕ → Type 0) (n : ℕ) → (n < 63 → P 0) → (n < 4094 → P 1) → (n < 1048573 → P 2) → (1048573 ≤ n → P 3) → P (following n)
by-following P n f₀ f₁ f₂ f₃ = rw (following-steps n) (by-steps n 63 4094 1048573 P f₀ f₁ f₂ f₃)

pub following-most : (n : ℕ) → following n ≤ 3
following-most n = rw (following-steps n) (steps-most n 63 4094 1048573)

pub own-most : (self : Bool) (k : ℕ) → own self k ≤ k + 1
own-most true k = omega arith
own-most false k = omega arith

pub largest-most : (self : Bool) → largest self ≤ 268435455
largest-most true = omega arith
largest-most false = omega arith

-- the first byte of the length m with k bytes after it
unfoldable pub lead_of : ℕ → ℕ → ℕ
lead_of zero m = m
lead_of (suc k) m = 64 * suc k + m % 16

pub lead_one : (k m : ℕ) → k ≡ 0 → lead_of k m ≡ m
unfolding lead_of
lead_one k m e = rw e

pub lead_long : (k m : ℕ) → (k ≡ 0 → ⊥) → lead_of k m ≡ 64 * k + m % 16
unfolding lead_of
lead_long zero m h = absurd (h refl)
lead_long (suc k) m h = refl

length_lead : (k m : ℕ) → length_bytes k m ≡ lead_of k m ∷ le k (m / 16)
unfolding length_bytes lead_of le
length_lead zero m = refl
length_lead (suc k) m = refl

pub pkg_length_lead : (self : Bool) (n : ℕ) → create_pkg_length self n ≡ lead_of (following n) (n + own self (following n)) ∷ le (following n) ((n + own self (following n)) / 16)
unfolding create_pkg_length
pkg_length_lead self n = length_lead (following n) (n + own self (following n))

-- the same, for code that has computed its parts
pub pkg_length-parts : (self : Bool) (n : ℕ) {k o c : ℕ} → k ≡ following n → o ≡ own self k → c ≡ lead_of k (n + o) → create_pkg_length self n ≡ c ∷ le k ((n + o) / 16)
pkg_length-parts self n f e d = rw (d, e, f) (pkg_length_lead self n)

pub pkg_length-length : (self : Bool) (n : ℕ) → length (create_pkg_length self n) ≡ following n + 1
pkg_length-length self n = ap length (pkg_length_lead self n) ∙ omega (arith, le-length (following n) ((n + own self (following n)) / 16))

-- the first byte is a byte, however large n is
lead_byte : (self : Bool) (n : ℕ) → lead_of (following n) (n + own self (following n)) < 256
unfolding lead_of
lead_byte self n =
    by-following (λ k. lead_of k (n + own self k) < 256) n
    (λ l. omega (arith, own-most self 0)) (λ l. omega arith) (λ l. omega arith) (λ l. omega arith)

pub lead_small : (self : Bool) (n : ℕ) {k o : ℕ} → k ≡ following n → o ≡ own self k → lead_of k (n + o) < 256
lead_small self n f e = rw (e, f) (lead_byte self n)

pub pkg_length-bytes : (self : Bool) (n : ℕ) → T (every is_byte (create_pkg_length self n))
pkg_length-bytes self n = rw (pkg_length_lead self n) (lead_bytes _ _ _ (lead_byte self n))

-- ── A length is read back from its bytes, and from no others
-- m fits into k bytes after the first
abbrev Fits : ℕ → ℕ → Type 0
Fits zero m = m < 64
Fits (suc k) m = m / 16 < 256 ^ suc k

following-fits : (self : Bool) (n : ℕ) → n ≤ largest self → Fits (following n) (n + own self (following n))
following-fits true n h = by-following (λ k. Fits k (n + (k + 1))) n (λ l. omega arith) (λ l. omega arith) (λ l. omega arith) (λ l. omega arith)
following-fits false n h = by-following (λ k. Fits k (n + 0)) n (λ l. omega arith) (λ l. omega arith) (λ l. omega arith) (λ l. omega arith)

module _ (self : Bool) where
  read_as : (k m b : ℕ) (bs rest : List ℕ) → b / 64 ≡ k → get_length k b bs ≡ some (m, rest) → T (shortest self k m) → get_pkg_length self (b ∷ bs) ≡ some (m - own self k, rest)
  unfolding get_pkg_length ◌>>=◌
  read_as k m b bs rest e f t = rw (e, f) (need_true (shortest self k m) _ t)

  bytes_back : (k m : ℕ) (rest : List ℕ) → Fits k m → T (shortest self k m) → get_pkg_length self (length_bytes k m ++ rest) ≡ some (m - own self k, rest)
  unfolding length_bytes get_length ◌>>=◌
  bytes_back zero m rest h t = read_as 0 m m rest rest (omega arith) refl t
  bytes_back (suc k) m rest h t =
      let e : (64 * suc k + m % 16) % 16 + 16 * (m / 16) ≡ m = omega arith in
      read_as (suc k) m _ _ rest (omega arith)
      (need_true (ltb ((64 * suc k + m % 16) % 64) 16) _ (lt→ltb ((64 * suc k + m % 16) % 64) 16 (omega arith)) ∙ rw ((le_exact (suc k)).back (m / 16) rest h, e)) t

  pub pkg_length-back : (n : ℕ) (rest : List ℕ) → n ≤ largest self → get_pkg_length self (create_pkg_length self n ++ rest) ≡ some (n, rest)
  unfolding create_pkg_length shortest
  pkg_length-back n rest h =
      let o = own self (following n) in
      let e : n + o - o ≡ n = omega arith in
      let t₁ : T (leb o (n + o)) = le→leb o (n + o) (omega arith) in
      let t₂ : T (leb (n + o - o) (largest self)) = rw e (le→leb n (largest self) h) in
      let t₃ : T (eqb (following (n + o - o)) (following n)) = rw e (eqb_refl (following n)) in
      let t : T (shortest self (following n) (n + o)) = search and_both in
      bytes_back (following n) (n + o) rest (following-fits self n h) t ∙ ap (λ v. some (v, rest)) e

  bytes-only : (k b : ℕ) (bs : List ℕ) (m : ℕ) (rest : List ℕ) → b / 64 ≡ k → get_length k b bs ≡ some (m, rest) → b ∷ bs ≡ length_bytes k m ++ rest
  unfolding length_bytes get_length
  bytes-only zero b bs m rest e h = let (p, q) = gave h in ap₂ (λ x y. x ∷ y) p q
  bytes-only (suc k) b bs m rest e h =
      let (t, h₀) = need_inv (ltb (b % 64) 16) _ _ h in
      took (get_le (suc k) bs) _ h₀ λ x z h₁ h₂.
      let (p, q) = gave h₂ in
      let (l, f) = (le_exact (suc k)).only bs x z h₁ in
      let s : b % 64 < 16 = ltb→lt (b % 64) 16 t in
      let lo : b ≡ 64 * suc k + m % 16 = omega arith in
      let hi : x ≡ m / 16 = omega arith in
      ap₂ (λ x y. x ∷ y) lo (rw (← hi, ← q) f)

  pub pkg_length-only : (bs : List ℕ) (n : ℕ) (rest : List ℕ) → get_pkg_length self bs ≡ some (n, rest) → (n ≤ largest self) × (bs ≡ create_pkg_length self n ++ rest)
  unfolding get_pkg_length create_pkg_length shortest
  pkg_length-only [] n rest h = absurd (none-ne-some _ h)
  pkg_length-only (b ∷ bs) n rest h =
      took (get_length (b / 64) b bs) _ h λ m z h₁ h₂.
      let o = own self (b / 64) in
      let (t, h₃) = need_inv (shortest self (b / 64) m) _ _ h₂ in
      let (p, q) = gave h₃ in
      let l : o ≤ m = leb→le o m (search (and_left, and_right)) in
      let s : m - o ≤ largest self = leb→le (m - o) (largest self) (search (and_left, and_right)) in
      let w : following (m - o) ≡ b / 64 = eqb→eq _ _ (search (and_left, and_right)) in
      let e : m - o + o ≡ m = omega arith in
      (rw p at s, rw (← p, w, e, ← q) (bytes-only (b / 64) b bs m z refl h₁))

-- ── Reading at a position: the end of the bytes, a first byte that is none, or the bytes that it announces
-- c is the first byte of a long length and has a 1 in bit 4 or 5
unfoldable pub malformed : ℕ → Bool
malformed c = cond (ltb c 64) false (leb 16 (c % 64))

-- the length with the first byte c and the number x in the bytes after it
unfoldable pub whole : ℕ → ℕ → ℕ
whole c x = cond (ltb c 64) c (c % 16 + 16 * x)

ill_formed : (k c : ℕ) (bs : List ℕ) → c / 64 ≡ k → malformed c ≡ true → get_length k c bs ≡ none
unfolding get_length malformed need
ill_formed zero c bs e f = let q = lt-ltb c 64 (omega arith) in let z : ◌≡◌ {A = ℕ} 0 1 = cc in let j : ⊥ = omega arith in absurd j
ill_formed (suc k) c bs e f =
    let l : 16 ≤ c % 64 = leb-true 16 (c % 64) (rw (le-ltb c 64 (omega arith)) at f) in
    rw (le-ltb (c % 64) 16 l)

well_formed_lem : (k c : ℕ) (bs : List ℕ) → c / 64 ≡ k → malformed c ≡ false → get_length k c bs ≡ (get_le k bs >>= λ v. some (whole c v.0, v.1))
unfolding get_length malformed whole need ◌>>=◌
well_formed_lem zero c bs e f = rw (lt-ltb c 64 (omega arith), none-follow bs)
well_formed_lem (suc k) c bs e f =
    let q = le-ltb c 64 (omega arith) in
    let l : c % 64 < 16 = leb-false 16 (c % 64) (rw q at f) in
    rw (lt-ltb (c % 64) 16 l, q)

bind_some : {A B C : Type 0} (m : Option A) (g : A → B) (f : B → Option C) → ((m >>= λ v. some (g v)) >>= f) ≡ (m >>= λ v. f (g v))
unfolding ◌>>=◌
bind_some none g f = refl
bind_some (some v) g f = refl

module _ (self : Bool) (b : List ℕ) (at : ℕ) where
  pub pkg_length_end : length b ≤ at → Reads (get_pkg_length self) b at None
  unfolding get_pkg_length
  pkg_length_end h = reads_none (rw (past_end b h))

  module _ (h : at < length b) (c : ℕ) (is : c ≡ get_or b at 0) where
    pub pkg_length-malformed : malformed c ≡ true → Reads (get_pkg_length self) b at None
    unfolding get_pkg_length ◌>>=◌
    pkg_length-malformed f = reads_none (rw (next_byte b at h, ← is, ill_formed (c / 64) c (drop (at + 1) b) refl f))

    module _ (f : malformed c ≡ false) where
      abbrev tested : ℕ → Bool
      tested x = shortest self (c / 64) (whole c x)

      abbrev meant : ℕ → ℕ
      meant x = whole c x - own self (c / 64)

      rest : get_pkg_length self (drop at b) ≡ (get_le (c / 64) (drop (at + 1) b) >>= λ v. need (tested v.0) (some (meant v.0, v.1)))
      unfolding get_pkg_length
      rest = rw (next_byte b at h, ← is, well_formed_lem (c / 64) c (drop (at + 1) b) refl f) (bind_some (get_le (c / 64) (drop (at + 1) b)) _ _)

      pub pkg_length-short : Reads (get_le (c / 64)) b (at + 1) None → Reads (get_pkg_length self) b at None
      pkg_length-short d = tested-short (c / 64) tested meant rest d

      module _ {x next : ℕ} (d : Reads (get_le (c / 64)) b (at + 1) (Some (x, next))) (m : ℕ) (me : m ≡ whole c x) where
        pub pkg_length_not : shortest self (c / 64) m ≡ false → Reads (get_pkg_length self) b at None
        pkg_length_not t = tested_not (c / 64) tested meant rest d (rw (← me) t)

        pub pkg_length-done : shortest self (c / 64) m ≡ true → (o : ℕ) → o ≡ own self (c / 64) → Reads (get_pkg_length self) b at (Some (m - o, next))
        pkg_length-done t o oe = rw (me, oe) (tested-done (c / 64) tested meant rest d (rw (← me) t))

-- what the shortest length of a body counts is there
pub shortest-own : (self : Bool) (k m : ℕ) → shortest self k m ≡ true → own self k ≤ m
unfolding shortest
shortest-own self k m e = let t : T (shortest self k m) = true_test _ e in leb→le (own self k) m (search (and_left, and_right))

-- Laws of the arity list: an entry and those behind it; entries checked one by one, each against the one before it; and that no path
-- takes more than 7 arguments. For this crate's code, and for crates that look paths up.
-- Assumes nothing.
use Rattle.std.specs.Prelude.{◌≡◌, Bool, true, false, ◌&&◌, List, [], ◌∷◌, map, ℕ, suc, ◌+◌, ◌-◌, ◌*◌, ◌/◌, ◌<◌, ◌≤◌, T, length}
use Rattle.std.proofs.Math.Path.{refl}
use Rattle.std.proofs.Common.{sym, arith, add-one}
use Rattle.std.proofs.Math.Bool.{and-true, and-false, and_assoc}
use Rattle.std.proofs.Math.Option.{Option-elim}
use Rattle.std.proofs.Math.Dec.{leb, leb→le}
use Rattle.octets.specs.Bytes.{le_at, ◌>>=◌}
use Rattle.octets.specs.Tests.{and_left, and_right, cond_case, true_test}
use Rattle.path.specs.Path.{is_path, path_of, unroot, parts_of}
use Rattle.term.specs.Record.{text_at}
use Rattle.arity.specs.Arity.{entry_at, entries_of, entries_from, Arity, arity_in, arities_of, below, same, entry_fits, entries_fit, ascend, arities_fit, args_in, args_of}
use Rattle.arity.specs.declared.Entry.{Entry}

-- ── Entries: at an index there is one and the rest, or none
step : (b : List ℕ) (j m n : ℕ) → m ≡ suc n → entries_of b j m ≡ entry_at b j ∷ entries_of b (suc j) n
unfolding entries_of
step b j m n e = rw e refl

pub entries_more : (b : List ℕ) (j : ℕ) → j < length b / 8 → entries_from b j ≡ entry_at b j ∷ entries_from b (j + 1)
unfolding entries_from
entries_more b j h = rw add-one (step b j (length b / 8 - j) (length b / 8 - suc j) (omega arith))

pub entries_none : (b : List ℕ) (j : ℕ) → length b / 8 ≤ j → entries_from b j ≡ []
unfolding entries_from entries_of
entries_none b j h = let e : length b / 8 - j ≡ 0 = omega arith in rw e

pub entry-made : (b : List ℕ) (j : ℕ) {s l n : ℕ} → s ≡ le_at 4 b (8 * j) → l ≡ le_at 2 b (8 * j + 4) → n ≡ le_at 2 b (8 * j + 6)
    → ◌≡◌ {A = Entry} (record { start = s; len = l; args = n }) (entry_at b j)
unfolding entry_at
entry-made b j e₁ e₂ e₃ = rw (e₁, e₂, e₃)

-- ── One entry
abbrev pub text_in : List ℕ → Entry → List ℕ
text_in pool e = text_at pool e.start e.len

module _ (pool : List ℕ) (e : Entry) where
  fits-most : T (entry_fits pool e) → e.args ≤ 7
  unfolding entry_fits
  fits-most h = leb→le e.args 7 (and_right (leb (e.start + e.len) (length pool) && is_path (text_in pool e) && leb 1 e.args) (leb e.args 7) h)

-- a path is not empty
path_some : (t : List ℕ) (i m n : Bool) → i && is_path t && m && n && below [] t ≡ i && is_path t && m && n
unfolding below is_path path_of unroot parts_of ◌>>=◌ Option-elim
path_some [] i m n = rw (and-false i) refl
path_some (c ∷ t) i m n = and-true _

-- ── Entries one by one: each fits, and its text is above the one before it
unfoldable pub fits_behind : List ℕ → List ℕ → Entry → Bool
fits_behind pool t e = entry_fits pool e && below t (text_in pool e)

unfoldable pub all_behind : List ℕ → List ℕ → List Entry → Bool
all_behind pool t [] = true
all_behind pool t (e ∷ es) = fits_behind pool t e && all_behind pool (text_in pool e) es

-- an empty text is below the first
first-behind : (pool : List ℕ) (e : Entry) → fits_behind pool [] e ≡ entry_fits pool e
unfolding fits_behind entry_fits
first-behind pool e = path_some (text_in pool e) (leb (e.start + e.len) (length pool)) (leb 1 e.args) (leb e.args 7)

shuffle : (a b c d : Bool) → a && b && (c && d) ≡ a && c && (b && d)
shuffle true true c d = refl
shuffle true false true d = refl
shuffle true false false d = refl
shuffle false b c d = refl

behind-one : (pool : List ℕ) (a : Arity) (es : List Entry) → all_behind pool a.text es ≡ entries_fit pool es && ascend (a ∷ map (arity_in pool) es)
unfolding all_behind fits_behind entries_fit ascend arity_in
behind-one pool a [] = refl
behind-one pool a (e ∷ es) =
    rw (behind-one pool (arity_in pool e) es)
    (shuffle (entry_fits pool e) (below a.text (text_in pool e)) (entries_fit pool es) (ascend (arity_in pool e ∷ map (arity_in pool) es)))

behind-none : (pool : List ℕ) (es : List Entry) → all_behind pool [] es ≡ entries_fit pool es && ascend (map (arity_in pool) es)
unfolding all_behind entries_fit ascend arity_in
behind-none pool [] = refl
behind-none pool (e ∷ es) =
    rw (first-behind pool e, behind-one pool (arity_in pool e) es)
    (sym (and_assoc (entry_fits pool e) (entries_fit pool es) (ascend (arity_in pool e ∷ map (arity_in pool) es))))

-- what is left, behind the text that was last, decides the whole
pub record Fitting (b pool last : List ℕ) (j : ℕ) : Type 0 where
  pub left : all_behind pool last (entries_from b j) ≡ arities_fit b pool

pub fitting_start : (b pool : List ℕ) → Fitting b pool [] 0
unfolding arities_fit arities_of
fitting_start b pool = record { left = behind-none pool (entries_from b 0) }

module _ {b pool last : List ℕ} {j : ℕ} (h : Fitting b pool last j) where
  pub fitting_end : length b / 8 ≤ j → true ≡ arities_fit b pool
  unfolding all_behind
  fitting_end p = rw (entries_none b j p) at h.left

  module _ (p : j < length b / 8) {e : Entry} (f : e ≡ entry_at b j) {r : Bool} (g : r ≡ fits_behind pool last e) where
    one : r && all_behind pool (text_in pool e) (entries_from b (j + 1)) ≡ arities_fit b pool
    unfolding all_behind
    one = rw (g, f) (rw (entries_more b j p) at h.left)

    pub fitting_bad : r ≡ false → false ≡ arities_fit b pool
    fitting_bad k = rw k at one

    pub fitting_turn : r ≡ true → {t : List ℕ} → t ≡ text_in pool e → Fitting b pool t (j + 1)
    fitting_turn k m = record { left = rw m (rw k at one) }

-- ── At most 7 arguments
most : (pool t : List ℕ) (es : List Entry) → T (entries_fit pool es) → args_in (map (arity_in pool) es) t ≤ 7
unfolding entries_fit args_in arity_in
most pool t [] h = omega arith
most pool t (e ∷ es) h =
    cond_case (λ n. n ≤ 7) (same (text_in pool e) t) e.args (args_in (map (arity_in pool) es) t)
    (λ _. fits-most pool e (and_left (entry_fits pool e) (entries_fit pool es) h))
    (λ _. most pool t es (and_right (entry_fits pool e) (entries_fit pool es) h))

module _ (b pool : List ℕ) (h : arities_fit b pool ≡ true) where
  both : T (entries_fit pool (entries_from b 0) && ascend (arities_of b pool))
  unfolding arities_fit
  both = true_test (entries_fit pool (entries_from b 0) && ascend (arities_of b pool)) h

  pub args-most : (t : List ℕ) → args_of b pool t ≤ 7
  unfolding args_of arities_of
  args-most t = most pool t (entries_from b 0) (and_left (entries_fit pool (entries_from b 0)) (ascend (arities_of b pool)) both)

  pub ascending : T (ascend (arities_of b pool))
  ascending = and_right (entries_fit pool (entries_from b 0)) (ascend (arities_of b pool)) both

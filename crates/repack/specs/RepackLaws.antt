-- Laws of repacking: what the entries not yet looked at give, with what is done, is the whole. In a list that fits, an entry's length is
-- its text's, and no text is empty, so the texts' places are a running sum.
-- Assumes nothing.
use Rattle.std.specs.Prelude.{◌≡◌, true, ◌&&◌, ℕ, ◌+◌, ◌*◌, ◌/◌, ◌<◌, ◌≤◌, T, leb, eqb, length}
use Rattle.std.proofs.Math.Path.{refl}
use Rattle.std.proofs.Common.{ap, arith, leb→le, length-append, length-drop, length-take-le}
use mathlib.Core.List.{List, [], ◌∷◌, ◌++◌, flatten, append-nil}
use Rattle.octets.specs.Bytes.{le}
use Rattle.octets.specs.Tests.{and_left, and_right, true_test, cond_false, not_equal}
use Rattle.octets.specs.Filling.{Wrote, Filling, filling_start, filling_fits, filling_lent, filling_end, Writing, writing_start, lent, returned}
use Rattle.path.specs.Path.{is_path}
use Rattle.path.specs.PathLaws.{path-text-length}
use Rattle.term.specs.Record.{text_at}
use Rattle.arity.specs.Arity.{entry_at, entries_from, Arity, arity_in, arities_of, ascend, entry_fits, entries_fit, arities_fit}
use Rattle.arity.specs.ArityLaws.{entries_more, entries_none, text_in}
use Rattle.arity.specs.declared.Entry.{Entry}
use Rattle.normal.specs.File.{start_of, arity_bytes, arities_bytes, arity_texts}
use Rattle.repack.specs.Repack.{entry_bytes, arities_from}

-- ── An entry is three numbers in a row
pub entry-start : (s l n : ℕ) (first : List ℕ) → length (entry_bytes s l n) ≤ length first
    → Writing (entry_bytes s l n) (le 4 s ∷ le 2 l ∷ le 2 n ∷ []) 0 first first
unfolding entry_bytes flatten
entry-start s l n first room = writing_start first (record { is = rw append-nil refl }) room

-- ── Arities from an index on: one and the rest, or none
module _ (b pool : List ℕ) where
  from_first : arities_of b pool ≡ arities_from b pool 0
  unfolding arities_of arities_from
  from_first = refl

  from_more : (j : ℕ) → j < length b / 8 → arities_from b pool j ≡ arity_in pool (entry_at b j) ∷ arities_from b pool (j + 1)
  unfolding arities_from
  from_more j h = rw (entries_more b j h) refl

  from_none : (j : ℕ) → length b / 8 ≤ j → arities_from b pool j ≡ []
  unfolding arities_from
  from_none j h = rw (entries_none b j h) refl

-- ── The entries from j on fit
pub record Fits (b pool : List ℕ) (j : ℕ) : Type 0 where
  pub left : T (entries_fit pool (entries_from b j))

fits-start : (b pool : List ℕ) → arities_fit b pool ≡ true → Fits b pool 0
unfolding arities_fit
fits-start b pool h =
    record { left = and_left (entries_fit pool (entries_from b 0)) (ascend (arities_of b pool)) (true_test (entries_fit pool (entries_from b 0) && ascend (arities_of b pool)) h) }

-- what an entry that fits says of its text
record Sized (pool : List ℕ) (e : Entry) : Type 0 where
  len : length (text_in pool e) ≡ e.len
  least : 1 ≤ e.len
  most : e.len ≤ 1275

sized : (pool : List ℕ) (e : Entry) → T (entry_fits pool e) → Sized pool e
unfolding entry_fits text_at
sized pool e h =
    let inside = leb (e.start + e.len) (length pool) in
    let spelled = is_path (text_in pool e) in
    let h₁ : T (inside && spelled && leb 1 e.args) = and_left (inside && spelled && leb 1 e.args) (leb e.args 7) h in
    let h₂ : T (inside && spelled) = and_left (inside && spelled) (leb 1 e.args) h₁ in
    let i : e.start + e.len ≤ length pool = leb→le (e.start + e.len) (length pool) (and_left inside spelled h₂) in
    let m = path-text-length (text_in pool e) (and_right inside spelled h₂) in
    let l : length (text_in pool e) ≡ e.len = length-take-le e.len _ (rw length-drop (omega arith)) in
    record { len = l; least = omega (arith, m.text, m.least); most = omega (arith, m.text, m.most, m.root) }

module _ {b pool : List ℕ} {j : ℕ} (h : Fits b pool j) (p : j < length b / 8) {e : Entry} (f : e ≡ entry_at b j) where
  both : T (entry_fits pool e && entries_fit pool (entries_from b (j + 1)))
  unfolding entries_fit
  both = rw f (rw (entries_more b j p) at h.left)

  fits-here : Sized pool e
  fits-here = sized pool e (and_left (entry_fits pool e) (entries_fit pool (entries_from b (j + 1))) both)

  fits_turn : Fits b pool (j + 1)
  fits_turn = record { left = and_right (entry_fits pool e) (entries_fit pool (entries_from b (j + 1))) both }

-- ── The texts' lengths summed
texts-more : (b pool : List ℕ) (j : ℕ) → j < length b / 8 → {e : Entry} → e ≡ entry_at b j
    → arity_texts (arities_from b pool j) ≡ text_in pool e ++ arity_texts (arities_from b pool (j + 1))
unfolding arity_texts arity_in
texts-more b pool j p f = rw (f, from_more b pool j p) refl

texts-none : (b pool : List ℕ) (j : ℕ) → length b / 8 ≤ j → length (arity_texts (arities_from b pool j)) ≡ 0
unfolding arity_texts
texts-none b pool j p = rw (from_none b pool j p) refl

pub record Summing (b pool : List ℕ) (sum j : ℕ) : Type 0 where
  pub fits : Fits b pool j
  pub left : sum + length (arity_texts (arities_from b pool j)) ≡ length (arity_texts (arities_of b pool))
  pub small : sum ≤ 1275 * j

pub summing_start : (b pool : List ℕ) → arities_fit b pool ≡ true → Summing b pool 0 0
summing_start b pool h = record { fits = fits-start b pool h; left = rw (from_first b pool) (omega arith); small = omega arith }

module _ {b pool : List ℕ} {sum j : ℕ} (h : Summing b pool sum j) where
  pub summing_end : length b / 8 ≤ j → sum ≡ length (arity_texts (arities_of b pool))
  summing_end p = omega (arith, h.left, texts-none b pool j p)

  module _ (p : j < length b / 8) {e : Entry} (f : e ≡ entry_at b j) where
    pub summing_most : sum + e.len ≤ 1275 * (j + 1)
    summing_most = omega (arith, h.small, (fits-here h.fits p f).most)

    pub summing_turn : Summing b pool (sum + e.len) (j + 1)
    summing_turn = record {
      fits = fits_turn h.fits p f;
      left = omega (arith, h.left, ap length (texts-more b pool j p f), length-append (text_in pool e) (arity_texts (arities_from b pool (j + 1))), (fits-here h.fits p f).len);
      small = summing_most;
    }

-- ── The texts written
pub record Copying (b pool : List ℕ) (at j : ℕ) (first out : List ℕ) : Type 0 where
  pub fill : Filling (arity_texts (arities_of b pool)) (arity_texts (arities_from b pool j)) at first out

pub copying_start : (b pool first : List ℕ) → length (arity_texts (arities_of b pool)) ≤ length first → Copying b pool 0 0 first first
copying_start b pool first room = record { fill = filling_start first (rw (from_first b pool) refl) room }

module _ {b pool : List ℕ} {at j : ℕ} {first out : List ℕ} (h : Copying b pool at j first out) where
  pub copying_end : length b / 8 ≤ j → Wrote (arity_texts (arities_of b pool)) first out at
  copying_end p = filling_end h.fill (omega (arith, texts-none b pool j p))

  module _ (p : j < length b / 8) {e : Entry} (f : e ≡ entry_at b j) {t : List ℕ} (g : t ≡ text_in pool e) where
    text-next : Filling (arity_texts (arities_of b pool)) (t ++ arity_texts (arities_from b pool (j + 1))) at first out
    text-next = rw g (rw (texts-more b pool j p f) at h.fill)

    pub copying_fits : length t ≤ length (lent at out)
    copying_fits = filling_fits t _ text-next

    pub copying_turn : {n : ℕ} {ys : List ℕ} → Wrote t (lent at out) ys n → Copying b pool (at + n) (j + 1) first (returned at out ys)
    copying_turn w = record { fill = filling_lent t _ text-next w }

-- ── The entries written: `start` is where the next text starts
pub record Entering (b pool : List ℕ) (start at j : ℕ) (first out : List ℕ) : Type 0 where
  pub fits : Fits b pool j
  pub fill : Filling (arities_bytes 0 (arities_of b pool)) (arities_bytes start (arities_from b pool j)) at first out
  pub small : start ≤ 1275 * j

pub entering_start : (b pool first : List ℕ) → arities_fit b pool ≡ true → length (arities_bytes 0 (arities_of b pool)) ≤ length first
    → Entering b pool 0 0 0 first first
entering_start b pool first h room =
    record { fits = fits-start b pool h; fill = filling_start first (rw (from_first b pool) refl) room; small = omega arith }

bytes-cons : (pool : List ℕ) (e : Entry) (l : List Arity) (start : ℕ) → Sized pool e
    → arities_bytes start (arity_in pool e ∷ l) ≡ entry_bytes start e.len e.args ++ arities_bytes (start + e.len) l
unfolding arities_bytes arity_bytes arity_in entry_bytes start_of
bytes-cons pool e l start s =
    rw (s.len, cond_false (eqb e.len 0) 0 start (not_equal e.len 0 (λ z. omega (arith, s.least)))) refl

bytes-more : (b pool : List ℕ) (j start : ℕ) → j < length b / 8 → {e : Entry} → e ≡ entry_at b j → Sized pool e
    → arities_bytes start (arities_from b pool j) ≡ entry_bytes start e.len e.args ++ arities_bytes (start + e.len) (arities_from b pool (j + 1))
bytes-more b pool j start p {e} f s = rw (from_more b pool j p, ← f) (bytes-cons pool e (arities_from b pool (j + 1)) start s)

bytes-none : (b pool : List ℕ) (j start : ℕ) → length b / 8 ≤ j → length (arities_bytes start (arities_from b pool j)) ≡ 0
unfolding arities_bytes
bytes-none b pool j start p = rw (from_none b pool j p) refl

module _ {b pool : List ℕ} {start at j : ℕ} {first out : List ℕ} (h : Entering b pool start at j first out) where
  pub entering_end : length b / 8 ≤ j → Wrote (arities_bytes 0 (arities_of b pool)) first out at
  entering_end p = filling_end h.fill (omega (arith, bytes-none b pool j start p))

  module _ (p : j < length b / 8) {e : Entry} (f : e ≡ entry_at b j) where
    entry_next : Filling (arities_bytes 0 (arities_of b pool)) (entry_bytes start e.len e.args ++ arities_bytes (start + e.len) (arities_from b pool (j + 1))) at first out
    entry_next = rw (bytes-more b pool j start p f (fits-here h.fits p f)) at h.fill

    pub entering_fits : length (entry_bytes start e.len e.args) ≤ length (lent at out)
    entering_fits = filling_fits (entry_bytes start e.len e.args) _ entry_next

    pub entering_most : start + e.len ≤ 1275 * (j + 1)
    entering_most = omega (arith, h.small, (fits-here h.fits p f).most)

    pub entering_turn : {n : ℕ} {ys : List ℕ} → Wrote (entry_bytes start e.len e.args) (lent at out) ys n
        → Entering b pool (start + e.len) (at + n) (j + 1) first (returned at out ys)
    entering_turn w = record { fits = fits_turn h.fits p f; fill = filling_lent (entry_bytes start e.len e.args) _ entry_next w; small = entering_most }

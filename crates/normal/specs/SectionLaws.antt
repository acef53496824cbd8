-- The sections of a normal-form file are read back: records, arity entries, and the texts that they have in the pool.
-- Assumes nothing.
use Rattle.std.specs.Prelude.{◌≡◌, true, ◌||◌, List, [], ◌∷◌, ◌++◌, map, ℕ, zero, suc, ◌+◌, ◌-◌, ◌*◌, ◌/◌, ◌≤◌, ◌<◌, T, eqb, leb, length}
use Rattle.std.proofs.Math.Path.{refl}
use Rattle.std.proofs.Common.{sym, ◌∙◌, ap₂, append_assoc, arith, mul-suc, le→leb, length-append}
use Rattle.std.proofs.Math.Dec.{eqb-suc-zero}
use Rattle.octets.specs.Tests.{and_both, or_left, test_true}
use Rattle.octets.specs.Laws.{le-length}
use Rattle.grammar.specs.Forest.{Term}
use Rattle.path.specs.Path.{is_path}
use Rattle.term.specs.declared.Record.{Record}
use Rattle.term.specs.Record.{record_at, records_of, records_from, text_at}
use Rattle.term.specs.RecordLaws.{record-made}
use Rattle.arity.specs.declared.Entry.{Entry}
use Rattle.arity.specs.Arity.{Arity, entry_at, entries_of, entries_from, arity_in, arities_of, entry_fits, entries_fit, ascend, arities_fit}
use Rattle.arity.specs.ArityLaws.{entry-made}
use Rattle.checker.specs.Refusal.{text_of, in_pool}
use Rattle.checker.specs.Accepted.{InPool}
use Rattle.checker.specs.Described.{term_of}
use Rattle.normal.specs.File.{start_of, record_bytes, records_bytes, term_texts, arity_bytes, arities_bytes, arity_texts}
use Rattle.normal.specs.Stands.{Stands, stands-whole, stands_in, stands-left, stands_right, stands-part, stands-number, stands_field}
use Rattle.normal.specs.Writable.{Every, TermSizes, AritySizes, Callable}

-- ── A text in the pool: it is read back from where it starts, and lies inside
start-low : (n at : ℕ) → start_of n at ≤ at
unfolding start_of
start-low zero at = omega arith
start-low (suc n) at = rw (eqb-suc-zero n) (omega arith)

text-back : {pool : List ℕ} {at : ℕ} (t : List ℕ) → Stands pool at t → text_at pool (start_of (length t) at) (length t) ≡ t
unfolding text_at start_of
text-back [] h = refl
text-back (c ∷ t) h = rw (eqb-suc-zero (length t)) (stands-part (c ∷ t) _ refl h)

text-inside : {pool : List ℕ} {at : ℕ} (t : List ℕ) → Stands pool at t → T (leb (start_of (length t) at + length t) (length pool))
text-inside {pool} {at} t h = le→leb (start_of (length t) at + length t) (length pool) (omega (arith, start-low (length t) at, stands_in h))

empty_start : (n at : ℕ) → T (leb 1 n || eqb (start_of n at) 0)
unfolding start_of
empty_start zero at = tt
empty_start (suc n) at = or_left (leb 1 (suc n)) _ (le→leb 1 (suc n) (omega arith))

-- the numbers of the next text fit 32 bits where the whole pool does
text-room : (t ts : List ℕ) (at : ℕ) → at + length (t ++ ts) < 4294967296
    → (start_of (length t) at < 4294967296) × (length t < 4294967296) × (at + length t + length ts < 4294967296)
text-room t ts at h =
    let e = length-append t ts in
    let s = start-low (length t) at in
    (omega arith, omega arith, omega arith)

-- the next text, and those behind it; the next entry of a section, and those behind it
next-text : {pool : List ℕ} {at : ℕ} (t ts : List ℕ) → Stands pool at (t ++ ts) → Stands pool at t × Stands pool (at + length t) ts
next-text t ts h = (stands-left t ts h, stands_right t ts _ refl h)

pub next-entry : {b : List ℕ} (width i : ℕ) (xs ys : List ℕ) → length xs ≡ width → Stands b (width * i) (xs ++ ys) → Stands b (width * i) xs × Stands b (width * suc i) ys
next-entry width i xs ys e h = (stands-left xs ys h, stands_right xs ys (width * suc i) (omega (arith, mul-suc width i)) h)

-- ── Records
-- of a term whose text starts there
abbrev pub record_of : Term → ℕ → Record
record_of t start = record { kind = t.kind; a = t.fields.a; kids = t.kids; x = t.fields.x; start = start; len = length t.fields.text }

-- of terms whose texts stand in the pool from a place on
unfoldable records_written : ℕ → List Term → List Record
records_written at [] = []
records_written at (t ∷ ts) = record_of t (start_of (length t.fields.text) at) ∷ records_written (at + length t.fields.text) ts

pub record-length : (t : Term) (start : ℕ) → length (record_bytes t start) ≡ 24
unfolding record_bytes
record-length t start = simp (length-append, le-length)

pub records-length : (at : ℕ) (ts : List Term) → length (records_bytes at ts) ≡ 24 * length ts
unfolding records_bytes
records-length at [] = refl
records-length at (t ∷ ts) =
    let n = length t.fields.text in
    omega (arith, length-append (record_bytes t (start_of n at)) (records_bytes (at + n) ts), record-length t (start_of n at), records-length (at + n) ts)

-- the texts of two lists of terms, one after the other
pub texts-append : (ts us : List Term) → term_texts (ts ++ us) ≡ term_texts ts ++ term_texts us
unfolding term_texts
texts-append [] us = refl
texts-append (t ∷ ts) us = rw (texts-append ts us, append_assoc t.fields.text (term_texts ts) (term_texts us)) refl

pub record-back : (b : List ℕ) (i : ℕ) (t : Term) (start : ℕ) → TermSizes t → start < 4294967296 → length t.fields.text < 4294967296
    → Stands b (24 * i) (record_bytes t start) → record_at b i ≡ record_of t start
unfolding record_bytes
record-back b i t start z s l h =
    let (e₁, h₁) = stands_field 2 t.kind _ (24 * i + 2) z.kind (omega arith) h in
    let (e₂, h₂) = stands_field 2 t.fields.a _ (24 * i + 4) z.a (omega arith) h₁ in
    let (e₃, h₃) = stands_field 4 t.kids _ (24 * i + 8) z.kids (omega arith) h₂ in
    let (e₄, h₄) = stands_field 8 t.fields.x _ (24 * i + 16) z.x (omega arith) h₃ in
    let (e₅, h₅) = stands_field 4 start _ (24 * i + 20) s (omega arith) h₄ in
    let e₆ = stands-number 4 (length t.fields.text) l h₅ in
    sym (record-made b i (sym e₁) (sym e₂) (sym e₃) (sym e₄) (sym e₅) (sym e₆))

records-written : (b : List ℕ) (i at : ℕ) (ts : List Term) → Every TermSizes ts → at + length (term_texts ts) < 4294967296 → Stands b (24 * i) (records_bytes at ts)
    → records_of b i (length ts) ≡ records_written at ts
unfolding Every term_texts records_bytes records_of records_written
records-written b i at [] z m h = refl
records-written b i at (t ∷ ts) z m h =
    let (s, l, k) = text-room t.fields.text (term_texts ts) at m in
    let (h₁, h₂) = next-entry 24 i (record_bytes t _) _ (record-length t _) h in
    ap₂ (λ x r. x ∷ r) (record-back b i t _ z.0 s l h₁) (records-written b (suc i) _ ts z.1 k h₂)

-- the records of a section, up to its end
all_records : (b : List ℕ) (n : ℕ) → length b ≡ 24 * n → records_from b 0 ≡ records_of b 0 n
unfolding records_from
all_records b n e = let k : length b / 24 - 0 ≡ n = omega arith in rw k refl

terms-back : {pool : List ℕ} (at : ℕ) (ts : List Term) → Stands pool at (term_texts ts) → map (term_of pool) (records_written at ts) ≡ ts
unfolding term_texts records_written term_of text_of
terms-back at [] h = refl
terms-back at (t ∷ ts) h =
    let (h₁, h₂) = next-text t.fields.text (term_texts ts) h in
    ap₂ (λ x r. x ∷ r) (rw (text-back t.fields.text h₁) refl) (terms-back (at + length t.fields.text) ts h₂)

terms-inside : {pool : List ℕ} (at : ℕ) (ts : List Term) → Stands pool at (term_texts ts) → InPool pool (records_written at ts)
unfolding term_texts records_written InPool in_pool
terms-inside at [] h = tt
terms-inside {pool} at (t ∷ ts) h =
    let n = length t.fields.text in
    let (h₁, h₂) = next-text t.fields.text (term_texts ts) h in
    (and_both (leb (start_of n at + n) (length pool)) (leb 1 n || eqb (start_of n at) 0) (text-inside t.fields.text h₁) (empty_start n at), terms-inside (at + n) ts h₂)

-- ── Arity entries
unfoldable entry_of : Arity → ℕ → Entry
entry_of a start = record { start = start; len = length a.text; args = a.args }

unfoldable entries_written : ℕ → List Arity → List Entry
entries_written at [] = []
entries_written at (a ∷ l) = entry_of a (start_of (length a.text) at) ∷ entries_written (at + length a.text) l

entry_length : (a : Arity) (start : ℕ) → length (arity_bytes a start) ≡ 8
unfolding arity_bytes
entry_length a start = simp (length-append, le-length)

pub entries_length : (at : ℕ) (l : List Arity) → length (arities_bytes at l) ≡ 8 * length l
unfolding arities_bytes
entries_length at [] = refl
entries_length at (a ∷ l) =
    let n = length a.text in
    omega (arith, length-append (arity_bytes a (start_of n at)) (arities_bytes (at + n) l), entry_length a (start_of n at), entries_length (at + n) l)

entry-back : (b : List ℕ) (j : ℕ) (a : Arity) (start : ℕ) → AritySizes a → start < 4294967296 → Stands b (8 * j) (arity_bytes a start) → entry_at b j ≡ entry_of a start
unfolding arity_bytes entry_of
entry-back b j a start z s h =
    let (e₁, h₁) = stands_field 4 start _ (8 * j + 4) s (omega arith) h in
    let (e₂, h₂) = stands_field 2 (length a.text) _ (8 * j + 6) z.text (omega arith) h₁ in
    let e₃ = stands-number 2 a.args z.args h₂ in
    sym (entry-made b j (sym e₁) (sym e₂) (sym e₃))

entries_written_lem : (b : List ℕ) (j at : ℕ) (l : List Arity) → Every AritySizes l → at + length (arity_texts l) < 4294967296 → Stands b (8 * j) (arities_bytes at l)
    → entries_of b j (length l) ≡ entries_written at l
unfolding Every arity_texts arities_bytes entries_of entries_written
entries_written_lem b j at [] z m h = refl
entries_written_lem b j at (a ∷ l) z m h =
    let (s, _, k) = text-room a.text (arity_texts l) at m in
    let (h₁, h₂) = next-entry 8 j (arity_bytes a _) _ (entry_length a _) h in
    ap₂ (λ x r. x ∷ r) (entry-back b j a _ z.0 s h₁) (entries_written_lem b (suc j) _ l z.1 k h₂)

all_entries : (b : List ℕ) (n : ℕ) → length b ≡ 8 * n → entries_from b 0 ≡ entries_of b 0 n
unfolding entries_from
all_entries b n e = let k : length b / 8 - 0 ≡ n = omega arith in rw k refl

arities-back : {pool : List ℕ} (at : ℕ) (l : List Arity) → Stands pool at (arity_texts l) → map (arity_in pool) (entries_written at l) ≡ l
unfolding arity_texts entries_written entry_of arity_in
arities-back at [] h = refl
arities-back at (a ∷ l) h =
    let (h₁, h₂) = next-text a.text (arity_texts l) h in
    ap₂ (λ x r. x ∷ r) (rw (text-back a.text h₁) refl) (arities-back (at + length a.text) l h₂)

entries_fit_lem : {pool : List ℕ} (at : ℕ) (l : List Arity) → Every Callable l → Stands pool at (arity_texts l) → T (entries_fit pool (entries_written at l))
unfolding Every arity_texts entries_written entry_of entries_fit entry_fits
entries_fit_lem at [] z h = tt
entries_fit_lem {pool} at (a ∷ l) z h =
    let n = length a.text in
    let (h₁, h₂) = next-text a.text (arity_texts l) h in
    let inside : T (leb (start_of n at + n) (length pool)) = text-inside a.text h₁ in
    let path : T (is_path (text_at pool (start_of n at) n)) = rw (text-back a.text h₁) z.0.path in
    let low : T (leb 1 a.args) = le→leb 1 a.args z.0.low in
    let high : T (leb a.args 7) = le→leb a.args 7 z.0.high in
    let rest : T (entries_fit pool (entries_written (at + n) l)) = entries_fit_lem (at + n) l z.1 h₂ in
    search and_both

-- ── Whole sections: the records of terms whose texts stand in the pool behind `at` bytes
module _ (pool : List ℕ) (at : ℕ) (ts : List Term) (z : Every TermSizes ts) (m : at + length (term_texts ts) < 4294967296) (h : Stands pool at (term_texts ts)) where
  section_records : records_from (records_bytes at ts) 0 ≡ records_written at ts
  section_records =
      all_records (records_bytes at ts) (length ts) (records-length at ts) ∙ records-written (records_bytes at ts) 0 at ts z m (stands-whole (records_bytes at ts))

  pub records-back : map (term_of pool) (records_from (records_bytes at ts) 0) ≡ ts
  records-back = rw section_records (terms-back at ts h)

  pub records-inside : InPool pool (records_from (records_bytes at ts) 0)
  records-inside = rw section_records (terms-inside at ts h)

-- the entries of arities whose texts stand first in the pool
module _ (pool : List ℕ) (l : List Arity) (z : Every AritySizes l) (m : length (arity_texts l) < 4294967296) (h : Stands pool 0 (arity_texts l)) where
  section_entries : entries_from (arities_bytes 0 l) 0 ≡ entries_written 0 l
  section_entries =
      all_entries (arities_bytes 0 l) (length l) (entries_length 0 l) ∙ entries_written_lem (arities_bytes 0 l) 0 0 l z (omega arith) (stands-whole (arities_bytes 0 l))

  pub entries_back : arities_of (arities_bytes 0 l) pool ≡ l
  unfolding arities_of
  entries_back = rw section_entries (arities-back 0 l h)

  pub entries_accepted : Every Callable l → ascend l ≡ true → arities_fit (arities_bytes 0 l) pool ≡ true
  unfolding arities_fit
  entries_accepted c a = rw (entries_back, section_entries, a, test_true (entries_fit pool (entries_written 0 l)) (entries_fit_lem 0 l c h)) refl

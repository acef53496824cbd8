-- What is in a normal-form file is read back from it: its layout, identity, arities and forest; and the file is accepted.
-- Assumes nothing.
use Rattle.std.specs.Prelude.{◌≡◌, true, ℕ, ◌+◌, ◌*◌, ◌≤◌, ◌<◌, T, length, get_or}
use Rattle.std.proofs.Math.Path.{refl, ap, subst}
use Rattle.std.proofs.Common.{sym, arith, le-leb, eq-eqb}
use Rattle.std.proofs.Math.Option.{some}
use mathlib.Core.List.{List, [], ◌∷◌, ◌++◌, map}
use Rattle.std.proofs.Math.ListN.{length-append}
use Rattle.octets.specs.Bytes.{begins, le_at}
use Rattle.octets.specs.Tests.{test_true}
use Rattle.octets.specs.Laws.{le-length}
use Rattle.grammar.specs.declared.Place.TheVariants.{InList}
use Rattle.grammar.specs.Forest.{Forest, flatten}
use Rattle.grammar.specs.ForestLaws.{build-flatten}
use Rattle.tree.specs.Fits.{Fits}
use Rattle.term.specs.File.{magic, identity, touching, laid_out, few, Layout, layout_of}
use Rattle.term.specs.Record.{records_from}
use Rattle.arity.specs.Arity.{Arity, arities_of, ascend, arities_fit, args_in, args_of}
use Rattle.checker.specs.Refusal.{verdict, record_section, arity_section, pool_section, refusal_of}
use Rattle.checker.specs.Accepted.{accepted-back, fits_meets}
use Rattle.checker.specs.Described.{term_of, forest_of}
use Rattle.normal.specs.File.{records_bytes, term_texts, arities_bytes, arity_texts, header_bytes, file_of}
use Rattle.normal.specs.Stands.{Stands, stands-whole, stands-left, stands_right, stands-part, stands_between, stands_field, stands_byte, stands-begins}
use Rattle.normal.specs.Writable.{Every, Callable, Writable}
use Rattle.normal.specs.SectionLaws.{records-length, entries_length, records-back, records-inside, entries_back, entries_accepted}

-- ── The header, in any file that begins with one
-- the layout of a file with n records and m arities
abbrev laid_for : ℕ → ℕ → Layout
laid_for n m = record { number = 0; arities = 60 + 24 * n; pool = 60 + 24 * n + 8 * m }

layout_of_lem : (b : List ℕ) (n m p : ℕ) → T (begins magic b) → le_at 4 b 4 ≡ n → le_at 4 b 8 ≡ 60 → le_at 4 b 12 ≡ m → le_at 4 b 16 ≡ 60 + 24 * n → le_at 4 b 20 ≡ p
    → le_at 4 b 24 ≡ 60 + 24 * n + 8 * m → get_or b 59 0 ≡ 0 → n ≤ 65536 → m ≤ 4096 → length b ≡ 60 + 24 * n + 8 * m + p → layout_of b ≡ laid_for n m
unfolding layout_of laid_out touching few
layout_of_lem b n m p t e₁ e₂ e₃ e₄ e₅ e₆ e₇ ln lm l =
    let o = le-leb 60 (60 + 24 * n + 8 * m + p) (omega arith) in
    let a = eq-eqb (60 + 24 * n) _ refl in
    let q = eq-eqb (60 + 24 * n + 8 * m) _ refl in
    let z = eq-eqb (60 + 24 * n + 8 * m + p) _ refl in
    rw (test_true (begins magic b) t, e₁, e₂, e₃, e₄, e₅, e₆, e₇, l, o, a, q, z, le-leb n 65536 ln, le-leb m 4096 lm) refl

header-length : (id : List ℕ) (n m p : ℕ) → length id ≡ 31 → length (header_bytes id n m p) ≡ 60
unfolding header_bytes
header-length id n m p e = simp (length-append, le-length, e)

module _ (b id : List ℕ) (n m p : ℕ) (i : length id ≡ 31) (ln : n ≤ 65536) (lm : m ≤ 4096) (lp : p < 4294967296) (h : Stands b 0 (header_bytes id n m p)) where
  header-back : length b ≡ 60 + 24 * n + 8 * m + p → (layout_of b ≡ laid_for n m) × (identity b ≡ id)
  unfolding header_bytes identity
  header-back l =
      let t = stands-begins magic (stands-left magic _ h) in
      let h₀ = stands_right magic _ 4 refl h in
      let (e₁, h₁) = stands_field 4 n _ 8 (omega arith) refl h₀ in
      let (e₂, h₂) = stands_field 4 60 _ 12 (omega arith) refl h₁ in
      let (e₃, h₃) = stands_field 4 m _ 16 (omega arith) refl h₂ in
      let (e₄, h₄) = stands_field 4 (60 + 24 * n) _ 20 (omega arith) refl h₃ in
      let (e₅, h₅) = stands_field 4 p _ 24 (omega arith) refl h₄ in
      let (e₆, h₆) = stands_field 4 (60 + 24 * n + 8 * m) _ 28 (omega arith) refl h₅ in
      let h₇ = stands_right id (0 ∷ []) 59 (omega arith) h₆ in (
        layout_of_lem b n m p t e₁ e₂ e₃ e₄ e₅ e₆ (stands_byte 0 [] h₇) ln lm l,
        stands-part id 31 i (stands-left id (0 ∷ []) h₆),
      )

-- ── The file: its sections are those that were written
module _ (id : List ℕ) (ars : List Arity) (f : Forest) where
  abbrev n : ℕ
  n = length (flatten f)

  abbrev p : ℕ
  p = length (arity_texts ars) + length (term_texts (flatten f))

  abbrev header : List ℕ
  header = header_bytes id n (length ars) p

  abbrev records : List ℕ
  records = records_bytes (length (arity_texts ars)) (flatten f)

  abbrev arities : List ℕ
  arities = arities_bytes 0 ars

  abbrev pool : List ℕ
  pool = arity_texts ars ++ term_texts (flatten f)

  abbrev file : List ℕ
  file = file_of id ars f

  whole : Stands file 0 (header ++ (records ++ (arities ++ pool)))
  unfolding file_of
  whole = stands-whole file

  -- where each section ends
  records_end : 60 + length records ≡ 60 + 24 * n
  records_end = ap (λ k. 60 + k) (records-length (length (arity_texts ars)) (flatten f))

  arities_end : 60 + 24 * n + length arities ≡ 60 + 24 * n + 8 * length ars
  arities_end = ap (λ k. 60 + 24 * n + k) (entries_length 0 ars)

  pool_end : 60 + 24 * n + 8 * length ars + length pool ≡ 60 + 24 * n + 8 * length ars + p
  pool_end = ap (λ k. 60 + 24 * n + 8 * length ars + k) (length-append (arity_texts ars) (term_texts (flatten f)))

  module _ (i : length id ≡ 31) where
    header_end : length header ≡ 60
    header_end = header-length id n (length ars) p i

    pub file-length : length (file_of id ars f) ≡ 60 + 24 * length (flatten f) + 8 * length ars + (length (arity_texts ars) + length (term_texts (flatten f)))
    unfolding file_of
    file-length =
        omega (arith, header_end, records_end, arities_end, pool_end, length-append header (records ++ (arities ++ pool)), length-append records (arities ++ pool), length-append arities pool)

  module _ (w : Writable id ars f) where
    header_facts : (layout_of file ≡ laid_for n (length ars)) × (identity file ≡ id)
    header_facts =
        header-back file id n (length ars) p w.identity-length w.few-terms w.few-arities w.pool (stands-left header _ whole) (file-length w.identity-length)

    pub file-layout : layout_of (file_of id ars f) ≡ record { number = 0; arities = 60 + 24 * length (flatten f); pool = 60 + 24 * length (flatten f) + 8 * length ars }
    file-layout = header_facts.0

    pub file-identity : identity (file_of id ars f) ≡ id
    file-identity = header_facts.1

    records_stand : Stands file 60 (records ++ (arities ++ pool))
    records_stand = stands_right header _ 60 (omega (arith, header_end w.identity-length)) whole

    arities_stand : Stands file (60 + 24 * n) (arities ++ pool)
    arities_stand = stands_right records _ _ records_end records_stand

    pool-stands : Stands file (60 + 24 * n + 8 * length ars) pool
    pool-stands = stands_right arities pool _ arities_end arities_stand

    pub record_section_lem : record_section (file_of id ars f) ≡ records_bytes (length (arity_texts ars)) (flatten f)
    record_section_lem = rw file-layout (stands_between records _ records_end (stands-left records _ records_stand))

    pub arity_section_lem : arity_section (file_of id ars f) ≡ arities_bytes 0 ars
    arity_section_lem = rw file-layout (stands_between arities _ arities_end (stands-left arities pool arities_stand))

    pub pool_section_lem : pool_section (file_of id ars f) ≡ arity_texts ars ++ term_texts (flatten f)
    pool_section_lem = rw (file-layout, file-length w.identity-length) (stands_between pool _ pool_end pool-stands)

    -- ── What the sections say is what was written
    texts_stand : Stands pool (length (arity_texts ars)) (term_texts (flatten f))
    texts_stand = stands_right (arity_texts ars) (term_texts (flatten f)) _ (omega arith) (stands-whole pool)

    pub file-records : map (term_of (pool_section (file_of id ars f))) (records_from (record_section (file_of id ars f)) 0) ≡ flatten f
    file-records = rw (record_section_lem, pool_section_lem) (records-back pool (length (arity_texts ars)) (flatten f) w.each-term w.pool texts_stand)

    pub file-forest : forest_of (file_of id ars f) ≡ some f
    unfolding forest_of
    file-forest = rw file-records (build-flatten f)

    pub file-arities : arities_of (arity_section (file_of id ars f)) (pool_section (file_of id ars f)) ≡ ars
    file-arities = rw (arity_section_lem, pool_section_lem) (entries_back pool ars w.each_arity (omega (arith, w.pool)) (stands-left (arity_texts ars) _ (stands-whole pool)))

    pub file-arities-fit : Every Callable ars → ascend ars ≡ true → arities_fit (arity_section (file_of id ars f)) (pool_section (file_of id ars f)) ≡ true
    file-arities-fit c a =
        rw (arity_section_lem, pool_section_lem) (entries_accepted pool ars w.each_arity (omega (arith, w.pool)) (stands-left (arity_texts ars) _ (stands-whole pool)) c a)

    -- ── And so the file is accepted
    pub file-verdict : Every Callable ars → ascend ars ≡ true → Fits (args_in ars) (λ _. InList) 64 0 f → refusal_of (file_of id ars f) ≡ verdict 0 0
    unfolding refusal_of args_of
    file-verdict c a t =
        let e = ap (λ l. l.number) file-layout in
        let i = rw (← record_section_lem, ← pool_section_lem) at (records-inside pool (length (arity_texts ars)) (flatten f) w.each-term w.pool texts_stand) in
        let g = subst (λ l. Fits (args_in l) (λ _. InList) 64 0 f) (sym file-arities) t in
        rw (e, file-arities-fit c a)
        (accepted-back (arity_section file) (pool_section file) (records_from (record_section file) 0) 0 []
        (i, (f, rw file-records (build-flatten f), fits_meets (arity_section file) (pool_section file) 0 f g)))

    pub file-accepted : Every Callable ars → ascend ars ≡ true → Fits (args_in ars) (λ _. InList) 64 0 f → (refusal_of (file_of id ars f)).number ≡ 0
    file-accepted c a t = ap (λ v. v.number) (file-verdict c a t)

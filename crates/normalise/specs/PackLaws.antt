-- How the code meets the records and texts of a normal form: what one record becomes, written; and the two passes along a file's records.
-- Assumes nothing.
use Rattle.std.specs.Prelude.{◌≡◌, Bool, ◌||◌, List, [], ◌∷◌, ◌++◌, ℕ, ◌+◌, ◌/◌, ◌<◌, ◌≤◌, T, eqb, length}
use Rattle.std.proofs.Common.{refl, sym, subst, ne_eqb, ap, append_assoc, append-nil, arith, length-append}
use Rattle.std.proofs.Math.Bool.{true, false, cond}
use mathlib.Core.List as lists
use Rattle.octets.specs.Filling.{Wrote, Filling, filling_fits, filling_lent, filling_end, Writing, writing_start, lent, returned}
use Rattle.ident.specs.Ident.{eisa_id, uuid_bytes}
use Rattle.descriptor.specs.Template.{end_tag}
use Rattle.grammar.specs.declared.Text.TheVariants.{EisaText, UuidText}
use Rattle.grammar.specs.Kinds.{normal_kinds, other_kinds, kinds, find, row_of, row_in}
use Rattle.grammar.specs.Forest.{count, Term, flatten}
use Rattle.fields.specs.Fields.{text_spelled, spelled}
use Rattle.term.specs.declared.Record.{Record}
use Rattle.term.specs.Record.{record_at, text_at}
use Rattle.checker.specs.Refusal.{text_of}
use Rattle.checker.specs.Described.{term_of}
use Rattle.normal.specs.File.{start_of, records_bytes, term_texts}
use Rattle.normal.specs.SectionLaws.{texts-append}
use Rattle.repack.specs.Repack.{packed}
use Rattle.repack.specs.PackLaws.{record-packed}
use Rattle.encode.specs.WalkLaws.{Small}
use Rattle.encode.specs.Sound.{FineRecord, row_known, Sound}
use Rattle.normalise.specs.Flat.{integer_records, buffer_records, becomes}
use Rattle.normalise.specs.FlatLaws.{kids_at, becomes_at, normal_from, texts_from, texts-most, normal-none, texts-none, Stepped, step-normal, step-texts}
use Rattle.normalise.specs.Pack.{integer_bytes, buffer_bytes, step_bytes, step_at, kids_from, Named, Slender}

-- room for bytes is room for them by another name
pub fits_as : {bs cs : List ℕ} {n : ℕ} → bs ≡ cs → length bs ≤ n → length cs ≤ n
fits_as {bs} {cs} {n} e h = subst (λ (l : List ℕ). length l ≤ n) e h

-- ── The records of what a record becomes
pub records-append : (at : ℕ) (ts us : List Term) → records_bytes at (ts ++ us) ≡ records_bytes at ts ++ records_bytes (at + length (term_texts ts)) us
unfolding records_bytes term_texts
records-append at [] us = let e : at + 0 ≡ at = omega arith in rw e refl
records-append at (t ∷ ts) us =
    let n = length t.fields.text in
    let e : at + n + length (term_texts ts) ≡ at + length (t.fields.text ++ term_texts ts) = omega (arith, length-append t.fields.text (term_texts ts)) in
    rw (records-append (at + n) ts us, e, append_assoc) refl

integer-records : (x at : ℕ) → records_bytes at (integer_records x) ≡ integer_bytes x
unfolding records_bytes flatten count start_of integer_bytes
integer-records x at = rw (record-packed _ 0, append-nil) refl

-- what one text makes, with nothing after it
one-text : (t : Term) → term_texts (t ∷ []) ≡ t.fields.text
unfolding term_texts
one-text t = append-nil t.fields.text

buffer-text : (u : List ℕ) → term_texts (buffer_records u) ≡ u
unfolding term_texts flatten
buffer-text u = append-nil u

two_records : (u : List ℕ) (at : ℕ) → records_bytes at (buffer_records u) ≡ buffer_bytes (length u) (start_of (length u) at)
unfolding records_bytes flatten count buffer_bytes
two_records u at = rw (record-packed _ (start_of (length u) at)) (ap (λ (bs : List ℕ). packed (record { kind = 0x11; a = 0; kids = 1; x = 0; start = start_of (length u) at; len = length u }) ++ bs) (integer-records (length u) (at + length u)))

buffer-records : (u : List ℕ) (at : ℕ) → records_bytes at (buffer_records u) ≡ buffer_bytes (length (term_texts (buffer_records u))) (start_of (length (term_texts (buffer_records u))) at)
buffer-records u at = rw (buffer-text u) (two_records u at)

own-records : (t : Term) (at : ℕ)
    → records_bytes at (t ∷ []) ≡ packed (record { kind = t.kind; a = t.fields.a; kids = t.kids; x = t.fields.x; start = start_of (length (term_texts (t ∷ []))) at; len = length (term_texts (t ∷ [])) })
unfolding records_bytes
own-records t at = rw (one-text t, append-nil) (record-packed t (start_of (length t.fields.text) at))

module _ (pool : List ℕ) (r : Record) (bs : List ℕ) (at : ℕ) where
  abbrev own : Term
  own = record { kind = r.kind; fields = record { text = text_at pool r.start r.len; a = r.a; x = r.x }; kids = r.kids }

  abbrev made : Bool → Bool → Bool → List Term
  made a b c = cond a (integer_records (eisa_id own.fields.text)) (cond b (buffer_records (uuid_bytes own.fields.text)) (cond c (buffer_records (bs ++ end_tag)) (own ∷ [])))

  abbrev made_text : Bool → Bool → Bool → ℕ
  made_text a b c = length (term_texts (made a b c))

  step-records : records_bytes at (becomes (term_of pool r) bs)
      ≡ step_bytes r (text_at pool r.start r.len) (length (term_texts (becomes (term_of pool r) bs))) (start_of (length (term_texts (becomes (term_of pool r) bs))) at)
  unfolding becomes step_bytes term_of text_of
  step-records = by (eqb r.kind 0xE001) (eqb r.kind 0xE002) (eqb r.kind 0xE003)
    where
      by : (a b c : Bool)
          → records_bytes at (made a b c)
          ≡ cond a (integer_bytes (eisa_id own.fields.text)) (cond (b || c) (buffer_bytes (made_text a b c) (start_of (made_text a b c) at))
          (packed (record { kind = r.kind; a = r.a; kids = r.kids; x = r.x; start = start_of (made_text a b c) at; len = made_text a b c })))
      by true b c = integer-records (eisa_id own.fields.text) at
      by false true c = buffer-records (uuid_bytes own.fields.text) at
      by false false true = buffer-records (bs ++ end_tag) at
      by false false false = own-records own at

pub buffer-start : (n start : ℕ) (first : List ℕ) → length (buffer_bytes n start) ≤ length first
    → Writing (buffer_bytes n start) (packed (record { kind = 0x11; a = 0; kids = 1; x = 0; start = start; len = n }) ∷ integer_bytes n ∷ []) 0 first first
unfolding buffer_bytes lists.flatten
buffer-start n start first room = writing_start first (record { is = rw append-nil refl }) room

-- ── What a sound file's records have
eisa-text : (row_in (row_of 0xE001)).text ≡ EisaText
unfolding row_of row_in find kinds normal_kinds other_kinds
eisa-text = refl

uuid-text : (row_in (row_of 0xE002)).text ≡ UuidText
unfolding row_of row_in find kinds normal_kinds other_kinds
uuid-text = refl

module _ {records pool : List ℕ} (s : Sound records pool) {i : ℕ} (h : i < length records / 24) {r : Record} (e : r ≡ record_at records i) {t : List ℕ} (g : t ≡ text_at pool r.start r.len) where
  spelled-here : T (spelled (row_in (row_of r.kind)) t)
  unfolding row_in
  spelled-here = let f = subst (FineRecord pool) (sym e) (s.each i h) in rw (g, row_known f) f.fine.2

  pub named_here : Named r.kind t
  unfolding spelled text_spelled
  named_here = record {
    eisa = λ k. rw (k, eisa-text) at spelled-here;
    uuid = λ k. rw (k, uuid-text) at spelled-here;
  }

  -- what it becomes, by what the code has looked up
  pub step-here : (n start : ℕ) {b : ℕ} → b ≡ start_of n start → step_at records pool i n start ≡ step_bytes r t n b
  step-here n start f = rw (f, g, e) refl

-- ── The records written: the texts go on at `start`
pub record Recording (records pool : List ℕ) (first start i at : ℕ) (out₀ out : List ℕ) : Type 0 where
  pub fill : Filling (records_bytes first (normal_from records pool 0)) (records_bytes start (normal_from records pool i)) at out₀ out
  pub sum : start + texts_from records pool i ≡ first + texts_from records pool 0

module _ {records pool : List ℕ} {first start i at : ℕ} {out₀ out : List ℕ} (p : Recording records pool first start i at out₀ out) where
  pub recording_end : length records / 24 ≤ i → Wrote (records_bytes first (normal_from records pool 0)) out₀ out at
  unfolding records_bytes
  recording_end h = filling_end p.fill (rw (normal-none records pool i h) (omega arith))

  module _ (h : i < length records / 24) {n next : ℕ} (s : Stepped records pool i n next) where
    record-next : Filling (records_bytes first (normal_from records pool 0)) (step_at records pool i n start ++ records_bytes (start + n) (normal_from records pool next)) at out₀ out
    record-next =
        let e = step-records pool (record_at records i) (kids_at records pool i) start in
        rw (step-normal h s, records-append start (becomes_at records pool i) (normal_from records pool next), e, ← s.counted) at p.fill

    pub recording_fits : length (step_at records pool i n start) ≤ length (lent at out)
    recording_fits = filling_fits (step_at records pool i n start) _ record-next

    pub recording_most : Small records pool → start + n ≤ first + 281474983002112
    recording_most k = omega (arith, p.sum, step-texts h s, texts-most records pool k 0)

    pub recording_turn : {k : ℕ} {ys : List ℕ} → Wrote (step_at records pool i n start) (lent at out) ys k
        → Recording records pool first (start + n) next (at + k) out₀ (returned at out ys)
    recording_turn w = record { fill = filling_lent (step_at records pool i n start) _ record-next w; sum = omega (arith, p.sum, step-texts h s) }

-- ── The text of what a record becomes, from the tests of its kind
module _ (records pool : List ℕ) (i : ℕ) {r : Record} (e : r ≡ record_at records i) {t : List ℕ} (g : t ≡ text_at pool r.start r.len) where
  pub text-eisa : r.kind ≡ 0xE001 → term_texts (becomes_at records pool i) ≡ []
  unfolding becomes term_of text_of term_texts flatten
  text-eisa k = rw (← e, k) refl

  pub text-uuid : r.kind ≡ 0xE002 → term_texts (becomes_at records pool i) ≡ uuid_bytes t
  unfolding becomes term_of text_of
  text-uuid k = rw (← e, k, g) (buffer-text (uuid_bytes (text_at pool r.start r.len)))

  pub text_template : r.kind ≡ 0xE003 → term_texts (becomes_at records pool i) ≡ kids_from records pool r.kids (i + 1) ++ end_tag
  unfolding becomes term_of text_of
  text_template k = let q : (record_at records i).kind ≡ 0xE003 = rw e at k in rw (e, q) (buffer-text (kids_at records pool i ++ end_tag))

  pub text-own : (r.kind ≡ 0xE001 → ⊥) → (r.kind ≡ 0xE002 → ⊥) → (r.kind ≡ 0xE003 → ⊥) → term_texts (becomes_at records pool i) ≡ t
  unfolding becomes term_of text_of
  text-own x y z = rw (← e, ne_eqb r.kind 0xE001 x, ne_eqb r.kind 0xE002 y, ne_eqb r.kind 0xE003 z, g) (one-text _)

  pub slender-here : Slender records pool → i < length records / 24 → length (kids_from records pool r.kids (i + 1)) ≤ 268435419
  unfolding term_of
  slender-here s h = rw e (s.each i h)

pub none-wrote : (bs out : List ℕ) → bs ≡ [] → Wrote bs out out 0
none-wrote bs out e = rw e (record { count = refl; is = refl })

pub template_start : (records pool : List ℕ) (n i : ℕ) (first : List ℕ) → length (kids_from records pool n i ++ end_tag) ≤ length first
    → Writing (kids_from records pool n i ++ end_tag) (kids_from records pool n i ∷ end_tag ∷ []) 0 first first
unfolding lists.flatten
template_start records pool n i first room = writing_start first (record { is = rw append-nil refl }) room

-- ── The texts written
pub record Texting (records pool : List ℕ) (i at : ℕ) (out₀ out : List ℕ) : Type 0 where
  pub fill : Filling (term_texts (normal_from records pool 0)) (term_texts (normal_from records pool i)) at out₀ out

module _ {records pool : List ℕ} {i at : ℕ} {out₀ out : List ℕ} (p : Texting records pool i at out₀ out) where
  pub texting_end : length records / 24 ≤ i → Wrote (term_texts (normal_from records pool 0)) out₀ out at
  texting_end h = filling_end p.fill (omega (arith, texts-none records pool i h))

  module _ (h : i < length records / 24) {n next : ℕ} (s : Stepped records pool i n next) where
    text-next : Filling (term_texts (normal_from records pool 0)) (term_texts (becomes_at records pool i) ++ term_texts (normal_from records pool next)) at out₀ out
    text-next = rw (step-normal h s, texts-append (becomes_at records pool i) (normal_from records pool next)) at p.fill

    pub texting_fits : length (term_texts (becomes_at records pool i)) ≤ length (lent at out)
    texting_fits = filling_fits (term_texts (becomes_at records pool i)) _ text-next

    pub texting_turn : {k : ℕ} {ys : List ℕ} → Wrote (term_texts (becomes_at records pool i)) (lent at out) ys k → Texting records pool next (at + k) out₀ (returned at out ys)
    texting_turn w = record { fill = filling_lent (term_texts (becomes_at records pool i)) _ text-next w }

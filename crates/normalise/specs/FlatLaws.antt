-- How the code meets the pass: what a record becomes and where the pass goes on, at an index; how much text there is at most.
-- Assumes nothing.
use Rattle.std.specs.Prelude.{◌≡◌, Bool, ◌||◌, cond, List, [], ◌∷◌, ◌++◌, ℕ, zero, suc, ◌+◌, ◌-◌, ◌/◌, ◌<◌, ◌≤◌, T, eqb, length}
use Rattle.std.proofs.Math.Path.{refl, sym}
use Rattle.std.proofs.Common.{ap, ◌∙◌, subst, arith, length-append}
use Rattle.std.proofs.Math.Bool.{true, false}
use Rattle.std.proofs.lemmas.List.{length-map}
use Rattle.ident.specs.Ident.{eisa_id, uuid_bytes}
use Rattle.ident.specs.IdentLaws.{uuid-length}
use Rattle.descriptor.specs.Template.{end_tag}
use Rattle.grammar.specs.Forest.{Term, flatten}
use Rattle.term.specs.declared.Record.{Record}
use Rattle.term.specs.Record.{record_at, records_of, records_from, text_at}
use Rattle.term.specs.RecordLaws.{records-length}
use Rattle.checker.specs.Refusal.{text_of}
use Rattle.checker.specs.Described.{term_of}
use Rattle.normal.specs.File.{term_texts}
use Rattle.normal.specs.SectionLaws.{texts-append}
use Rattle.encode.specs.Walk.{list, term}
use Rattle.encode.specs.WalkLaws.{terms_from, terms-more, terms-none, terms-weighed, weight, list-within, term-within, list-fits, Small, Measured}
use Rattle.normalise.specs.Flat.{integer_records, buffer_records, becomes, children_of, changes, onward, onward-rest, normal_terms, normal_enough}

-- ── The text of what a record becomes, by the length of its own text and the size of its children
unfoldable pub texts_in : ℕ → ℕ → ℕ → ℕ
texts_in k n m = cond (eqb k 0xE001) 0 (cond (eqb k 0xE002) 16 (cond (eqb k 0xE003) (m + 2) n))

becomes-texts : (t : Term) (bs : List ℕ) → length (term_texts (becomes t bs)) ≡ texts_in t.kind (length t.fields.text) (length bs)
unfolding becomes texts_in term_texts flatten
becomes-texts t bs = by (eqb t.kind 0xE001) (eqb t.kind 0xE002) (eqb t.kind 0xE003)
  where
    by : (a b c : Bool)
        → length (term_texts (cond a (integer_records (eisa_id t.fields.text)) (cond b (buffer_records (uuid_bytes t.fields.text)) (cond c (buffer_records (bs ++ end_tag)) (t ∷ [])))))
        ≡ cond a 0 (cond b 16 (cond c (length bs + 2) (length t.fields.text)))
    by true b c = refl
    by false true c = simp length-append (omega (arith, uuid-length t.fields.text))
    by false false true = simp length-append (omega arith)
    by false false false = simp length-append (omega arith)

-- a record that stays has its own
stays_texts : (k n m : ℕ) → changes k ≡ false → texts_in k n m ≡ n
unfolding texts_in
stays_texts k n m h = by (eqb k 0xE001) (eqb k 0xE002) (eqb k 0xE003) h
  where
    by : (a b c : Bool) → a || (b || c) ≡ false → cond a 0 (cond b 16 (cond c (m + 2) n)) ≡ n
    by true b c h = absurd (subst T h tt)
    by false true c h = absurd (subst T h tt)
    by false false true h = absurd (subst T h tt)
    by false false false h = refl

-- ── The bound: the text so far, and what the rest could still take
step-weighed : (t : Term) (ts : List Term) → length (term_texts (becomes t (children_of t ts).bytes)) + weight (onward t ts) ≤ weight (t ∷ ts)
unfolding texts_in onward weight
step-weighed t ts =
    let w = list-within (term 64) (term-within 64) t.kids ts in
    rw (becomes-texts t (children_of t ts).bytes) (by (eqb t.kind 0xE001) (eqb t.kind 0xE002) (eqb t.kind 0xE003) w.room)
  where
    by : (a b c : Bool) → length (children_of t ts).bytes + weight (children_of t ts).rest ≤ weight ts
        → cond a 0 (cond b 16 (cond c (length (children_of t ts).bytes + 2) (length t.fields.text))) + weight (cond (a || (b || c)) (children_of t ts).rest ts)
        ≤ 96 + length t.fields.text + weight ts
    by true b c h = omega arith
    by false true c h = omega arith
    by false false true h = omega arith
    by false false false h = omega arith

texts-weighed : (n : ℕ) (ts : List Term) → length (term_texts (normal_terms n ts)) ≤ weight ts
unfolding normal_terms term_texts weight
texts-weighed zero ts = omega arith
texts-weighed (suc n) [] = omega arith
texts-weighed (suc n) (t ∷ ts) =
    rw (texts-append (becomes t (children_of t ts).bytes) (normal_terms n (onward t ts)))
    (simp length-append (omega (arith, step-weighed t ts, texts-weighed n (onward t ts))))

-- ── At an index of a file's records
abbrev pub term_at : List ℕ → List ℕ → ℕ → Term
term_at records pool i = term_of pool (record_at records i)

-- the bytes of its children, and what it becomes
abbrev pub kids_at : List ℕ → List ℕ → ℕ → List ℕ
kids_at records pool i = (children_of (term_at records pool i) (terms_from records pool (i + 1))).bytes

abbrev pub becomes_at : List ℕ → List ℕ → ℕ → List Term
becomes_at records pool i = becomes (term_at records pool i) (kids_at records pool i)

-- what the step at i finds
pub record Stepped (records pool : List ℕ) (i texts next : ℕ) : Type 0 where
  pub counted : texts ≡ length (term_texts (becomes_at records pool i))
  pub goes : onward (term_at records pool i) (terms_from records pool (i + 1)) ≡ terms_from records pool next

module _ (records pool : List ℕ) (i : ℕ) {r : Record} (e : r ≡ record_at records i) {t : List ℕ} (g : t ≡ text_at pool r.start r.len) {b : Bool} (c : b ≡ changes r.kind) where
  pub step_changed : b ≡ true → {size k next n : ℕ} {deep : Bool} → Measured (list (term 64) r.kids (terms_from records pool (i + 1))) records pool size k deep next
      → n ≡ texts_in r.kind (length t) size → Stepped records pool i n next
  unfolding onward term_of text_of
  step_changed h m w =
      let q : changes r.kind ≡ true = sym c ∙ h in
      record {
        counted = rw (becomes-texts (term_at records pool i) (children_of (term_at records pool i) (terms_from records pool (i + 1))).bytes, ← e, ← m.counted, ← g) w;
        goes = rw (← e, q) m.ends;
      }

  pub step_stays : b ≡ false → Stepped records pool i (length t) (i + 1)
  unfolding onward term_of text_of
  step_stays h =
      let q : changes r.kind ≡ false = sym c ∙ h in
      record {
        counted = rw (becomes-texts (term_at records pool i) (children_of (term_at records pool i) (terms_from records pool (i + 1))).bytes, ← e, ← g) (sym (stays_texts r.kind (length t) _ q));
        goes = rw (← e, q) refl;
      }

pub children_few : (records pool : List ℕ) → Small records pool → (i n : ℕ) {size k next : ℕ} {deep : Bool}
    → Measured (list (term 64) n (terms_from records pool i)) records pool size k deep next → size ≤ 281474983002112
children_few records pool s i n m = omega (arith, m.counted, (list-fits records pool s 64 i n).bytes)

-- ── What the records from i on become, and its text
abbrev pub normal_from : List ℕ → List ℕ → ℕ → List Term
normal_from records pool i = normal_terms (length records / 24) (terms_from records pool i)

abbrev pub texts_from : List ℕ → List ℕ → ℕ → ℕ
texts_from records pool i = length (term_texts (normal_from records pool i))

pub texts-most : (records pool : List ℕ) → Small records pool → (i : ℕ) → texts_from records pool i ≤ 281474983002112
texts-most records pool s i = omega (arith, texts-weighed (length records / 24) (terms_from records pool i), terms-weighed records pool i s)

pub normal-none : (records pool : List ℕ) (i : ℕ) → length records / 24 ≤ i → normal_from records pool i ≡ []
unfolding normal_terms
normal-none records pool i h = rw (terms-none records pool i h) (by (length records / 24))
  where
    by : (n : ℕ) → normal_terms n [] ≡ []
    by zero = refl
    by (suc n) = refl

pub texts-none : (records pool : List ℕ) (i : ℕ) → length records / 24 ≤ i → texts_from records pool i ≡ 0
unfolding term_texts
texts-none records pool i h = rw (normal-none records pool i h) refl

terms-left : (records pool : List ℕ) (i : ℕ) → length (terms_from records pool i) ≡ length records / 24 - i
unfolding terms_from records_from
terms-left records pool i = length-map (records_of records i (length records / 24 - i)) (term_of pool) ∙ records-length records i (length records / 24 - i)

normal-more : (n : ℕ) (t : Term) (ts : List Term) → length ts < n → normal_terms n (t ∷ ts) ≡ becomes t (children_of t ts).bytes ++ normal_terms n (onward t ts)
unfolding normal_terms
normal-more zero t ts h = absurd (omega arith)
normal-more (suc n) t ts h = rw (normal_enough n (suc n) (onward t ts) (omega (arith, onward-rest t ts)) (omega (arith, onward-rest t ts))) refl

module _ {records pool : List ℕ} {i texts next : ℕ} (h : i < length records / 24) (s : Stepped records pool i texts next) where
  -- the pass comes nearer to its end
  pub step_nearer : length records / 24 - next < length records / 24 - i
  step_nearer =
      let e : length (onward (term_at records pool i) (terms_from records pool (i + 1))) ≡ length records / 24 - next = ap length s.goes ∙ terms-left records pool next in
      omega (arith, onward-rest (term_at records pool i) (terms_from records pool (i + 1)), terms-left records pool (i + 1))

  pub step-normal : normal_from records pool i ≡ becomes_at records pool i ++ normal_from records pool next
  step-normal =
      let q = normal-more (length records / 24) (term_at records pool i) (terms_from records pool (i + 1)) (omega (arith, terms-left records pool (i + 1))) in
      rw (terms-more records pool i h, q, s.goes) refl

  pub step-texts : texts_from records pool i ≡ texts + texts_from records pool next
  step-texts = rw (step-normal, texts-append, length-append, ← s.counted) refl

-- ── The pass at work: so much text is counted, and the records from i on make up the whole
pub record Passing (records pool : List ℕ) (i total : ℕ) : Type 0 where
  pub sum : total + texts_from records pool i ≡ texts_from records pool 0

module _ {records pool : List ℕ} {i total : ℕ} (p : Passing records pool i total) where
  pub passing_turn : {texts next : ℕ} → i < length records / 24 → Stepped records pool i texts next → Passing records pool next (total + texts)
  passing_turn h s = record { sum = omega (arith, p.sum, step-texts h s) }

  pub passing_sum : {texts next : ℕ} → Small records pool → i < length records / 24 → Stepped records pool i texts next → total + texts ≤ 281474983002112
  passing_sum k h s = omega (arith, p.sum, step-texts h s, texts-most records pool k 0)

  pub passing_end : length records / 24 ≤ i → total ≡ texts_from records pool 0
  passing_end h = omega (arith, p.sum, texts-none records pool i h)

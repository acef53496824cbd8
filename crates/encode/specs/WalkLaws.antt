-- How the code meets the walk: its equations at an index, the bound on what is written, and the loops over children.
-- Assumes nothing.
use Rattle.std.specs.Prelude.{◌≡◌, Bool, true, false, ◌||◌, cond, List, [], ◌∷◌, ◌++◌, map, ℕ, zero, suc, ◌+◌, ◌*◌, ◌-◌, ◌/◌, ◌<◌, ◌≤◌, ◌⊎◌, eqb, length, take, drop}
use Rattle.std.proofs.Common.{refl, sym, inl, inr, subst, ◌∙◌, arith, sub-one, length-append, length-take, length-drop}
use Rattle.std.proofs.lemmas.List.{length-map}
use Rattle.octets.specs.Filling.{Wrote, Filling, filling_start, filling_fits, filling_lent, filling_left, filling_end, lent, returned}
use Rattle.grammar.specs.Kinds.{row_of, row_in}
use Rattle.grammar.specs.Forest.{Term}
use Rattle.tree.specs.Bytes.{term_bytes}
use Rattle.term.specs.declared.Record.{Record}
use Rattle.term.specs.Record.{record_at, records_of, records_from, text_at}
use Rattle.term.specs.RecordLaws.{records-more, records-none, records-length}
use Rattle.checker.specs.Refusal.{text_of}
use Rattle.checker.specs.Described.{term_of}
use Rattle.encode.specs.Walk.{Part, nothing, list, is_buffer, records_in, deeper, node, term, or_assoc, or_false}
use Rattle.encode.specs.Most.{own-most}

-- ── The terms of the records from i on
unfoldable pub terms_from : List ℕ → List ℕ → ℕ → List Term
terms_from records pool i = map (term_of pool) (records_from records i)

pub terms-more : (records pool : List ℕ) (i : ℕ) → i < length records / 24 → terms_from records pool i ≡ term_of pool (record_at records i) ∷ terms_from records pool (i + 1)
unfolding terms_from
terms-more records pool i h = rw (records-more records i h) refl

pub terms-none : (records pool : List ℕ) (i : ℕ) → length records / 24 ≤ i → terms_from records pool i ≡ []
unfolding terms_from
terms-none records pool i h = rw (records-none records i h) refl

-- ── The walk's equations
pub term-none : (l : ℕ) (ts : List Term) → l ≡ 0 → term l ts ≡ nothing ts
unfolding term
term-none zero ts h = refl
term-none (suc l) ts h = absurd (omega arith)

pub term-nil : (l : ℕ) → term l [] ≡ nothing []
unfolding term
term-nil zero = refl
term-nil (suc l) = refl

pub term_in : (l : ℕ) (t : Term) (ts : List Term) → (l ≡ 0 → ⊥) → term l (t ∷ ts) ≡ node (l - 1) t (list (term (l - 1)) t.kids ts)
unfolding term
term_in zero t ts h = absurd (h refl)
term_in (suc l) t ts h = rw (sub-one (suc l))

pub list-none : (f : List Term → Part) (n : ℕ) (ts : List Term) → n ≡ 0 → list f n ts ≡ nothing ts
unfolding list
list-none f zero ts h = refl
list-none f (suc n) ts h = absurd (omega arith)

pub list-more : (f : List Term → Part) (n m : ℕ) (ts : List Term) → n ≡ suc m
    → list f n ts ≡ record {
      bytes = (f ts).bytes ++ (list f m (f ts).rest).bytes;
      records = (f ts).records + (list f m (f ts).rest).records;
      deep = (f ts).deep || (list f m (f ts).rest).deep;
      rest = (list f m (f ts).rest).rest;
    }
unfolding list
list-more f zero m ts p = absurd (omega arith)
list-more f (suc n) m ts p = let e : n ≡ m = omega arith in rw e refl

-- ── The bound: what is written, and what the rest could still take, is no more than what all could take
unfoldable pub weight : List Term → ℕ
weight [] = 0
weight (t ∷ ts) = 96 + length t.fields.text + weight ts

pub record Within (ts : List Term) (p : Part) : Type 0 where
  pub room : length p.bytes + weight p.rest ≤ weight ts
  pub slots : p.records + 2 * length p.rest ≤ 2 * length ts

pub list-within : (f : List Term → Part) → ((ts : List Term) → Within ts (f ts)) → (n : ℕ) (ts : List Term) → Within ts (list f n ts)
unfolding list
list-within f h zero ts = record { room = omega arith; slots = omega arith }
list-within f h (suc n) ts =
    let a = h ts in let b = list-within f h n (f ts).rest in
    record { room = simp length-append (omega (arith, a.room, b.room)); slots = omega (arith, a.slots, b.slots) }

records-most : (k n : ℕ) → records_in k n ≤ 2 + n
unfolding records_in
records-most k n = by (eqb k 0xE001) (is_buffer k)
  where
    by : (a b : Bool) → cond a 1 (cond b 2 (1 + n)) ≤ 2 + n
    by true b = omega arith
    by false true = omega arith
    by false false = omega arith

pub term-within : (l : ℕ) (ts : List Term) → Within ts (term l ts)
unfolding term node weight
term-within zero ts = record { room = omega arith; slots = omega arith }
term-within (suc l) [] = record { room = omega arith; slots = omega arith }
term-within (suc l) (t ∷ ts) =
    let b = list-within (term l) (term-within l) t.kids ts in
    record {
      room = omega (arith, b.room, own-most t.kind t.fields t.kids (list (term l) t.kids ts).bytes);
      slots = omega (arith, b.slots, records-most t.kind (list (term l) t.kids ts).records);
    }

-- a file's sections: 65,536 records, a pool whose length has 32 bits
pub record Small (records pool : List ℕ) : Type 0 where
  pub few : length records ≤ 1572864
  pub short : length pool < 4294967296

weighed : (pool : List ℕ) → length pool < 4294967296 → (rs : List Record) → weight (map (term_of pool) rs) ≤ 4294967392 * length rs
unfolding weight term_of text_of text_at
weighed pool h [] = omega arith
weighed pool h (r ∷ rs) =
    let t : length (take r.len (drop r.start pool)) ≤ length pool = simp (length-take, length-drop) (omega arith) in
    omega (arith, weighed pool h rs)

pub terms-weighed : (records pool : List ℕ) (i : ℕ) → Small records pool → weight (terms_from records pool i) ≤ 281474983002112
unfolding terms_from records_from
terms-weighed records pool i s =
    let n = records-length records i (length records / 24 - i) in
    omega (arith, weighed pool s.short (records_of records i (length records / 24 - i)), s.few)

-- what is counted fits 64 bits by far
pub record Fits (p : Part) : Type 0 where
  pub bytes : length p.bytes ≤ 281474983002112
  pub records : p.records ≤ 131072

terms-length : (records pool : List ℕ) (i : ℕ) → length (terms_from records pool i) ≤ length records / 24
unfolding terms_from records_from
terms-length records pool i = rw (length-map (records_of records i (length records / 24 - i)) (term_of pool), records-length records i (length records / 24 - i)) (omega arith)

module _ (records pool : List ℕ) (s : Small records pool) (l i : ℕ) where
  fits-within : {p : Part} → Within (terms_from records pool i) p → Fits p
  fits-within w = record {
    bytes = omega (arith, terms-weighed records pool i s, w.room);
    records = omega (arith, terms-length records pool i, s.few, w.slots);
  }

  pub term_fits_lem : Fits (term l (terms_from records pool i))
  term_fits_lem = fits-within (term-within l (terms_from records pool i))

  pub list-fits : (n : ℕ) → Fits (list (term l) n (terms_from records pool i))
  list-fits n = fits-within (list-within (term l) (term-within l) n (terms_from records pool i))

-- ── What a measuring function answers: the figures of p; what is behind it are the records from `next` on
pub record Measured (p : Part) (records pool : List ℕ) (size n : ℕ) (deep : Bool) (next : ℕ) : Type 0 where
  pub counted : size ≡ length p.bytes
  pub recorded : n ≡ p.records
  pub deepened : deep ≡ p.deep
  pub ends : p.rest ≡ terms_from records pool next

nothing-measured : {records pool : List ℕ} {ts : List Term} {i : ℕ} → ts ≡ terms_from records pool i → Measured (nothing ts) records pool 0 0 false i
nothing-measured e = record { counted = refl; recorded = refl; deepened = refl; ends = e }

-- no level is left, or no record
pub none-measured : (records pool : List ℕ) (l i : ℕ) {n : ℕ} → n ≡ length records / 24 → (l ≡ 0) ⊎ ((l ≡ 0 → ⊥) × (n ≤ i)) → Measured (term l (terms_from records pool i)) records pool 0 0 false i
none-measured records pool l i q (inl e) = rw (term-none _ _ e) (nothing-measured refl)
none-measured records pool l i q (inr (z, h)) = let e = terms-none records pool i (omega arith) in rw (e, term-nil) (nothing-measured (sym e))

pub none-listed : (records pool : List ℕ) (f : List Term → Part) (n i : ℕ) → n ≡ 0 → Measured (list f n (terms_from records pool i)) records pool 0 0 false i
none-listed records pool f n i e = rw (list-none f n (terms_from records pool i) e) (nothing-measured refl)

-- ── The children's figures: so much is counted, and n children from `next` on make up the whole
pub record Left (records pool : List ℕ) (f : List Term → Part) (whole : Part) (n size k : ℕ) (deep : Bool) (next : ℕ) : Type 0 where
  pub bytes : size + length (list f n (terms_from records pool next)).bytes ≡ length whole.bytes
  pub count : k + (list f n (terms_from records pool next)).records ≡ whole.records
  pub depth : deep || (list f n (terms_from records pool next)).deep ≡ whole.deep
  pub ends : (list f n (terms_from records pool next)).rest ≡ whole.rest

pub left-start : (records pool : List ℕ) (f : List Term → Part) (n i : ℕ) {m : ℕ} → m ≡ n → Left records pool f (list f n (terms_from records pool i)) m 0 0 false i
left-start records pool f n i e = rw e (record { bytes = omega arith; count = omega arith; depth = refl; ends = refl })

module _ {records pool : List ℕ} {f : List Term → Part} {whole : Part} {n size k : ℕ} {deep : Bool} {next : ℕ} (h : Left records pool f whole n size k deep next) where
  pub left_end : n ≤ 0 → Measured whole records pool size k deep next
  left_end e =
      let z = list-none f n (terms_from records pool next) (omega arith) in
      record {
        counted = omega (arith, rw z at h.bytes);
        recorded = omega (arith, rw z at h.count);
        deepened = sym (or_false deep) ∙ rw z at h.depth;
        ends = sym (rw z at h.ends);
      }

  pub left_turn : {j cs ck cn : ℕ} {cd : Bool} → n ≡ suc j → Measured (f (terms_from records pool next)) records pool cs ck cd cn → Left records pool f whole j (size + cs) (k + ck) (deep || cd) cn
  left_turn {j} p m =
      let e = list-more f n j (terms_from records pool next) p in
      record {
        bytes = omega (arith, simp length-append at (rw (e, m.ends) at h.bytes), m.counted);
        count = omega (arith, rw (e, m.ends) at h.count, m.recorded);
        depth = rw (m.deepened, or_assoc) (rw (e, m.ends) at h.depth);
        ends = rw (e, m.ends) at h.ends;
      }

  -- the sums that a turn makes are within the whole
  pub left-sum : {cs ck cn : ℕ} {cd : Bool} → 0 < n → Measured (f (terms_from records pool next)) records pool cs ck cd cn → (size + cs ≤ length whole.bytes) × (k + ck ≤ whole.records)
  left-sum p m = let t = left_turn {j = n - 1} (omega arith) m in (omega (arith, t.bytes), omega (arith, t.count))

-- ── A node, from its record and its children
abbrev pub kids_of : List ℕ → List ℕ → ℕ → ℕ → Record → Part
kids_of records pool l i r = list (term (l - 1)) r.kids (terms_from records pool (i + 1))

module _ (records pool : List ℕ) (l i : ℕ) {r : Record} (p : l ≡ 0 → ⊥) (h : i < length records / 24) (e : r ≡ record_at records i) where
  is-node : term l (terms_from records pool i) ≡ node (l - 1) (term_of pool r) (kids_of records pool l i r)
  unfolding term_of
  is-node = rw (terms-more records pool i h, term_in l _ (terms_from records pool (i + 1)) p, e) refl

  pub node-bytes : (term l (terms_from records pool i)).bytes ≡ term_bytes (row_in (row_of r.kind)) (term_of pool r).fields r.kids (kids_of records pool l i r).bytes
  unfolding node term_of
  node-bytes = rw is-node refl

  module _ {size k : ℕ} {deep : Bool} {bn : ℕ} (m : Measured (kids_of records pool l i r) records pool size k deep bn) where
    pub node-measured : {n c : ℕ} {d : Bool} → n ≡ length (term_bytes (row_in (row_of r.kind)) (term_of pool r).fields r.kids (kids_of records pool l i r).bytes)
        → c ≡ records_in r.kind k → d ≡ deeper (l - 1) r.kind deep → Measured (term l (terms_from records pool i)) records pool n c d bn
    unfolding node term_of
    node-measured x y z = rw is-node (record { counted = x; recorded = rw (← m.recorded) y; deepened = rw (← m.deepened) z; ends = m.ends })

-- ── What a writing function leaves and answers: the bytes of p over `first`; what is behind it are the records from `next` on
pub record Put (p : Part) (records pool first out : List ℕ) (size next : ℕ) : Type 0 where
  pub wrote : Wrote p.bytes first out size
  pub ends : p.rest ≡ terms_from records pool next

-- what a writing function asks: room, and no more bytes than a table may have
pub record Room (p : Part) (out : List ℕ) : Type 0 where
  pub fits : length p.bytes ≤ length out
  pub few : length p.bytes ≤ 268435419

pub node-room : (records pool : List ℕ) (l i : ℕ) {r : Record} → (l ≡ 0 → ⊥) → i < length records / 24 → r ≡ record_at records i
    → {out : List ℕ} → Room (term l (terms_from records pool i)) out
    → (length (term_bytes (row_in (row_of r.kind)) (term_of pool r).fields r.kids (kids_of records pool l i r).bytes) ≤ length out)
    × (length (term_bytes (row_in (row_of r.kind)) (term_of pool r).fields r.kids (kids_of records pool l i r).bytes) ≤ 268435419)
node-room records pool l i p h e {out} k =
    let b = node-bytes records pool l i p h e in
    (subst (λ w. length w ≤ length out) b k.fits, subst (λ w. length w ≤ 268435419) b k.few)

-- a node is put when its bytes are written and its children put
pub node-put : (records pool : List ℕ) (l i : ℕ) {r : Record} → (l ≡ 0 → ⊥) → i < length records / 24 → r ≡ record_at records i
    → {first out part back : List ℕ} {n m next : ℕ}
    → Wrote (term_bytes (row_in (row_of r.kind)) (term_of pool r).fields r.kids (kids_of records pool l i r).bytes) first out n
    → Put (kids_of records pool l i r) records pool part back m next → Put (term l (terms_from records pool i)) records pool first out n next
unfolding node term_of
node-put records pool l i p h e w k = rw (is-node records pool l i p h e) (record { wrote = w; ends = k.ends })

-- ── The children's writer at work: n children from `next` on are left
pub record Listing (records pool : List ℕ) (f : List Term → Part) (whole : Part) (n at next : ℕ) (first out : List ℕ) : Type 0 where
  pub fill : Filling whole.bytes (list f n (terms_from records pool next)).bytes at first out
  pub ends : (list f n (terms_from records pool next)).rest ≡ whole.rest

pub listing_start : (records pool : List ℕ) (f : List Term → Part) (n i : ℕ) (out : List ℕ) {m : ℕ} → m ≡ n → length (list f n (terms_from records pool i)).bytes ≤ length out
    → Listing records pool f (list f n (terms_from records pool i)) m 0 i out out
listing_start records pool f n i out e r = rw e (record { fill = filling_start out refl r; ends = refl })

module _ {records pool : List ℕ} {f : List Term → Part} {whole : Part} {n at next : ℕ} {first out : List ℕ} (h : Listing records pool f whole n at next first out) where
  pub listing_end : n ≤ 0 → Put whole records pool first out at next
  listing_end z =
      let e = list-none f n (terms_from records pool next) (omega arith) in
      record { wrote = filling_end (rw e at h.fill) (omega arith); ends = sym (rw e at h.ends) }

  module _ {j : ℕ} (p : n ≡ suc j) where
    more : Filling whole.bytes ((f (terms_from records pool next)).bytes ++ (list f j (f (terms_from records pool next)).rest).bytes) at first out
    more = rw (list-more f n j (terms_from records pool next) p) at h.fill

    pub listing_fits : length (f (terms_from records pool next)).bytes ≤ length (lent at out)
    listing_fits = filling_fits (f (terms_from records pool next)).bytes _ more

    -- a part is no longer than the whole
    pub listing_less : length (f (terms_from records pool next)).bytes ≤ length whole.bytes
    listing_less = omega (arith, simp length-append at (filling_left more))

    pub listing_turn : {cs cn : ℕ} {ys : List ℕ} → Put (f (terms_from records pool next)) records pool (lent at out) ys cs cn
        → Listing records pool f whole j (at + cs) cn first (returned at out ys)
    listing_turn m = record {
      fill = rw m.ends at (filling_lent (f (terms_from records pool next)).bytes _ more m.wrote);
      ends = rw (list-more f n j (terms_from records pool next) p, m.ends) at h.ends;
    }

-- nothing is left as it was
pub put-none : {p : Part} {records pool : List ℕ} {k : ℕ} {d : Bool} {next : ℕ} (out : List ℕ) → Measured p records pool 0 k d next → Put p records pool out out 0 next
put-none {p} out m = record { wrote = none p.bytes m.counted; ends = m.ends }
  where
    none : (b : List ℕ) → 0 ≡ length b → Wrote b out out 0
    none [] e = record { count = refl; is = refl }
    none (x ∷ b) e = absurd (omega arith)

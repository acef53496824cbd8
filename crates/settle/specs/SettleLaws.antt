-- What settling makes of the records that a walk left: the records and the texts of a normal-form file.
-- Assumes nothing.
use Rattle.std.specs.Prelude.{◌≡◌, cond, List, [], ◌∷◌, ◌++◌, map, ℕ, suc, ◌+◌, ◌-◌, ◌*◌, ◌≤◌, ◌<◌, take, drop}
use Rattle.std.proofs.Math.Path.{refl}
use Rattle.std.proofs.Common.{sym, ◌∙◌, ap, ap₂, arith, eqb→eq, length-append, length-drop, drop-drop, drop_at}
use Rattle.std.proofs.Math.Dec.{T}
use Rattle.std.proofs.Math.ListN.{length}
use Rattle.octets.specs.Bytes.{laid}
use Rattle.octets.specs.Tests.{and_left, and_right}
use Rattle.octets.specs.Laws.{no_bytes}
use Rattle.path.specs.Get.{path_text}
use Rattle.path.specs.PathCode.{path-text-back}
use Rattle.grammar.specs.declared.Text.{Text}
use Rattle.grammar.specs.declared.Text.TheVariants.{Unused, PathText, SegmentText, Ascii, AnyBytes, EisaText, UuidText, DescriptorText}
use Rattle.grammar.specs.Kinds.{row_of, row_in}
use Rattle.grammar.specs.KindLaws.{row-kind}
use Rattle.grammar.specs.Forest.{Fields, Term}
use Rattle.fields.specs.Fields.{numbers_fit, text_fits, in_range, text_spelled, spelled}
use Rattle.fields.specs.Written.{text_bytes}
use Rattle.fields.specs.WrittenLaws.{readable_text, readable, normal-readable}
use Rattle.tree.specs.IsNormal.{is_normal}
use Rattle.tree.proofs.TableLaws.{normal-row, normal-found}
use Rattle.term.specs.declared.Record.{Record}
use Rattle.term.specs.Record.{records_of, text_at}
use Rattle.normal.specs.File.{start_of, records_bytes, term_texts}
use Rattle.normal.specs.SectionLaws.{record_of, record-length, record-back, next-entry}
use Rattle.normal.specs.Stands.{Stands, stands_in, stands-left, stands-part}
use Rattle.normal.specs.Writable.{Every, TermSizes}
use Rattle.normal.specs.FewLaws.{text-most}
use Rattle.repack.specs.Repack.{packed}
use Rattle.repack.specs.PackLaws.{record-packed}
use Rattle.walk.specs.Calls.{is_path_text}
use Rattle.walk.specs.Spots.{Spot, spot_bytes, spots_bytes, terms_of, Sits, spliced, Left, spots-length, spots-count}
use Rattle.settle.specs.Settle.{has_path, fetched, fetched_all, placed, moved, settled, AsLong, Settling}

-- ── A text, by its form
text-fetched : (y : Text) (kind k : ℕ) (v : Fields) {b : List ℕ} {at : ℕ} → T (readable_text y) → T (text_fits y kind v.text v.a v.x) → T (text_spelled y kind v.text)
    → Stands b at (text_bytes y k v) → cond (is_path_text y) (path_text (drop at b)) (text_at b at (length v.text)) ≡ v.text
unfolding readable_text text_fits text_spelled text_bytes is_path_text text_at
text-fetched Unused kind k v r f s h = rw (no_bytes v.text (eqb→eq (length v.text) 0 f)) refl
text-fetched PathText kind k v {b} {at} r f s h = path-text-back b at v.text h.rest s h.within h.is
text-fetched SegmentText kind k v r f s h = stands-part v.text _ refl h
text-fetched Ascii kind k v r f s h = stands-part v.text _ refl (stands-left v.text (0 ∷ []) h)
text-fetched AnyBytes kind k v r f s h = stands-part v.text _ refl h
text-fetched EisaText kind k v r f s h = absurd r
text-fetched UuidText kind k v r f s h = absurd r
text-fetched DescriptorText kind k v r f s h = absurd r

-- a normal kind is known, and has a text that can be read
normal-known : (k : ℕ) → T (is_normal k) → T (readable (row_in (row_of k))) × ((row_in (row_of k)).kind ≡ k)
unfolding row_in
normal-known k t = normal-found k t λ r e. rw (normal-row k e) (normal-readable k e, row-kind k (normal-row k e))

-- ── A term, and where its text stands
abbrev pub spot_record : Spot → Record
spot_record s = record_of s.term s.place

module _ {b : List ℕ} {s : Spot} (h : Sits b s) where
  pub spot_fetched : fetched b (spot_record s) ≡ s.term.fields.text
  unfolding fetched has_path in_range spelled readable
  spot_fetched =
      let row = row_in (row_of s.term.kind) in
      let y : T (readable row) = (normal-known s.term.kind h.normal).0 in
      let v = s.term.fields in
      let f : T (text_fits row.text row.kind v.text v.a v.x) = and_right (numbers_fit row v.a v.x) (text_fits row.text row.kind v.text v.a v.x) h.ranged in
      text-fetched row.text row.kind s.term.kind v (search and_left) f h.spelled h.there

  spot_short : length s.term.fields.text ≤ 2 * length b
  spot_short =
      let row = row_in (row_of s.term.kind) in
      let (y, e) = normal-known s.term.kind h.normal in
      omega (arith, text-most row s.term.fields h.ranged h.spelled y, ap (λ k. length (text_bytes row.text k s.term.fields)) e, stands_in h.there)

spot_moved : (s : Spot) (at : ℕ) → packed (placed (spot_record s) at) ≡ packed (record_of s.term (start_of (length s.term.fields.text) at))
unfolding placed
spot_moved s at = refl

-- ── All of them
spots-records : (b out : List ℕ) (i : ℕ) (l : List Spot) → Every (Sits b) l → Every TermSizes (terms_of l) → length b ≤ 268435455 → Stands out (24 * i) (spots_bytes l)
    → records_of out i (length l) ≡ map spot_record l
unfolding Every spots_bytes records_of
spots-records b out i [] h z m e = refl
spots-records b out i (s ∷ l) h z m e =
    let (e₁, e₂) = next-entry 24 i (spot_bytes s) (spots_bytes l) (record-length s.term s.place) e in
    let p : s.place < 4294967296 = omega (arith, h.0.there.within) in
    let n : length s.term.fields.text < 4294967296 = omega (arith, spot_short h.0) in
    ap₂ (λ x r. x ∷ r) (record-back out i s.term s.place z.0 p n e₁) (spots-records b out (suc i) l h.1 z.1 m e₂)

spots-fetched : (b : List ℕ) (l : List Spot) → Every (Sits b) l → fetched_all b (map spot_record l) ≡ term_texts (terms_of l)
unfolding Every fetched_all term_texts
spots-fetched b [] h = refl
spots-fetched b (s ∷ l) h = rw (spot_fetched h.0, spots-fetched b l h.1) refl

spots_long : (b : List ℕ) (l : List Spot) → Every (Sits b) l → Every (AsLong b) (map spot_record l)
unfolding Every
spots_long b [] h = tt
spots_long b (s ∷ l) h = (ap length (spot_fetched h.0), spots_long b l h.1)

spots-moved : (at : ℕ) (l : List Spot) → moved at (map spot_record l) ≡ records_bytes at (terms_of l)
unfolding moved records_bytes
spots-moved at [] = refl
spots-moved at (s ∷ l) =
    let n = length s.term.fields.text in
    ap₂ (λ x r. x ++ r) (spot_moved s at ∙ sym (record-packed s.term (start_of n at))) (spots-moved (at + n) l)

-- ── Records that stand first in a buffer may be settled, and are then those of a normal-form file
module _ (b out rest : List ℕ) (l : List Spot) (h : Every (Sits b) l) (z : Every TermSizes (terms_of l)) (m : length b ≤ 268435455) (e : out ≡ spots_bytes l ++ rest) where
  first-records : records_of out 0 (length l) ≡ map spot_record l
  first-records = spots-records b out 0 l h z m (record { rest = rest; is = e; within = omega arith })

  first-texts : fetched_all b (records_of out 0 (length l)) ≡ term_texts (terms_of l)
  first-texts = ap (fetched_all b) first-records ∙ spots-fetched b l h

  module _ {n : ℕ} (c : n ≡ length l) (pool first : ℕ) where
    pub settling_spots : n ≤ 65536 → 24 * n ≤ pool → pool + length (term_texts (terms_of l)) ≤ length out → first + length (term_texts (terms_of l)) < 4294967296
        → Settling b n pool first out
    settling_spots few front room small = rw c (record {
      few = rw (← c) few;
      front = rw (← c) front;
      room = rw first-texts room;
      each = rw first-records (spots_long b l h);
      small = rw first-texts small;
    })

    pub settled-spots : settled b n pool first out
        ≡ records_bytes first (terms_of l) ++ (take (pool - 24 * n) (drop (24 * n) out) ++ laid (term_texts (terms_of l)) (drop pool out))
    unfolding settled
    settled-spots = rw (c, first-texts, first-records, spots-moved first l) refl

-- ── What a walk left from the first record on, over a buffer with room for it
module _ {ts : List Term} {b before out : List ℕ} (l : Left ts b 0 before out) (z : Every TermSizes ts) (m : length b ≤ 268435455) (r : 24 * length ts ≤ length before) where
  rows : length (spots_bytes l.spots) ≡ 24 * length ts
  rows = spots-length l.spots ∙ ap (λ k. 24 * k) (spots-count l.spots l.are)

  left_is : out ≡ spots_bytes l.spots ++ drop (24 * length ts) before
  unfolding spliced
  left_is = let e : 24 * 0 + length (spots_bytes l.spots) ≡ 24 * length ts = omega (arith, rows) in l.put (omega arith) ∙ rw e refl

  left-length : length out ≡ length before
  left-length = rw left_is (rw (length-append (spots_bytes l.spots) (drop (24 * length ts) before), length-drop, rows) (omega arith))

  module _ {n : ℕ} (c : n ≡ length ts) (pool first : ℕ) (p : 24 * n ≤ pool) where
    count : n ≡ length l.spots
    count = c ∙ sym (spots-count l.spots l.are)

    -- behind the records the buffer is as it was
    behind : drop (24 * n) out ≡ drop (24 * n) before
    behind = rw (left_is, c) (drop_at (spots_bytes l.spots) _ _ rows)

    pool-behind : drop pool out ≡ drop pool before
    pool-behind =
        let e : 24 * n + (pool - 24 * n) ≡ pool = omega arith in
        rw (← e, ← (drop-drop (pool - 24 * n) (24 * n) out), ← (drop-drop (pool - 24 * n) (24 * n) before), behind) refl

    pub settling_left : n ≤ 65536 → pool + length (term_texts ts) ≤ length before → first + length (term_texts ts) < 4294967296 → Settling b n pool first out
    settling_left few room small =
        settling_spots b out _ l.spots l.sit (rw l.are z) m left_is count pool first few p (rw (l.are, left-length) room) (rw l.are small)

    pub settled-left : settled b n pool first out ≡ records_bytes first ts ++ (take (pool - 24 * n) (drop (24 * n) before) ++ laid (term_texts ts) (drop pool before))
    settled-left =
        settled-spots b out _ l.spots l.sit (rw l.are z) m left_is count pool first ∙ rw (l.are, behind, pool-behind) refl

-- How the code meets the reading of a table: what its walks tell, the file in the parts in which it is written, and the answers.
-- Assumes nothing.
use Rattle.std.specs.Prelude.{◌≡◌, Bool, ◌||◌, ℕ, ◌+◌, ◌-◌, ◌*◌, ◌/◌, ◌≤◌, ◌<◌, eqb, ltb, take, drop, Result, Ok, Err, IfSome, Option as Found, Some, None}
use Rattle.std.proofs.Math.Path.{refl, ap}
use Rattle.std.proofs.Common.{sym, ◌∙◌, arith, length-drop, length-take, drop_of_length-le, take_at, drop_at, drop-drop, take_all, length-take-le}
use Rattle.std.proofs.Math.Bool.{true, false, not, cond}
use Rattle.std.proofs.Math.Option.{none, some, none-ne-some, some-injective}
use mathlib.Core.List as lists
use mathlib.Core.List.{List, [], ◌∷◌, ◌++◌, append_assoc, append-nil}
use Rattle.std.proofs.Math.ListN.{length, length-append}
use borrow.Author.Tests.{eq-eqb, ne_eqb, lt-ltb, le-ltb, le-leb, lt-leb, ltb-false, eqb-true, not-false}
use Rattle.octets.specs.Bytes.{le_at, laid, ◌>>=◌}
use Rattle.octets.specs.Sum.{byte_sum}
use Rattle.octets.specs.Tests.{or_none}
use Rattle.octets.specs.Filling.{Wrote, wrote-length, Writing, writing_start, lent, returned}
use Rattle.octets.specs.Reading.{Digits}
use Rattle.grammar.specs.declared.Place.TheVariants.{InList}
use Rattle.grammar.specs.Forest.{Forest, flatten}
use Rattle.tree.specs.Read.{list, read, parse}
use Rattle.tree.proofs.ExactLaws.{parse-only}
use Rattle.term.specs.File.{record_count, layout_of}
use Rattle.arity.specs.Arity.{arities_of, arities_fit, args_of}
use Rattle.checker.specs.Refusal.{arity_section, pool_section}
use Rattle.normal.specs.File.{records_bytes, term_texts, arities_bytes, arity_texts, header_bytes, file_of}
use Rattle.normal.specs.FileLaws.{file-length}
use Rattle.normal.specs.SectionLaws.{records-length, entries_length}
use Rattle.normal.specs.Writable.{Every, TermSizes}
use Rattle.normal.specs.WritableLaws.{fits-writable}
use Rattle.refusal.specs.declared.Fault.{Fault}
use Rattle.refusal.specs.declared.Refusal.{Refusal}
use Rattle.refusal.specs.declared.Refusal.TheVariants.{NoFile, OutputShort, TooMany, Arities}
use Rattle.refusal.specs.Number.{number}
use Rattle.refusal.specs.NumberLaws.{number-positive}
use Rattle.encode.specs.Encode.{refused_by, handed, described, Answered}
use Rattle.whole.specs.Whole.{list_of, identity_of, tree_in, read_in, read_of, Framed}
use Rattle.whole.specs.ListLaws.{sizes, texts-short, arities_callable, arities-count, layout-room}
use Rattle.whole.specs.TableLaws.{identity-length}
use Rattle.walk.specs.declared.Walk.{Walk}
use Rattle.walk.specs.Walk.{forest, Walks, Spans, Walkable}
use Rattle.walk.specs.Spots.{Left}
use Rattle.settle.specs.Settle.{Settling, settled}
use Rattle.settle.specs.SettleLaws.{settling_left, settled-left}
use Rattle.reader.specs.Reader.{table_number, terms, list_bytes, body_bytes, read_file, read_sections, Ready, Held, Room}

-- ── 20, 12, 21
module _ (t : List ℕ) where
  pub table-short : length t < 36 → 20 ≡ table_number t
  unfolding table_number
  table-short h = rw (lt-ltb (length t) 36 h) refl

  module _ (l : 36 ≤ length t) {x : ℕ} (d : Digits t 4 4 x) where
    pub table-other : (x ≡ length t → ⊥) → 20 ≡ table_number t
    unfolding table_number
    table-other n = rw (le-ltb (length t) 36 l, ne_eqb (le_at 4 t 4) (length t) (λ e. n (d.is ∙ e))) refl

    module _ (e : x ≡ length t) where
      own : le_at 4 t 4 ≡ length t
      own = sym d.is ∙ e

      pub table_large : 268435455 < length t → 12 ≡ table_number t
      unfolding table_number
      table_large h = rw (le-ltb (length t) 36 l, eq-eqb (le_at 4 t 4) (length t) own, lt-ltb 268435455 (length t) h) refl

      module _ (m : length t ≤ 268435455) {s : ℕ} (b : s ≡ byte_sum t) where
        pub table_unsummed : (s ≡ 0 → ⊥) → 21 ≡ table_number t
        unfolding table_number
        table_unsummed n = rw (le-ltb (length t) 36 l, eq-eqb (le_at 4 t 4) (length t) own, le-ltb 268435455 (length t) m, ne_eqb (byte_sum t) 0 (λ z. n (b ∙ z))) refl

        pub table-fine : s ≡ 0 → 0 ≡ table_number t
        unfolding table_number
        table-fine z = rw (le-ltb (length t) 36 l, eq-eqb (le_at 4 t 4) (length t) own, le-ltb 268435455 (length t) m, eq-eqb (byte_sum t) 0 (sym b ∙ z)) refl

table-framed : (t : List ℕ) → table_number t ≡ 0 → Framed t
unfolding table_number
table-framed t h = by (ltb (length t) 36 || not (eqb (le_at 4 t 4) (length t))) refl (ltb 268435455 (length t)) refl (eqb (byte_sum t) 0) refl h
  where
    by : (u : Bool) → ltb (length t) 36 || not (eqb (le_at 4 t 4) (length t)) ≡ u → (v : Bool) → ltb 268435455 (length t) ≡ v → (w : Bool) → eqb (byte_sum t) 0 ≡ w
        → ◌≡◌ {A = ℕ} (cond u 20 (cond v 12 (cond (not w) 21 0))) 0 → Framed t
    by true e v f w g h = absurd (omega arith)
    by false e true f w g h = absurd (omega arith)
    by false e false f false g h = absurd (omega arith)
    by false e false f true g h =
        let (a, b) = or_none (ltb (length t) 36) (not (eqb (le_at 4 t 4) (length t))) e in
        record { least = ltb-false (length t) 36 a; own = eqb-true (le_at 4 t 4) (length t) (not-false (eqb (le_at 4 t 4) (length t)) b); most = ltb-false 268435455 (length t) f; sum = eqb-true (byte_sum t) 0 g }

-- ── The parts in a row
pub identity-start : (t first : List ℕ) → length (identity_of t) ≤ length first → Writing (identity_of t) (take 4 t ∷ take 1 (drop 8 t) ∷ take 26 (drop 10 t) ∷ []) 0 first first
unfolding identity_of lists.flatten
identity-start t first room = writing_start first (record { is = rw append-nil refl }) room

pub list-start : (a p first : List ℕ) → length (list_bytes a p) ≤ length first → Writing (list_bytes a p) (arities_bytes 0 (arities_of a p) ∷ arity_texts (arities_of a p) ∷ []) 0 first first
unfolding list_bytes lists.flatten
list-start a p first room = writing_start first (record { is = rw append-nil refl }) room

-- ── What a walk tells: the terms, or that there are none
module _ {a p t : List ℕ} (y : Ready a p t) where
  pub ready_walk : Walkable t 36
  ready_walk = record { within = y.framed.least; most = y.framed.most }

abbrev Walked : (a p t first out : List ℕ) → Found Walk → Type 0
Walked a p t first out o = Walks forest (list (read (args_of a p) 64) (λ _. InList) (length (drop 36 t)) 0 (drop 36 t)) t 36 0 first out o × IfSome o (Spans 36)

module _ (a p t : List ℕ) {first out : List ℕ} where
  untold : Walked a p t first out None → terms a p t ≡ none
  unfolding parse ◌>>=◌
  untold k = rw k.0.tells refl

  told : {w : Walk} → Walked a p t first out (Some w)
      → (f : Forest) × (terms a p t ≡ some f) × (w.records ≡ length (flatten f)) × (w.texts ≡ length (term_texts (flatten f))) × Left (flatten f) t 0 first out
  unfolding parse ◌>>=◌
  told k = let r = k.0.tells in (r.value, rw r.is refl, r.records, r.texts, r.left)

  pub walk-held : {w : Walk} → Walked a p t first out (Some w) → length t ≤ 268435455 → w.records ≤ 65536 → Held a p t w.records w.texts
  walk-held k m h =
      let (f, e, n, x, l) = told k in
      record { forest = f; is = e; counted = n; texted = x; few = h; short = omega (arith, k.1.short, k.0.tells.high) }

  -- a second walk finds them again
  pub walk-left : (o : Found Walk) → Walked a p t first out o → {n texts : ℕ} (h : Held a p t n texts) → Left (flatten h.forest) t 0 first out
  walk-left None k h = absurd (none-ne-some h.forest (sym (untold k) ∙ h.is))
  walk-left (Some w) k h = let (f, e, n, x, l) = told k in rw (some-injective h.forest f (sym h.is ∙ e)) l

-- ── The body
module _ {a p t : List ℕ} {n names texts : ℕ} (y : Ready a p t) (h : Held a p t n texts) (d : names ≡ length (arity_texts (arities_of a p))) where
  here : described (terms a p t) ≡ h.forest
  unfolding described
  here = rw h.is refl

  pub names_most : names ≤ 5222400
  names_most = omega (arith, texts-short (arities_of a p) (arities_callable a p y.fit), arities-count a p, y.few)

  list_length : length (list_bytes a p) ≡ 8 * (length a / 8) + names
  unfolding list_bytes
  list_length = omega (arith, length-append (arities_bytes 0 (arities_of a p)) (arity_texts (arities_of a p)), entries_length 0 (arities_of a p), arities-count a p)

  body_is : body_bytes a p t ≡ records_bytes names (flatten h.forest) ++ (list_bytes a p ++ term_texts (flatten h.forest))
  unfolding body_bytes
  body_is = rw (here, d) refl

  body-length : length (body_bytes a p t) ≡ 24 * n + length (list_bytes a p) + texts
  body-length =
      rw body_is
      (omega (arith, length-append (records_bytes names (flatten h.forest)) (list_bytes a p ++ term_texts (flatten h.forest)), length-append (list_bytes a p) (term_texts (flatten h.forest)), records-length names (flatten h.forest), h.counted, h.texted))

  term-sizes : Every TermSizes (flatten h.forest)
  term-sizes =
      let (f, m, o, w) = parse-only (args_of a p) (drop 36 t) h.forest h.is in
      let c = arities_callable a p y.fit in
      (fits-writable (identity_of t) (arities_of a p) (args_of a p) (λ _. InList) 64 0 h.forest (identity-length t y.framed.least) (omega (arith, arities-count a p, y.few)) (omega (arith, h.few, h.counted)) (sizes (arities_of a p) c) f (omega (arith, names_most, h.short, h.texted))).each-term

  module _ (out : List ℕ) (r : length (body_bytes a p t) ≤ length out) where
    pub body-front : 24 * n ≤ length out
    body-front = omega (arith, body-length)

    pub list-room : length (list_bytes a p) ≤ length (lent (24 * n) out)
    list-room = simp (length-take, length-drop) (omega (arith, body-length))

    -- the arity list in its place
    module _ {k : ℕ} {ys : List ℕ} (w : Wrote (list_bytes a p) (lent (24 * n) out) ys k) where
      mid-is : returned (24 * n) out ys ≡ take (24 * n) out ++ (list_bytes a p ++ drop (24 * n + k) out)
      mid-is =
          let d : length (drop (24 * n) out) ≤ length out - 24 * n = rw length-drop (omega arith) in
          rw (w.is, w.count) (rw (take_all (length out - 24 * n) (drop (24 * n) out) d, drop_of_length-le (drop (24 * n) out) d, append-nil, drop-drop) refl)

      front_length : length (take (24 * n) out) ≡ 24 * n
      front_length = length-take-le (24 * n) out body-front

      mid-length : length (returned (24 * n) out ys) ≡ length out
      mid-length = rw mid-is (simp (length-append, length-drop, front_length) (omega (arith, w.count, body-length)))

      list-there : drop (24 * n) (returned (24 * n) out ys) ≡ list_bytes a p ++ drop (24 * n + k) out
      list-there = rw mid-is (drop_at (take (24 * n) out) _ (24 * n) front_length)

      pool-there : drop (24 * n + k) (returned (24 * n) out ys) ≡ drop (24 * n + k) out
      pool-there = sym (drop-drop k (24 * n) (returned (24 * n) out ys)) ∙ rw list-there (drop_at (list_bytes a p) _ k (sym w.count))

      pub body_to : 24 * n + k + texts ≤ length out
      body_to = omega (arith, body-length, w.count)

      module _ {left : List ℕ} (l : Left (flatten h.forest) t 0 (returned (24 * n) out ys) left) where
        room-there : 24 * length (flatten h.forest) ≤ length (returned (24 * n) out ys)
        room-there = omega (arith, mid-length, body-front, h.counted)

        pub body_settles : Settling t n (24 * n + k) names left
        body_settles =
            settling_left l term-sizes y.framed.most room-there h.counted (24 * n + k) names (omega arith) h.few
            (omega (arith, mid-length, body_to, h.texted)) (omega (arith, names_most, h.short, h.texted))

        pub body-wrote : {end : List ℕ} → end ≡ settled t n (24 * n + k) names left → Wrote (body_bytes a p t) out end (24 * n + k + texts)
        body-wrote e =
            let f = settled-left l term-sizes y.framed.most room-there h.counted (24 * n + k) names (omega arith) in
            let q : 24 * n + k - 24 * n ≡ k = omega arith in
            let m : take k (drop (24 * n) (returned (24 * n) out ys)) ≡ list_bytes a p = rw list-there (take_at (list_bytes a p) _ k (sym w.count)) in
            let z : 24 * n + k + length (term_texts (flatten h.forest)) ≡ length (body_bytes a p t) = omega (arith, body-length, w.count, h.texted) in
            let c : laid (body_bytes a p t) out ≡ records_bytes names (flatten h.forest) ++ (list_bytes a p ++ (term_texts (flatten h.forest) ++ drop (24 * n + k + length (term_texts (flatten h.forest))) out)) =
            rw (z, body_is, append_assoc (records_bytes names (flatten h.forest)) _ _, append_assoc (list_bytes a p) _ _) refl in
            record {
              count = omega (arith, body-length, w.count);
              is = e ∙ f ∙ rw (q, m, pool-there, drop-drop (length (term_texts (flatten h.forest))) (24 * n + k) out) refl ∙ sym c;
            }

        pub body_same : {end : List ℕ} → end ≡ settled t n (24 * n + k) names left → length end ≡ length out
        body_same e = wrote-length r (body-wrote e)

  -- ── The file: header and body
  pub file-start : (first : List ℕ) → length (read_file a p t) ≤ length first
      → Writing (read_file a p t) (header_bytes (identity_of t) n (length a / 8) (names + texts) ∷ body_bytes a p t ∷ []) 0 first first
  unfolding read_file file_of list_bytes lists.flatten
  file-start first room =
      writing_start first (record { is = rw (append-nil, body_is, here, h.counted, h.texted, d, arities-count a p, append_assoc (arities_bytes 0 (arities_of a p))) refl }) room

  pub file-size : length (read_file a p t) ≡ 60 + 24 * n + 8 * (length a / 8) + (names + texts)
  unfolding read_file
  file-size = rw here (omega (arith, file-length (identity_of t) (arities_of a p) h.forest (identity-length t y.framed.least), h.counted, h.texted, arities-count a p))

-- ── The answers: 22, 14, or the file
tree-none : (a p t : List ℕ) → terms a p t ≡ none → tree_in (arities_of a p) t ≡ none
unfolding tree_in args_of
tree-none a p t e = rw e refl

tree_many : (a p t : List ℕ) (f : Forest) → terms a p t ≡ some f → 65536 < length (flatten f) → tree_in (arities_of a p) t ≡ none
unfolding tree_in args_of
tree_many a p t f e h = rw (e, lt-leb (length (flatten f)) 65536 h) refl

tree_some : (a p t : List ℕ) (f : Forest) → terms a p t ≡ some f → length (flatten f) ≤ 65536 → tree_in (arities_of a p) t ≡ some f
unfolding tree_in args_of
tree_some a p t f e h = rw (e, le-leb (length (flatten f)) 65536 h) refl

-- a refusal that is of no record
abbrev pub fault : Refusal → Fault
fault r = record { refusal = r; index = 0 }

module _ (a p t : List ℕ) (out : List ℕ) where
  refused-by : tree_in (arities_of a p) t ≡ none → Answered (Err (fault NoFile)) out (read_sections a p t out)
  unfolding read_sections read_in refused_by
  refused-by e = rw e (record { answer = refl; output = refl })

  module _ {first left : List ℕ} where
    pub sections-none : Walked a p t first left None → Answered (Err (fault NoFile)) out (read_sections a p t out)
    sections-none k = refused-by (tree-none a p t (untold a p t k))

    pub sections-many : {w : Walk} → Walked a p t first left (Some w) → 65536 < w.records → Answered (Err (fault NoFile)) out (read_sections a p t out)
    sections-many k h = let (f, e, c, x, l) = told a p t k in refused-by (tree_many a p t f e (omega arith))

  module _ {n names texts : ℕ} (y : Ready a p t) (h : Held a p t n texts) (d : names ≡ length (arity_texts (arities_of a p))) where
    sections-are : read_sections a p t out ≡ handed (read_file a p t) out
    unfolding read_sections read_in read_file described
    sections-are = rw (tree_some a p t h.forest h.is (omega (arith, h.few, h.counted)), h.is) refl

    pub sections-short : length out < 60 + 24 * n + 8 * (length a / 8) + (names + texts) → Answered (Err (fault OutputShort)) out (read_sections a p t out)
    unfolding handed refused_by
    sections-short s = rw (sections-are, lt-ltb (length out) (length (read_file a p t)) (omega (arith, file-size y h d))) (record { answer = refl; output = refl })

    pub sections-room : 60 + 24 * n + 8 * (length a / 8) + (names + texts) ≤ length out → Room (read_file a p t) a p t n names texts out
    sections-room s = record { held = h; named = d; room = omega (arith, file-size y h d) }

    pub sections-size : 60 + 24 * n + 8 * (length a / 8) + (names + texts) ≤ 600000000
    sections-size = omega (arith, names_most y h d, h.few, h.short, y.few)

    pub sections-done : 60 + 24 * n + 8 * (length a / 8) + (names + texts) ≤ length out → {ys : List ℕ} {k : ℕ} → Wrote (read_file a p t) out ys k
        → Answered (Ok k) ys (read_sections a p t out)
    unfolding handed
    sections-done s w = rw (sections-are, le-ltb (length out) (length (read_file a p t)) (omega (arith, file-size y h d)), w.count) (record { answer = refl; output = w.is })

-- ── Before them: 1, 2, 3 of the arity file; 20, 12, 21 of the table
module _ (f t out : List ℕ) where
  pub read_unlaid : {e : Refusal} → number e ≡ (layout_of f).number → Answered (Err (fault e)) out (read_of f t out)
  unfolding read_of refused_by
  read_unlaid {e} h =
      rw (ne_eqb (layout_of f).number 0 (λ z. omega (arith, h, number-positive e)), ← h) (record { answer = refl; output = refl })

  module _ (z : (layout_of f).number ≡ 0) {x : ℕ} (d : Digits f 4 4 x) where
    pub read-records : (x ≡ 0 → ⊥) → Answered (Err (fault TooMany)) out (read_of f t out)
    unfolding read_of refused_by
    read-records n = rw (z, ne_eqb (record_count f) 0 (λ q. n (d.is ∙ q))) (record { answer = refl; output = refl })

    module _ (n : x ≡ 0) where
      pub read_unfit : arities_fit (arity_section f) (pool_section f) ≡ false → Answered (Err (fault Arities)) out (read_of f t out)
      unfolding read_of refused_by
      read_unfit h = rw (z, eq-eqb (record_count f) 0 (sym d.is ∙ n), h) (record { answer = refl; output = refl })

      module _ (h : arities_fit (arity_section f) (pool_section f) ≡ true) where
        pub read_unframed : {e : Refusal} → number e ≡ table_number t → Answered (Err (fault e)) out (read_of f t out)
        unfolding read_of refused_by table_number
        read_unframed {e} q =
            rw (z, eq-eqb (record_count f) 0 (sym d.is ∙ n), h)
            (by (ltb (length t) 36 || not (eqb (le_at 4 t 4) (length t))) (ltb 268435455 (length t)) (not (eqb (byte_sum t) 0)) q)
          where
            by : (u v s : Bool) → number e ≡ cond u 20 (cond v 12 (cond s 21 0))
                → Answered (Err (fault e)) out (cond u (refused_by 20 0 out) (cond v (refused_by 12 0 out) (cond s (refused_by 21 0 out) (read_in (list_of f) t (tree_in (list_of f) t) out))))
            by true v s k = record { answer = ap (λ i. record { number = i; index = 0; length = 0 }) k; output = refl }
            by false true s k = record { answer = ap (λ i. record { number = i; index = 0; length = 0 }) k; output = refl }
            by false false true k = record { answer = ap (λ i. record { number = i; index = 0; length = 0 }) k; output = refl }
            by false false false k = absurd (omega (arith, k, number-positive e))

        module _ (w : table_number t ≡ 0) where
          pub read_ready : Ready (arity_section f) (pool_section f) t
          read_ready = record {
            framed = table-framed t w;
            fit = h;
            few = omega (arith, length-take ((layout_of f).pool - (layout_of f).arities) (drop (layout_of f).arities f), (layout-room f z).1);
          }

          pub read-on : {r : Result ℕ Fault} {left : List ℕ} → Answered r left (read_sections (arity_section f) (pool_section f) t out) → Answered r left (read_of f t out)
          unfolding read_of read_sections list_of
          read-on k =
              let y = table-framed t w in
              rw (z, eq-eqb (record_count f) 0 (sym d.is ∙ n), h)
              (rw (le-ltb (length t) 36 y.least, eq-eqb (le_at 4 t 4) (length t) y.own, le-ltb 268435455 (length t) y.most, eq-eqb (byte_sum t) 0 y.sum) k)

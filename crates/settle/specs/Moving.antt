-- The leaves and the loop of settling: records before j say where their texts are now, those texts are in the pool, and the rest of the
-- buffer is as it was. The records' part and the pool's part are filled side by side.
-- Assumes nothing.
use Rattle.std.specs.Prelude.{◌≡◌, Bool, true, false, List, [], ◌∷◌, ◌++◌, ℕ, suc, ◌+◌, ◌-◌, ◌*◌, ◌/◌, ◌≤◌, ◌<◌, eqb}
use Rattle.std.proofs.Math.Path.{refl, sym, ap}
use Rattle.std.proofs.Common.{◌∙◌, append_assoc, arith, add-one, length-append, length-take, length-drop, take-append-drop, length-take-le}
use Rattle.std.proofs.Math.Dec.{eqb_refl}
use Rattle.std.proofs.Math.ListN.{length, take, drop}
use Rattle.octets.specs.Tests.{cond_true, cond_false, not_equal}
use Rattle.octets.specs.Filling.{Wrote, Filling, filling_start, filling_left, filling_end, lent, returned}
use Rattle.path.specs.Get.{path_text}
use Rattle.term.specs.declared.Record.{Record}
use Rattle.term.specs.Record.{record_at, records_of, text_at}
use Rattle.term.specs.RecordLaws.{records-length}
use Rattle.normal.specs.File.{start_of}
use Rattle.normal.specs.Writable.{Every}
use Rattle.repack.specs.Repack.{packed}
use Rattle.repack.specs.PackLaws.{packed-length}
use Rattle.walk.specs.Spots.{spliced, splice_length}
use Rattle.settle.specs.Settle.{has_path, fetched, fetched_all, placed, moved, settled, AsLong, Settling}
use Rattle.settle.specs.Parted.{returned-spliced, filling_spliced, front-takes, front_leaves, back-takes, back_leaves, take_within, drop-front, record_same}

-- ── A text, by whether its kind has a path
module _ (table : List ℕ) (r : Record) {b : Bool} (h : b ≡ has_path r.kind) where
  pub fetched-path : b ≡ true → fetched table r ≡ path_text (drop r.start table)
  unfolding fetched
  fetched-path e = rw (← h, e) refl

  pub fetched-part : b ≡ false → fetched table r ≡ text_at table r.start r.len
  unfolding fetched
  fetched-part e = rw (← h, e) refl

-- ── A record's start
pub placed_empty : (r : Record) (at : ℕ) → r.len ≡ 0 → ◌≡◌ {A = Record} (record { kind = r.kind; a = r.a; kids = r.kids; x = r.x; start = 0; len = r.len }) (placed r at)
unfolding placed start_of
placed_empty r at e = rw (cond_true (eqb r.len 0) 0 at (rw e (eqb_refl 0))) refl

pub placed-text : (r : Record) (at : ℕ) → (r.len ≡ 0 → ⊥) → ◌≡◌ {A = Record} (record { kind = r.kind; a = r.a; kids = r.kids; x = r.x; start = at; len = r.len }) (placed r at)
unfolding placed start_of
placed-text r at e = rw (cond_false (eqb r.len 0) 0 at (not_equal r.len 0 e)) refl

-- ── Records from j on: one and the rest, or none
records_turn : (b : List ℕ) (n j : ℕ) → j < n → records_of b j (n - j) ≡ record_at b j ∷ records_of b (j + 1) (n - (j + 1))
unfolding records_of
records_turn b n j h = let e : n - j ≡ suc (n - (j + 1)) = omega arith in rw (e, add-one j) refl

records-over : (b : List ℕ) (n j : ℕ) → n ≤ j → records_of b j (n - j) ≡ []
unfolding records_of
records-over b n j h = let e : n - j ≡ 0 = omega arith in rw e refl

pub moved_length : (at : ℕ) (rs : List Record) → length (moved at rs) ≡ 24 * length rs
unfolding moved
moved_length at [] = refl
moved_length at (r ∷ rs) = omega (arith, length-append (packed (placed r at)) (moved (at + r.len) rs), packed-length (placed r at), moved_length (at + r.len) rs)

-- ── The loop
pub record Moving (table : List ℕ) (n pool first : ℕ) (before : List ℕ) (at j : ℕ) (out : List ℕ) : Type 0 where
  pub given : Settling table n pool first before
  pub each : Every (AsLong table) (records_of before j (n - j))
  pub front : Filling (moved first (records_of before 0 n)) (moved (first + at) (records_of before j (n - j))) (24 * j) (take pool before) (take pool out)
  pub back : Filling (fetched_all table (records_of before 0 n)) (fetched_all table (records_of before j (n - j))) at (drop pool before) (drop pool out)
  pub len : length out ≡ length before

pub moving_start : {table : List ℕ} {n pool first : ℕ} {out : List ℕ} → Settling table n pool first out → Moving table n pool first out 0 0 out
moving_start {table} {n} {pool} {first} {out} g =
    let e : n - 0 ≡ n = omega arith in
    let f : first + 0 ≡ first = omega arith in
    let low : length (take pool out) ≡ pool = length-take-le pool out (omega (arith, g.room)) in
    let rows : length (moved first (records_of out 0 n)) ≡ 24 * n = moved_length first (records_of out 0 n) ∙ ap (λ k. 24 * k) (records-length out 0 n) in
    record {
      given = g;
      each = rw e g.each;
      front = filling_start (take pool out) (rw (e, f) refl) (rw (rows, low) g.front);
      back = filling_start (drop pool out) (rw e refl) (rw length-drop (omega (arith, g.room)));
      len = refl;
    }

module _ {table : List ℕ} {n pool first : ℕ} {before : List ℕ} {at j : ℕ} {out : List ℕ} (h : Moving table n pool first before at j out) where
  pub moving_room : pool ≤ length out
  moving_room = omega (arith, h.given.room, h.len)

  pub moving_end : n ≤ j → out ≡ settled table n pool first before
  unfolding settled moved fetched_all
  moving_end p =
      let o = records-over before n j p in
      let f = filling_end (rw o at h.front) (omega arith) in
      let k = filling_end (rw o at h.back) (omega arith) in
      let rows : length (moved first (records_of before 0 n)) ≡ 24 * n = moved_length first (records_of before 0 n) ∙ ap (λ m. 24 * m) (records-length before 0 n) in
      let e : 24 * n + (pool - 24 * n) ≡ pool = omega (arith, h.given.front) in
      let gap : drop (24 * n) (take pool before) ≡ take (pool - 24 * n) (drop (24 * n) before) =
      ap (λ m. drop (24 * n) (take m before)) (sym e) ∙ drop-front (24 * n) (pool - 24 * n) before (omega (arith, h.given.front, h.given.room)) in
      sym (take-append-drop pool out) ∙ rw (f.is, k.is, rows, gap) (append_assoc (moved first (records_of before 0 n)) _ _)

  pub moving_record : j < n → j < length (take (pool - 0) out) / 24
  moving_record p = let o = moving_room in let z : length (take (pool - 0) out) ≡ pool - 0 = length-take-le (pool - 0) out (omega arith) in omega (arith, h.given.front)

  module _ (p : j < n) {r : Record} (e : r ≡ record_at (take (pool - 0) out) j) where
    fits : 24 * j + 24 ≤ pool
    fits = omega (arith, h.given.front)

    here : r ≡ record_at before j
    here =
        let z : pool - 0 ≡ pool = omega arith in
        e ∙ rw z (record_same (take pool out) before j (ap (take 24) h.front.past ∙ take_within (24 * j) 24 pool before fits))

    next : records_of before j (n - j) ≡ r ∷ records_of before (j + 1) (n - (j + 1))
    next = rw here (records_turn before n j p)

    rests : AsLong table r × Every (AsLong table) (records_of before (j + 1) (n - (j + 1)))
    unfolding Every
    rests = rw next at h.each

    text-next : Filling (fetched_all table (records_of before 0 n)) (fetched table r ++ fetched_all table (records_of before (j + 1) (n - (j + 1)))) at (drop pool before) (drop pool out)
    unfolding fetched_all
    text-next = rw next at h.back

    record-next : Filling (moved first (records_of before 0 n)) (packed (placed r (first + at)) ++ moved (first + at + r.len) (records_of before (j + 1) (n - (j + 1)))) (24 * j) (take pool before) (take pool out)
    unfolding moved
    record-next = rw next at h.front

    pub moving_pool : pool + at + length (fetched table r) ≤ length out
    moving_pool = omega (arith, filling_left text-next, length-append (fetched table r) (fetched_all table (records_of before (j + 1) (n - (j + 1)))), h.given.room, h.len)

    pub moving_fits : length (fetched table r) ≤ length (lent (pool + at) out)
    moving_fits = let m = moving_pool in simp (length-take, length-drop) (omega arith)

    module _ {k : ℕ} {ys : List ℕ} (w : Wrote (fetched table r) (lent (pool + at) out) ys k) where
      -- both parts with the text put
      abbrev texted : List ℕ
      texted = spliced (pool + at) (fetched table r) out

      texted-length : length texted ≡ length out
      texted-length = splice_length (pool + at) (fetched table r) out moving_pool

      mid : returned (pool + at) out ys ≡ texted
      mid = returned-spliced (pool + at) (fetched table r) out moving_pool w

      module _ {s : Record} (q : s ≡ placed r (first + at)) where
        pub moving_packs : length (packed s) ≤ length (lent (24 * j) (returned (pool + at) out ys))
        moving_packs = rw (mid, length-take, length-drop, texted-length, packed-length s) (omega (arith, fits, moving_room))

        -- and with the record put
        abbrev turned : List ℕ
        turned = spliced (24 * j) (packed s) texted

        inside : 24 * j + length (packed s) ≤ pool
        inside = rw (packed-length s) fits

        wide : pool ≤ length texted
        wide = rw texted-length moving_room

        front-turned : Filling (moved first (records_of before 0 n)) (moved (first + (at + k)) (records_of before (j + 1) (n - (j + 1)))) (24 * (j + 1)) (take pool before) (take pool turned)
        front-turned =
            let is : take pool turned ≡ spliced (24 * j) (packed s) (take pool out) =
            front-takes pool texted wide (24 * j) (packed s) inside ∙ ap (spliced (24 * j) (packed s)) (back_leaves pool out moving_room at (fetched table r)) in
            let low : length (take pool out) ≡ pool = length-take-le pool out moving_room in
            let to : 24 * (j + 1) ≡ 24 * j + length (packed s) = omega (arith, packed-length s) in
            let on : first + (at + k) ≡ first + at + r.len = omega (arith, w.count, rests.0) in
            rw (is, to, on) (filling_spliced (packed s) _ (rw low inside) (rw q record-next))

        back-turned : Filling (fetched_all table (records_of before 0 n)) (fetched_all table (records_of before (j + 1) (n - (j + 1)))) (at + k) (drop pool before) (drop pool turned)
        back-turned =
            let is : drop pool turned ≡ spliced at (fetched table r) (drop pool out) =
            front_leaves pool texted wide (24 * j) (packed s) inside ∙ back-takes pool out moving_room at (fetched table r) in
            rw (is, w.count) (filling_spliced (fetched table r) _ (rw length-drop (omega (arith, moving_pool))) text-next)

        pub moving_turn : {m : ℕ} {zs : List ℕ} → Wrote (packed s) (lent (24 * j) (returned (pool + at) out ys)) zs m
            → Moving table n pool first before (at + k) (j + 1) (returned (24 * j) (returned (pool + at) out ys) zs)
        moving_turn {m} {zs} v =
            let is : returned (24 * j) (returned (pool + at) out ys) zs ≡ turned =
            returned-spliced (24 * j) (packed s) (returned (pool + at) out ys) (rw (mid, texted-length) (omega (arith, inside, moving_room))) v ∙ ap (spliced (24 * j) (packed s)) mid in
            let same : length turned ≡ length before = splice_length (24 * j) (packed s) texted (omega (arith, inside, wide)) ∙ texted-length ∙ h.len in
            rw is (record { given = h.given; each = rests.1; front = front-turned; back = back-turned; len = same })

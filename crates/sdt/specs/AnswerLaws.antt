-- What each step of the code shows of its answer: the tests, the sizes, the sealing, the outcome.
-- Assumes nothing.
use Rattle.std.specs.Prelude.{◌≡◌, Bool, ℕ, ◌+◌, ◌-◌, ◌≤◌, ◌<◌, ltb, length, take, drop, set, get_or, Ok, Err}
use Rattle.std.proofs.Math.Path.{refl}
use Rattle.std.proofs.Common.{sym, ap, ap₂, ◌∙◌, arith, length-append, length-take, length-drop, take-append-drop, drop_of_length-le, drop-drop, take_at, drop_at, length-take-le, drop-cons, length-set, set-set, get_or-set_same, take_all}
use Rattle.std.proofs.Math.Bool.{true, false, cond}
use mathlib.Core.List.{List, [], ◌∷◌, ◌++◌, append_assoc, append-nil}
use Rattle.std.proofs.Math.Dec.{leb→le}
use Rattle.std.proofs.lemmas.List.{length-replicate, take-append-le, drop-append-le, set_at}
use borrow.Author.Tests.{lt-ltb, le-ltb}
use Rattle.octets.specs.Bytes.{le}
use Rattle.octets.specs.Laws.{le-length}
use Rattle.octets.specs.Filling.{Wrote, lent, returned, Filling, wrote-length, last-wrote}
use Rattle.octets.specs.Tests.{and_left, and_right, true_test}
use Rattle.sdt.specs.TableLaws.{measured-is, sealed-is, measured-length, sealed-length}
use Rattle.octets.specs.Sum.{byte_sum, negated}
use Rattle.sdt.specs.Table.{measured, sealed, new_table, appended, overwritten, opened}
use Rattle.sdt.specs.Edit.{Outcome, refused, accepted, sound, writable, sized, new_of, append_of, write_of, edit_said, largest_table, Left}
use Rattle.sdt.specs.Answer.{Sealed, zeros, size_number, header}
use Rattle.sdt.specs.declared.Sdt.{Sdt}
use Rattle.refusal.specs.declared.Refusal.{Refusal}
use Rattle.refusal.specs.declared.Refusal.TheVariants.{BadTable, WriteOutside}
use Rattle.refusal.specs.Number.{number}
use Rattle.refusal.specs.NumberLaws.{number-positive}

-- ── The sealing
pub sealing : {t ys : List ℕ} {r c : ℕ} → 10 ≤ length t → Wrote (le 4 (length t)) (take 4 (drop 4 t)) ys r
    → c ≡ negated (byte_sum (set (take 4 t ++ (ys ++ drop 4 (drop 4 t))) 9 0))
    → Sealed t (record { length = length t; checksum = c }) (set (set (take 4 t ++ (ys ++ drop 4 (drop 4 t))) 9 0) 9 c)
sealing {t} {ys} {r} {c} h w e =
    let none : drop 4 (take 4 (drop 4 t)) ≡ [] = drop_of_length-le (take 4 (drop 4 t)) {i = 4} (rw length-take (omega arith)) in
    let y : ys ≡ le 4 (length t) = w.is ∙ rw (le-length 4 (length t), none) (append-nil _) in
    let m : take 4 t ++ (ys ++ drop 4 (drop 4 t)) ≡ measured t = rw (y, drop-drop 4 4 t) (measured-is t) in
    let e' : c ≡ negated (byte_sum (set (measured t) 9 0)) = rw m at e in
    let s : set (measured t) 9 c ≡ sealed t = rw e' (sealed-is t) in
    rw m (record {
      is = set-set (measured t) 9 0 c ∙ s;
      length = refl;
      checksum = sym (get_or-set_same (measured t) 9 c 0 (rw (measured-length t (omega arith)) (omega arith))) ∙ ap (λ (l : List ℕ). get_or l 9 0) s;
    })

pub field_fits : (t : List ℕ) → 10 ≤ length t → length (le 4 (length t)) ≤ length (take 4 (drop 4 t))
field_fits t h = rw (le-length, length-take, length-drop) (omega arith)

-- ── The outcome
module _ (t : Sdt) (b : List ℕ) where
  pub left-refused : (e : Refusal) {o : Outcome} → o ≡ refused (number e) t b → Left (edit_said t (Err e)) b o
  unfolding refused
  left-refused e h = rw h (record { number = refl; table = refl; is = refl })

  module _ (new : List ℕ) (n : ℕ) where
    pub sized-refused : (e : Refusal) → number e ≡ size_number n (length b) → Left (edit_said t (Err e)) b (sized n new t b)
    unfolding size_number sized refused
    sized-refused e = both (ltb 268435455 n) (ltb (length b) n)
      where
        both : (p q : Bool) → number e ≡ cond p 12 (cond q 14 0)
            → Left (edit_said t (Err e)) b (cond p (record { number = 12; table = t; buffer = b }) (cond q (record { number = 14; table = t; buffer = b }) (accepted new b)))
        both true q u = record { number = u; table = refl; is = refl }
        both false true u = record { number = u; table = refl; is = refl }
        both false false u = absurd (omega (arith, number-positive e))

    sized-is : n ≤ largest_table → n ≤ length b → sized n new t b ≡ accepted new b
    unfolding sized
    sized-is p q = rw (le-ltb 268435455 n p, le-ltb (length b) n q) refl

-- ── bs was laid over b, and its n bytes were sealed
module _ {b bs out : List ℕ} {n : ℕ} (w : Wrote bs b out n) where
  front_is : take n out ≡ bs
  front_is = rw w.is (take_at bs (drop (length bs) b) n (sym w.count))

  module _ (h : 10 ≤ n) {r : Sdt} {ys : List ℕ} (d : Sealed (take n out) r ys) where
    pub front-sealed : Wrote (sealed bs) b (ys ++ drop n out) n
    front-sealed =
        let g : drop n out ≡ drop n b = rw w.is (drop_at bs (drop (length bs) b) n (sym w.count) ∙ ap (λ (i : ℕ). drop i b) (sym w.count)) in
        let l : length (sealed bs) ≡ n = sealed-length bs (omega (arith, w.count)) ∙ sym w.count in
        record { count = sym l; is = rw (rw front_is at d.is, g, l) refl }

    pub sized-done : (t : Sdt) → n ≤ largest_table → n ≤ length b → Left (edit_said t (Ok r)) (ys ++ drop n out) (sized n (sealed bs) t b)
    unfolding accepted
    sized-done t m k =
        let p : Sealed bs r ys = rw front_is at d in
        let o = front-sealed in
        rw (sized-is t b (sealed bs) n m k) (record {
          number = refl;
          table = ap₂ {C = Sdt} (λ (x c : ℕ). record { length = x; checksum = c }) (p.length ∙ sym w.count ∙ o.count) p.checksum;
          is = o.is;
        })

pub sealed-over : {r : Sdt} {b bs out ys : List ℕ} {n : ℕ} → 10 ≤ n → Wrote bs b out n → Sealed (take (n - 0) out) r ys → Wrote (sealed bs) b (ys ++ drop (n - 0) out) n
sealed-over {n = n} h w d = let zero : n - 0 ≡ n = omega arith in rw zero (front-sealed w h (rw zero at d))

module _ (t : Sdt) (b : List ℕ) (e : sound t b ≡ true) where
  pub sound-fits : (36 ≤ t.length) × (t.length ≤ length b)
  unfolding sound
  sound-fits =
      let s = true_test (sound t b) e in
      (leb→le 36 t.length (search (and_left, and_right) depth 10), leb→le t.length (length b) (search (and_left, and_right) depth 10))

-- ── New
pub header-length : (identity : List ℕ) → length identity ≡ 31 → length (header identity) ≡ 36
unfolding header
header-length identity h = simp (length-append, length-take, length-drop, le-length) (omega arith)

pub ruleset header_sizes = (header-length)

-- ys in the place of n bytes
abbrev placed : ℕ → ℕ → List ℕ → List ℕ → List ℕ
placed at n t ys = take at t ++ (ys ++ drop n (drop at t))

-- the two bytes behind the first eight, and then all that is left
two_set : (q d z : List ℕ) (x y v : ℕ) → length q ≡ 8 → length d ≡ 26 → placed 10 26 (set (set (q ++ (x ∷ y ∷ d)) 8 v) 9 0) z ≡ q ++ (v ∷ 0 ∷ z)
two_set q d z x y v l m =
    let nine : length (q ++ (v ∷ [])) ≡ 9 = simp length-append (omega arith) in
    let ten : length (q ++ (v ∷ 0 ∷ [])) ≡ 10 = simp length-append (omega arith) in
    let e : set (q ++ (v ∷ y ∷ d)) 9 0 ≡ (q ++ (v ∷ 0 ∷ [])) ++ d =
    ap (λ (t : List ℕ). set t 9 0) (sym (append_assoc q (v ∷ []) (y ∷ d))) ∙ set_at (q ++ (v ∷ [])) y d 0 9 nine ∙ simp append_assoc in
    rw (set_at q x (y ∷ d) v 8 l, e, take_at (q ++ (v ∷ 0 ∷ [])) d 10 ten, drop_at (q ++ (v ∷ 0 ∷ [])) d 10 ten, drop_of_length-le d {i = 26} (omega arith), append-nil) (append_assoc q (v ∷ 0 ∷ []) z)

-- the header in a part of 36 bytes, field by field
pub header-placed : (identity h : List ℕ) → length identity ≡ 31 → length h ≡ 36
    → placed 10 26 (set (set (placed 4 4 (take 4 identity ++ drop 4 h) (zeros 4)) 8 (get_or identity 4 0)) 9 0) (drop 5 identity) ≡ header identity
unfolding header le
header-placed identity h l m =
    let four : length (take 4 identity) ≡ 4 = length-take-le 4 identity (omega arith) in
    let eight : length (take 4 identity ++ zeros 4) ≡ 8 = simp (length-append, length-replicate) (omega arith) in
    let behind : drop 8 h ≡ get_or h 8 0 ∷ get_or h 9 0 ∷ drop 10 h = rw (drop-cons h 8 0 (omega arith), drop-cons h 9 0 (omega arith)) refl in
    let start : placed 4 4 (take 4 identity ++ drop 4 h) (zeros 4) ≡ (take 4 identity ++ zeros 4) ++ (get_or h 8 0 ∷ get_or h 9 0 ∷ drop 10 h) =
    rw (take_at (take 4 identity) (drop 4 h) 4 four, drop_at (take 4 identity) (drop 4 h) 4 four, drop-drop 4 4 h, behind)
    (sym (append_assoc (take 4 identity) (zeros 4) (get_or h 8 0 ∷ get_or h 9 0 ∷ drop 10 h))) in
    ap (λ (t : List ℕ). placed 10 26 (set (set t 8 (get_or identity 4 0)) 9 0) (drop 5 identity)) start
    ∙ two_set (take 4 identity ++ zeros 4) (drop 10 h) (drop 5 identity) (get_or h 8 0) (get_or h 9 0) (get_or identity 4 0) eight (rw length-drop (omega arith))
    ∙ rw (drop-cons identity 4 0 (omega arith)) (append_assoc (take 4 identity) (zeros 4) (get_or identity 4 0 ∷ 0 ∷ drop 5 identity))

-- the same as the code has it: x, y and z are what the copies and the fill left in their parts
module _ (identity out : List ℕ) (l : length identity ≡ 31) (k : length (header identity) ≤ length out) where
  front-length : length (take 36 out) ≡ 36
  front-length = rw length-take (omega (arith, header-length identity l))

  abbrev fields : List ℕ → List ℕ → List ℕ
  fields x y = set (set (placed 4 4 (x ++ drop 4 (take 36 out)) y) 8 (get_or identity 4 0)) 9 0

  module _ {x y : List ℕ} (e : x ≡ take 4 identity) (f : y ≡ zeros (length (take 4 (drop 4 (x ++ drop 4 (take 36 out)))))) where
    zeros_four : y ≡ zeros 4
    zeros_four =
        let four : length (take 4 (drop 4 (x ++ drop 4 (take 36 out)))) ≡ 4 = rw e (simp (length-take, length-drop, length-append) (omega (arith, header-length identity l))) in
        rw (f, four) refl

    pub fields-length : length (fields x y) ≡ 36
    fields-length =
        rw (e, zeros_four) (simp (length-set, length-append, length-drop, length-take) (omega (arith, header-length identity l)))

    pub header-wrote : {z : List ℕ} → z ≡ take (length identity - 5) (drop 5 identity) → Wrote (header identity) out (placed 10 (length (fields x y) - 10) (fields x y) z ++ drop 36 out) 36
    header-wrote {z} g =
        let z' : z ≡ drop 5 identity = rw g (take_all (length identity - 5) (drop 5 identity) (rw length-drop (omega arith))) in
        rw (fields-length, z', e, zeros_four) (record {
          count = sym (header-length identity l);
          is = ap (λ (t : List ℕ). t ++ drop 36 out) (header-placed identity (take 36 out) l front-length) ∙ rw (header-length identity l) refl;
        })

pub new_parts : (identity : List ℕ) (m : ℕ) → opened identity (zeros m) ≡ header identity ++ zeros m
unfolding opened header le
new_parts identity m = simp append_assoc

pub opened-length : (identity : List ℕ) (n : ℕ) → length identity ≡ 31 → 36 ≤ n → length (opened identity (zeros (n - 36))) ≡ n
opened-length identity n h k = ap length (new_parts identity (n - 36)) ∙ simp (length-append, header-length identity h, length-replicate) (omega arith)

module _ (identity : List ℕ) (n : ℕ) (t : Sdt) (b : List ℕ) where
  pub new_under : n < 36 → Left (edit_said t (Err BadTable)) b (new_of identity n t b)
  unfolding new_of
  new_under h = left-refused t b BadTable (rw (lt-ltb n 36 h) refl)

  module _ (h : 36 ≤ n) where
    new_is : new_of identity n t b ≡ sized n (new_table identity n) t b
    unfolding new_of
    new_is = rw (le-ltb n 36 h) refl

    pub new_refused : (e : Refusal) → number e ≡ size_number n (length b) → Left (edit_said t (Err e)) b (new_of identity n t b)
    new_refused e z = rw new_is (sized-refused t b (new_table identity n) n e z)

-- the header, and zeros behind it
pub new-filled : (identity : List ℕ) {b out : List ℕ} {at n : ℕ} → length identity ≡ 31 → 36 ≤ n → Wrote (header identity) b out at
    → Wrote (opened identity (zeros (n - 36))) b (placed at (n - at) out (zeros (n - at))) n
new-filled identity {b} {out} {at} {n} l h w =
    let k = header-length identity l in
    let a : at ≡ 36 = w.count ∙ k in
    let o : out ≡ header identity ++ drop 36 b = w.is ∙ rw k refl in
    let s : 36 + (n - 36) ≡ n = omega arith in
    let front : take 36 (header identity ++ drop 36 b) ≡ header identity = take_at (header identity) (drop 36 b) 36 k in
    let rest : drop 36 (header identity ++ drop 36 b) ≡ drop 36 b = drop_at (header identity) (drop 36 b) 36 k in
    rw (a, o) (record {
      count = sym (opened-length identity n l h);
      is = rw (opened-length identity n l h, front, rest, drop-drop (n - 36) 36 b, s, new_parts identity (n - 36)) (sym (append_assoc (header identity) (zeros (n - 36)) (drop n b)));
    })

module _ (identity : List ℕ) {b out : List ℕ} {at n : ℕ} (l : length identity ≡ 31) (h : 36 ≤ n) (k : n ≤ length b) (w : Wrote (header identity) b out at) where
  pub new-done : {m : ℕ} {r : Sdt} {zs ys : List ℕ} → m ≡ n + 0 → m ≤ largest_table
      → zs ≡ zeros (length (take (m - at) (drop at out))) → Sealed (take m (placed at (m - at) out zs)) r ys
      → (t : Sdt) → Left (edit_said t (Ok r)) (ys ++ drop m (placed at (m - at) out zs)) (new_of identity n t b)
  unfolding new_table
  new-done {m} {r} {zs} {ys} e j z d t =
      let e' : m ≡ n = omega arith in
      let s : length out ≡ length b = wrote-length (rw (header-length identity l) (omega arith)) w in
      let u : length (take (n - at) (drop at out)) ≡ n - at = simp (length-take, length-drop) (omega arith) in
      let f : zs ≡ zeros (n - at) = rw (z, e', u) refl in
      let i : n ≤ largest_table = omega arith in
      rw (new_is identity n t b h, e', f) (sized-done (new-filled identity l h w) (omega arith) (rw (e', f) at d) t i k)

-- ── Append
module _ (t : Sdt) (b piece : List ℕ) where
  pub append_unsound : sound t b ≡ false → Left (edit_said t (Err BadTable)) b (append_of t b piece)
  unfolding append_of
  append_unsound e = left-refused t b BadTable (rw e refl)

  module _ (s : sound t b ≡ true) where
    append-is : append_of t b piece ≡ sized (t.length + length piece) (appended (take t.length b) piece) t b
    unfolding append_of
    append-is = rw s refl

    pub append-refused : (e : Refusal) → number e ≡ size_number (t.length + length piece) (length b) → Left (edit_said t (Err e)) b (append_of t b piece)
    append-refused e z = rw append-is (sized-refused t b (appended (take t.length b) piece) (t.length + length piece) e z)

    module _ (k : t.length + length piece ≤ length b) where
      append_filling : Filling (take t.length b ++ piece) piece t.length b b
      append_filling =
          let (p, q) = sound-fits t b s in
          record { bytes = refl; past = refl; len = refl; within = q; room = simp (length-append, length-take-le t.length b q) k }

      module _ {zs : List ℕ} {m : ℕ} (w : Wrote piece (lent t.length b) zs m) where
        pub append-done : {r : Sdt} {ys : List ℕ} {n : ℕ} → n ≡ t.length + length piece → n ≤ largest_table → Sealed (take n (returned t.length b zs)) r ys
            → Left (edit_said t (Ok r)) (ys ++ drop n (returned t.length b zs)) (append_of t b piece)
        unfolding appended
        append-done e l d =
            let (p, q) = sound-fits t b s in
            rw (append-is, e) (sized-done (rw w.count at (last-wrote append_filling w)) (omega arith) (rw e at d) t (omega arith) k)

-- ── Write
pub writable-fits : (n offset k : ℕ) → writable n offset k ≡ true → offset + k ≤ n
unfolding writable
writable-fits n offset k e =
    let s = true_test (writable n offset k) e in
    leb→le (offset + k) n (search and_left depth 10)

pub overwritten_in : (t z piece : List ℕ) (offset : ℕ) → offset + length piece ≤ length t → {zs : List ℕ} {m : ℕ} → Wrote piece (lent offset (t ++ z)) zs m
    → returned offset (t ++ z) zs ≡ (take offset t ++ (piece ++ drop (offset + length piece) t)) ++ z
overwritten_in t z piece offset h {zs} {m} w =
    let all : take (length (t ++ z) - offset) (drop offset (t ++ z)) ≡ drop offset (t ++ z) = take_all (length (t ++ z) - offset) (drop offset (t ++ z)) (rw length-drop (omega arith)) in
    let none : drop (length (t ++ z) - offset) (drop offset (t ++ z)) ≡ [] = drop_of_length-le (drop offset (t ++ z)) {i = length (t ++ z) - offset} (rw length-drop (omega arith)) in
    let e : zs ≡ piece ++ (drop (offset + length piece) t ++ z) = w.is ∙ rw all (rw (drop-drop (length piece) offset (t ++ z), drop-append-le (offset + length piece) t z h) refl) in
    rw (none, e, take-append-le offset t z (omega arith)) (simp (append-nil, append_assoc))

module _ (t : Sdt) (b : List ℕ) (offset : ℕ) (piece : List ℕ) where
  pub write_unsound : sound t b ≡ false → Left (edit_said t (Err BadTable)) b (write_of t b offset piece)
  unfolding write_of
  write_unsound e = left-refused t b BadTable (rw e refl)

  module _ (s : sound t b ≡ true) where
    pub write_unwritable : writable t.length offset (length piece) ≡ false → Left (edit_said t (Err WriteOutside)) b (write_of t b offset piece)
    unfolding write_of
    write_unwritable e = left-refused t b WriteOutside (rw (s, e) refl)

    module _ (f : writable t.length offset (length piece) ≡ true) where
      write_is : write_of t b offset piece ≡ sized t.length (overwritten (take t.length b) offset piece) t b
      unfolding write_of
      write_is = rw (s, f) refl

      pub write_refused : (e : Refusal) → number e ≡ size_number t.length (length b) → Left (edit_said t (Err e)) b (write_of t b offset piece)
      write_refused e z = rw write_is (sized-refused t b (overwritten (take t.length b) offset piece) t.length e z)

      module _ {zs : List ℕ} {m : ℕ} (w : Wrote piece (lent offset b) zs m) where
        abbrev table : List ℕ
        table = take t.length b

        written : Wrote (take offset table ++ (piece ++ drop (offset + length piece) table)) b (returned offset b zs) t.length
        written =
            let (p, q) = sound-fits t b s in
            let g = writable-fits t.length offset (length piece) f in
            let l : length table ≡ t.length = length-take-le t.length b q in
            let c : length (take offset table ++ (piece ++ drop (offset + length piece) table)) ≡ t.length = simp (length-append, length-take, length-drop) (omega arith) in
            let joined = take-append-drop t.length b in
            let laid_in = overwritten_in table (drop t.length b) piece offset (rw l g) {zs = zs} {m = m} (rw joined w) in
            record { count = sym c; is = rw c (ap (λ (x : List ℕ). returned offset x zs) (sym joined) ∙ laid_in) }

        pub write_done : {r : Sdt} {ys : List ℕ} {n : ℕ} → n ≡ t.length → n ≤ largest_table → Sealed (take n (returned offset b zs)) r ys
            → Left (edit_said t (Ok r)) (ys ++ drop n (returned offset b zs)) (write_of t b offset piece)
        unfolding overwritten
        write_done e l d = let (p, q) = sound-fits t b s in rw (write_is, e) (sized-done written (omega arith) (rw e at d) t (omega arith) q)

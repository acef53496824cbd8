-- The table: header and terms in a row, then sealed; and what the code answers by the figures that it has measured.
-- Assumes nothing.
use Rattle.std.specs.Prelude.{◌≡◌, Bool, ℕ, ◌+◌, ◌≤◌, ◌<◌, length, Result, Ok, Err}
use Rattle.std.proofs.Common.{refl, sym, ap, ◌∙◌, arith, length-append, eq-eqb, ne_eqb, lt-ltb, le-ltb}
use mathlib.Core.List.{List, [], ◌∷◌, flatten, append_assoc, append-nil}
use Rattle.refusal.specs.declared.Fault.{Fault}
use Rattle.refusal.specs.declared.Refusal.{Refusal}
use Rattle.refusal.specs.declared.Refusal.TheVariants.{OutputShort}
use Rattle.refusal.specs.Number.{number}
use Rattle.refusal.specs.NumberLaws.{number-positive}
use Rattle.octets.specs.Bytes.{le}
use Rattle.octets.specs.Filling.{Wrote, Parts, Writing, writing_start, writing_fits, wrote-length, lent}
use Rattle.sdt.specs.Table.{opened, sealed}
use Rattle.sdt.specs.TableLaws.{sealed-length}
use Rattle.sdt.specs.Answer.{header}
use Rattle.sdt.specs.AnswerLaws.{header-length}
use Rattle.term.specs.declared.File.{File}
use Rattle.term.specs.LaidOut.{Sections}
use Rattle.checker.specs.Refusal.{verdict, refusal_of}
use Rattle.encode.specs.Encode.{refused_by, handed, encode_of, Answered}
use Rattle.encode.specs.Walk.{Part}
use Rattle.encode.specs.WalkLaws.{Measured, Room}
use Rattle.encode.specs.Sound.{Sound}
use Rattle.encode.specs.Answer.{whole, figures_number, number_of, walked, figures_small}
use Rattle.encode.specs.AcceptLaws.{Bytes, pool-few, passed, identity-length, accepted-sound}
use Rattle.encode.specs.LateLaws.{encode_accepted}

-- ── Header and terms
opened-parts : (id bs : List ℕ) → Parts (opened id bs) (header id ∷ bs ∷ [])
unfolding opened header flatten le
opened-parts id bs = record { is = simp (append_assoc, append-nil) }

opened-length : (id bs : List ℕ) → length id ≡ 31 → length (opened id bs) ≡ 36 + length bs
unfolding flatten
opened-length id bs h = ap length (opened-parts id bs).is ∙ simp (length-append, header-length id h) (omega arith)

-- a header and terms have room in the output, and are no more than a table may have
pub record TableRoom (id : List ℕ) (p : Part) (out : List ℕ) : Type 0 where
  pub own : length id ≡ 31
  pub fits : 36 + length p.bytes ≤ length out
  pub few : 36 + length p.bytes ≤ 268435455

module _ {id : List ℕ} {p : Part} {first : List ℕ} (r : TableRoom id p first) where
  pub table-start : Writing (opened id p.bytes) (header id ∷ p.bytes ∷ []) 0 first first
  table-start = writing_start first (opened-parts id p.bytes) (omega (arith, r.fits, opened-length id p.bytes r.own))

  pub table-room : {at : ℕ} {out : List ℕ} → Writing (opened id p.bytes) (p.bytes ∷ []) at first out → Room p (lent at out)
  table-room w = record { fits = writing_fits w; few = omega (arith, r.few) }

  -- what was laid out lies in the output, and is a table's size
  pub table-size : {out : List ℕ} {n : ℕ} → Wrote (opened id p.bytes) first out n → (n ≡ 36 + length p.bytes) × (n ≤ length out)
  table-size w = let e = opened-length id p.bytes r.own in (omega (arith, w.count), omega (arith, w.count, r.fits, wrote-length (omega (arith, r.fits)) w))

-- ── The answer, by the figures
module _ {p : Part} {records pool : List ℕ} {size n : ℕ} {deep : Bool} {next : ℕ} (m : Measured p records pool size n deep next) where
  number_is : figures_number n deep size ≡ number_of p
  number_is = rw (← m.counted, ← m.recorded, ← m.deepened) refl

  module _ (bs out : List ℕ) where
    -- 11, 12
    pub walked-refused : {r : Refusal} → number r ≡ figures_number n deep size → Answered (Err (record { refusal = r; index = 0 })) out (walked bs p out)
    unfolding walked refused_by
    walked-refused {r} h =
        let q = number-positive r in
        rw (sym number_is ∙ sym h, ne_eqb (number r) 0 (λ z. omega arith)) (record { answer = refl; output = refl })

    module _ (z : 0 ≡ figures_number n deep size) {s : ℕ} (l : length bs ≡ s) where
      -- 14
      pub walked-short : length out < s → Answered (Err (record { refusal = OutputShort; index = 0 })) out (walked bs p out)
      unfolding walked handed refused_by
      walked-short h = rw (eq-eqb (number_of p) 0 (sym (z ∙ number_is)), lt-ltb (length out) (length bs) (omega (arith, l))) (record { answer = refl; output = refl })

      pub walked-done : {ys : List ℕ} {r : ℕ} → s ≤ length out → Wrote bs out ys r → Answered (Ok r) ys (walked bs p out)
      unfolding walked handed
      walked-done h w = rw (eq-eqb (number_of p) 0 (sym (z ∙ number_is)), le-ltb (length out) (length bs) (omega (arith, l)), w.count) (record { answer = refl; output = w.is })

  module _ (id : List ℕ) (l : length id ≡ 31) where
    abbrev pub table_bytes : List ℕ
    table_bytes = sealed (opened id p.bytes)

    pub table-length : length table_bytes ≡ 36 + size
    table-length = let o = opened-length id p.bytes l in sealed-length (opened id p.bytes) (omega arith) ∙ omega (arith, o, m.counted)

    -- the table fits
    pub table_fits : (out : List ℕ) → 0 ≡ figures_number n deep size → 36 + size ≤ length out → TableRoom id p out
    table_fits out z h = record { own = l; fits = omega (arith, m.counted); few = omega (arith, m.counted, figures_small n deep size z) }

-- ── The sections of an accepted file
module _ (f : List ℕ) (v : verdict 0 0 ≡ refusal_of f) {s : File} (e : Sections f s) where
  pub own-identity : length s.identity.now ≡ 31
  own-identity = rw e.identity (identity-length f (passed f v))

  pub own-sound : Bytes f → Sound s.records.now s.pool.now
  own-sound h = rw (e.records, e.pool) (accepted-sound f (passed f v) (pool-few f h))

  pub own-answered : (first : List ℕ) {r : Result ℕ Fault} {out : List ℕ}
      → Answered r out (walked (sealed (opened s.identity.now (whole s.records.now s.pool.now).bytes)) (whole s.records.now s.pool.now) first) → Answered r out (encode_of f first)
  own-answered first h = rw (encode_accepted f first (passed f v)) (rw (e.identity, e.records, e.pool) at h)

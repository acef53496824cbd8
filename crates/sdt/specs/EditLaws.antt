-- Laws of the edits: a statement determines its answer, and what an accepted edit leaves is a table that the next edit takes.
-- Assumes nothing.
use Rattle.std.specs.Prelude.{◌≡◌, refl, Bool, true, false, not, cond, List, ◌++◌, ℕ, ◌+◌, ◌-◌, ◌≤◌, ◌<◌, ltb, take, drop, get_or, Result, Ok, Err}
use Rattle.std.proofs.Common.{sym, ap, ap₂, ◌∙◌, arith, length-append, length-drop, ltb-false, le-leb, eq-eqb}
use Rattle.std.proofs.Math.ListN.{length}
use Rattle.std.proofs.Math.Seq.{take-append_seam, length-take-le}
use Rattle.std.proofs.lemmas.Bool.{not-false}
use Rattle.sdt.specs.Table.{sealed, new_table, appended, overwritten, opened}
use Rattle.sdt.specs.TableLaws.{sealed-length, sealed-sums, sealed_field, sealed_byte, sealed-again, over, over-length}
use Rattle.sdt.specs.Edit.{Edit, edit_said, Outcome, refused, accepted, sound, writable, sized, new_of, append_of, write_of, Left, Leaves, Standing}
use Rattle.sdt.specs.Answer.{zeros}
use Rattle.sdt.specs.AnswerLaws.{sound-fits, writable-fits, opened-length}
use Rattle.sdt.specs.declared.Sdt.{Sdt}
use Rattle.refusal.specs.declared.Refusal.{Refusal}
use Rattle.refusal.specs.Number.{number_said}
use Rattle.refusal.specs.NumberLaws.{number-injective, number-positive, said_determined}

-- two answers to one call, to any of them, are equal: number, record, and every byte of the buffer
pub left_determined : {r s : Edit} {out last : List ℕ} {o : Outcome} → Left r out o → Left s last o → (r ≡ s) × (out ≡ last)
left_determined h k = (ap₂ {C = Edit} (λ (n : ℕ) (t : Sdt). record { number = n; table = t }) (h.number ∙ sym k.number) (h.table ∙ sym k.table), h.is ∙ sym k.is)

-- and so are two results: a number tells which refusal it is, and 0 that it is none
pub result_determined : (t : Sdt) {r s : Result Sdt Refusal} {out last : List ℕ} {o : Outcome} → Left (edit_said t r) out o → Left (edit_said t s) last o → (r ≡ s) × (out ≡ last)
result_determined t {r} {s} h k = (same r s (h.number ∙ sym k.number) (h.table ∙ sym k.table), h.is ∙ sym k.is)
  where
    same : (r s : Result Sdt Refusal) → (edit_said t r).number ≡ (edit_said t s).number → (edit_said t r).table ≡ (edit_said t s).table → r ≡ s
    same (Ok u) (Ok v) n e = ap Ok e
    same (Ok u) (Err e) n d = absurd (omega (arith, number-positive e))
    same (Err e) (Ok u) n d = absurd (omega (arith, number-positive e))
    same (Err d) (Err e) n q = ap Err (number-injective d e n)

-- of an edit in place: the result, the record and the buffer
pub stored_determined : {r s : Result (Unit {0}) Refusal} {t u : Sdt} {out last : List ℕ} {o : Outcome} → Leaves (number_said r) t out o → Leaves (number_said s) u last o
    → (r ≡ s) × (t ≡ u) × (out ≡ last)
stored_determined {r} {s} h k = (said_determined r s (h.number ∙ sym k.number), h.table ∙ sym k.table, h.is ∙ sym k.is)

pub accepted-sound : (t b : List ℕ) → 36 ≤ length t → length t ≤ 268435455 → length t ≤ length b → Standing (accepted (sealed t) b)
unfolding accepted sound
accepted-sound t b h m r =
    let n = sealed-length t (omega arith) in
    let rest : List ℕ = drop (length (sealed t)) b in
    let l : length (sealed t ++ drop (length (sealed t)) b) ≡ length b = simp (length-append, length-drop) (omega arith) in
    let f : take (length (sealed t)) (sealed t ++ drop (length (sealed t)) b) ≡ sealed t = take-append_seam (sealed t) _ in
    record {
      sound =
          rw (sealed_field t (omega arith) rest (omega arith), sealed_byte t (omega arith) rest, l, n, le-leb 36 (length t) h, le-leb (length t) (length b) r, eq-eqb (length t) (length t) refl)
          (eq-eqb (get_or (sealed t) 9 0) (get_or (sealed t) 9 0) refl);
      again = rw f (sealed-again t (omega arith));
      sums = rw f (sealed-sums t (omega arith));
    }

-- an outcome whose number is 0 is not the refusal
passed : (p : Bool) (n : ℕ) (t : Sdt) (b : List ℕ) (o : Outcome) → 0 < n → (cond p (refused n t b) o).number ≡ 0 → (p ≡ false → o.number ≡ 0 → Standing o) → Standing (cond p (refused n t b) o)
unfolding refused
passed true n t b o z e f = absurd (omega arith)
passed false n t b o z e f = f refl e

sized-sound : (s : List ℕ) (n : ℕ) (t : Sdt) (b : List ℕ) → length s ≡ n → 36 ≤ n → (sized n (sealed s) t b).number ≡ 0 → Standing (sized n (sealed s) t b)
unfolding sized
sized-sound s n t b l h e =
    passed (ltb 268435455 n) 12 t b _ (omega arith) e λ u w. passed (ltb (length b) n) 14 t b _ (omega arith) w λ v x.
    accepted-sound s b (omega arith) (omega (arith, ltb-false 268435455 n u)) (omega (arith, ltb-false (length b) n v))

-- by the calls
pub new_sound : (identity : List ℕ) (n : ℕ) (t : Sdt) (b : List ℕ) → length identity ≡ 31 → (new_of identity n t b).number ≡ 0 → Standing (new_of identity n t b)
unfolding new_of new_table
new_sound identity n t b l e =
    passed (ltb n 36) 20 t b _ (omega arith) e λ u w.
    let h = ltb-false n 36 u in
    sized-sound (opened identity (zeros (n - 36))) n t b (opened-length identity n l h) h w

module _ (t : Sdt) (b : List ℕ) where
  pub append-sound : (piece : List ℕ) → (append_of t b piece).number ≡ 0 → Standing (append_of t b piece)
  unfolding append_of appended
  append-sound piece e =
      passed (not (sound t b)) 20 t b _ (omega arith) e λ u w.
      let (x, y) = sound-fits t b (not-false (sound t b) u) in
      sized-sound (take t.length b ++ piece) (t.length + length piece) t b (simp (length-append, length-take-le t.length b y)) (omega arith) w

  pub write_sound : (offset : ℕ) (piece : List ℕ) → (write_of t b offset piece).number ≡ 0 → Standing (write_of t b offset piece)
  unfolding write_of overwritten
  write_sound offset piece e =
      passed (not (sound t b)) 20 t b _ (omega arith) e λ u w. passed (not (writable t.length offset (length piece))) 23 t b _ (omega arith) w λ v z.
      let (x, y) = sound-fits t b (not-false (sound t b) u) in
      let l = length-take-le t.length b y in
      let f = writable-fits t.length offset (length piece) (not-false _ v) in
      sized-sound (over offset piece (take t.length b)) t.length t b (over-length offset piece (take t.length b) (rw l f) ∙ l) x z

-- How the program's code meets its definition: decimal digits as the kit writes them, the room that lines take, what encoding leaves; and
-- that of longer input the first 65,537 bytes are enough to know.
use Rattle.std.specs.Prelude.{◌≡◌, refl, Bool, true, false, not, cond, ℕ, zero, suc, ◌+◌, ◌-◌, ◌*◌, ◌/◌, ◌%◌, ◌^◌, ◌≤◌, ◌<◌, eqb, ltb, length, take, drop, Result, Ok, Err}
use Rattle.std.proofs.Math.Path.{sym}
use Rattle.std.proofs.Common.{ap, ◌∙◌, arith, pow-suc, length-append, length-take, pow-add, take_at, take_all, ne_eqb, eq-eqb, lt-ltb, le-ltb, ltb-true, ltb-false}
use mathlib.Core.List.{List, [], ◌∷◌, ◌++◌, flatten, append-nil}
use Rattle.std.proofs.lemmas.List.{length-replicate}
use Rattle.io.specs.Digits as io
use Rattle.octets.specs.Filling.{Wrote, wrote-length, Writing, writing_start}
use Rattle.refusal.specs.declared.Refusal.{Refusal}
use Rattle.refusal.specs.declared.Refusal.TheVariants.{OutputShort}
use Rattle.refusal.specs.declared.Fault.{Fault}
use Rattle.refusal.specs.Number.{number}
use Rattle.refusal.specs.NumberLaws.{number-injective, number-positive}
use Rattle.tree.specs.Normal.{norm}
use Rattle.term.specs.File.{identity}
use Rattle.checker.specs.Refusal.{refusal_of}
use Rattle.checker.specs.Described.{forest_of}
use Rattle.encode.specs.Encode.{Answer, table_of, late_number, Outcome, refused_by, handed, described, outcome_of, encode_of, Answered}
use Rattle.encode_main.specs.Program.{digits, decimal, size_line, refused_word, at_word, refused_line, line_of, printed, empty_output, program_of}

-- ── Decimal
power_positive : (r : ℕ) → 1 ≤ 10 ^ r
power_positive zero = omega arith
power_positive (suc r) = omega (arith, pow-suc 10 r, power_positive r)

-- r + 1 digits as the kit has them, of which the first is not 0 where there are two or more
digits_are : (r k n : ℕ) → r < k → n < 10 ^ suc r → (1 ≤ r → 10 ^ r ≤ n) → io.last_digits 10 (suc r) n ≡ digits k n
unfolding digits
digits_are zero zero n h u l = absurd (omega arith)
digits_are zero (suc k) n h u l = rw (lt-ltb n 10 (omega arith), lt-ltb (n % 10) 10 (omega arith)) refl
digits_are (suc r) zero n h u l = absurd (omega arith)
digits_are (suc r) (suc k) n h u l =
    let p = pow-suc 10 r in
    let q = pow-suc 10 (suc r) in
    let least : 10 ^ suc r ≤ n = l (omega arith) in
    let one = power_positive r in
    let below : n / 10 < 10 ^ suc r = omega arith in
    let above : 10 ^ r ≤ n / 10 = omega arith in
    rw (le-ltb n 10 (omega arith), lt-ltb (n % 10) 10 (omega arith), digits_are r k (n / 10) (omega arith) below (λ _. above)) refl

few-digits : (n r : ℕ) → n < 2 ^ 64 → (1 ≤ r → 10 ^ r ≤ n) → r < 20
few-digits n r h l = by (ltb r 20) refl
  where
    by : (b : Bool) → ltb r 20 ≡ b → r < 20
    by true e = ltb-true r 20 e
    by false e =
        let many = ltb-false r 20 e in
        let more : r ≡ 20 + (r - 20) = omega arith in
        let large : 10 ^ r ≡ 10 ^ 20 * 10 ^ (r - 20) = ap (λ (k : ℕ). 10 ^ k) more ∙ pow-add 10 20 (r - 20) in
        absurd (omega (arith, power_positive (r - 20), l (omega arith)))

pub decimal-is : (n r : ℕ) → n < 2 ^ 64 → io.IsDigitCount 10 1 n r → io.last_digits 10 r n ≡ decimal n
decimal-is n zero h f = absurd (omega arith)
decimal-is n (suc r) h f =
    let e : suc r - 1 ≡ r = omega arith in
    let least : 1 ≤ r → 10 ^ r ≤ n = λ p. rw e at (f.2 (omega arith)) in
    digits_are r 20 n (few-digits n r h least) f.1 least

digits-most : (k n : ℕ) → length (digits k n) ≤ k
unfolding digits
digits-most zero n = omega arith
digits-most (suc k) n = by (ltb n 10) (digits k (n / 10)) (48 + n % 10) (digits-most k (n / 10))
  where
    by : (b : Bool) (d : List ℕ) (x : ℕ) → length d ≤ k → length (cond b [] d ++ (x ∷ [])) ≤ suc k
    by true d x h = omega arith
    by false d x h = rw length-append (omega arith)

-- ── Lines
pub refused-start : (number index : ℕ) (first : List ℕ) → length (refused_line number index) ≤ length first
    → Writing (refused_line number index) (refused_word ∷ decimal number ∷ at_word ∷ decimal index ∷ (10 ∷ []) ∷ []) 0 first first
unfolding refused_line flatten
refused-start number index first room = writing_start first (record { is = rw append-nil refl }) room

line_size : (number index : ℕ) → number ≡ 14 → line_of number index ≡ size_line
unfolding line_of
line_size number index e = rw (eq-eqb number 14 e) refl

line_refused : (number index : ℕ) → (number ≡ 14 → ⊥) → line_of number index ≡ refused_line number index
unfolding line_of
line_refused number index z = rw (ne_eqb number 14 z) refl

-- by the refusal
pub line_short : (r : Refusal) (index : ℕ) → r ≡ OutputShort → line_of (number r) index ≡ size_line
line_short r index e = line_size (number r) index (ap number e)

pub line_other : (r : Refusal) (index : ℕ) {k : ℕ} → (r ≡ OutputShort → ⊥) → k ≡ number r → line_of (number r) index ≡ refused_line k index
line_other r index n e = rw e (line_refused (number r) index (λ f. n (number-injective r OutputShort f)))

-- two numbers of 20 digits, and 13 bytes around them
line_most : (number index : ℕ) → length (line_of number index) ≤ 53
unfolding line_of refused_line
line_most number index = by (eqb number 14)
  where
    by : (b : Bool) → length (cond b size_line (refused_line number index)) ≤ 53
    by true = omega arith
    by false = simp length-append (omega (arith, digits-most 20 number, digits-most 20 index))

-- ── What encoding leaves, and what of it is printed
pub record Kept (o : Outcome) (out : List ℕ) : Type 0 where
  pub accepted : o.answer.number ≡ 0 → Wrote (printed o) out o.output o.answer.length
  pub refused : (o.answer.number ≡ 0 → ⊥) → o.output ≡ out
  pub room : 53 ≤ length out → length (printed o) ≤ length out

kept-refused : (number index : ℕ) (out : List ℕ) → Kept (refused_by number index out) out
unfolding refused_by printed
kept-refused number index out =
    record {
      accepted = λ e. rw (eq-eqb number 0 e) (record { count = refl; is = refl });
      refused = λ _. refl;
      room = λ h. by (eqb number 0) h;
    }
  where
    by : (b : Bool) → 53 ≤ length out → length (cond b [] (line_of number index)) ≤ length out
    by true h = omega arith
    by false h = omega (arith, line_most number index)

kept-handed : (bs out : List ℕ) → Kept (handed bs out) out
unfolding handed printed
kept-handed bs out = by (ltb (length out) (length bs)) refl
  where
    table : Outcome
    table = record { answer = record { number = 0; index = 0; length = length bs }; output = bs ++ drop (length bs) out }

    printed-whole : take (length bs) (bs ++ drop (length bs) out) ≡ bs
    printed-whole = take_at bs (drop (length bs) out) (length bs) refl

    whole : length bs ≤ length out → Kept table out
    whole h =
        record {
          accepted = λ _. rw printed-whole (record { count = refl; is = refl });
          refused = λ z. absurd (z refl);
          room = λ _. rw printed-whole h;
        }

    by : (b : Bool) → ltb (length out) (length bs) ≡ b → Kept (cond b (refused_by 14 0 out) table) out
    by true e = kept-refused 14 0 out
    by false e = whole (ltb-false (length out) (length bs) e)

-- the output's bytes do not matter, only how many there are
printed-refused : (number index : ℕ) (out out' : List ℕ) → printed (refused_by number index out) ≡ printed (refused_by number index out')
unfolding printed refused_by
printed-refused number index out out' = refl

printed-handed : (bs out out' : List ℕ) → length out ≡ length out' → printed (handed bs out) ≡ printed (handed bs out')
unfolding handed printed
printed-handed bs out out' e = rw e (by (ltb (length out') (length bs)))
  where
    table : List ℕ → Outcome
    table first = record { answer = record { number = 0; index = 0; length = length bs }; output = bs ++ drop (length bs) first }

    by : (b : Bool) → printed (cond b (refused_by 14 0 out) (table out)) ≡ printed (cond b (refused_by 14 0 out') (table out'))
    by true = printed-refused 14 0 out out'
    by false = take_at bs (drop (length bs) out) (length bs) refl ∙ sym (take_at bs (drop (length bs) out') (length bs) refl)

-- what holds of refusals and of bytes that are handed over holds of encoding; here of two outputs at once
module _ (R : Outcome → Outcome → Type 0) where
  either : (b : Bool) {x x' y y' : Outcome} → R x x' → R y y' → R (cond b x y) (cond b x' y')
  either true h k = h
  either false h k = k

  outcome_by : (f out out' : List ℕ) → ((number index : ℕ) → R (refused_by number index out) (refused_by number index out'))
      → ((bs : List ℕ) → R (handed bs out) (handed bs out')) → R (encode_of f out) (encode_of f out')
  unfolding encode_of outcome_of
  outcome_by f out out' r h =
      let late = late_number (norm (described (forest_of f))) in
      either (not (eqb (refusal_of f).number 0)) (r (refusal_of f).number (refusal_of f).index)
      (either (not (eqb late 0)) (r late 0) (h (table_of (identity f) (described (forest_of f)))))

kept_encode : (f out : List ℕ) → Kept (encode_of f out) out
kept_encode f out = outcome_by (λ o o'. Kept o out) f out out (λ n i. kept-refused n i out) (λ bs. kept-handed bs out)

printed_encode : (f out out' : List ℕ) → length out ≡ length out' → printed (encode_of f out) ≡ printed (encode_of f out')
printed_encode f out out' e =
    outcome_by (λ o o'. printed o ≡ printed o') f out out' (λ n i. printed-refused n i out out') (λ bs. printed-handed bs out out' e)

-- ── The program
pub program_long : (f : List ℕ) → 65536 < length f → program_of f ≡ line_of 14 0
unfolding program_of line_of
program_long f h = rw (lt-ltb 65536 (length f) h) refl

empty_length : length empty_output ≡ 65536
unfolding empty_output
empty_length = length-replicate {A = ℕ} 65536 0

program_most : (f : List ℕ) → length (program_of f) ≤ 65536
unfolding program_of
program_most f = by (ltb 65536 (length f))
  where
    by : (b : Bool) → length (cond b size_line (printed (encode_of f empty_output))) ≤ 65536
    by true = omega arith
    by false = omega (arith, (kept_encode f empty_output).room (omega (arith, empty_length)), empty_length)

-- and so it lies in the output
pub program_within : (f : List ℕ) {first out : List ℕ} {r : ℕ} → Wrote (program_of f) first out r → 65536 ≡ length first → r ≤ length out
program_within f {first} {out} {r} w e =
    let m = program_most f in
    omega (arith, wrote-length {first = first} (omega arith) w, w.count)

-- reading one byte more than a file may have is enough
pub program_prefix : (s : List ℕ) → program_of (take 65537 s) ≡ program_of s
program_prefix s = by (ltb 65536 (length s)) refl
  where
    by : (b : Bool) → ltb 65536 (length s) ≡ b → program_of (take 65537 s) ≡ program_of s
    by true e =
        let h = ltb-true 65536 (length s) e in
        program_long (take 65537 s) (omega (arith, length-take 65537 s)) ∙ sym (program_long s h)
    by false e = let h = ltb-false 65536 (length s) e in ap program_of (take_all 65537 s (omega arith))

pub line_room : (number index : ℕ) (out : List ℕ) → length out ≡ 65536 → length (line_of number index) ≤ length out
line_room number index out e = omega (arith, line_most number index)

-- what is known when encoding has answered
pub record Tried (f out : List ℕ) (r : Result ℕ Fault) (out' : List ℕ) : Type 0 where
  pub small : length f ≤ 65536
  pub room : length out ≡ 65536
  pub answered : Answered r out' (encode_of f out)

pub tried_of : (f out : List ℕ) {r : Result ℕ Fault} {out' : List ℕ} → length f ≤ 65536 → length out ≡ 65536 → Answered r out' (encode_of f out) → Tried f out r out'
tried_of f out h e w = record { small = h; room = e; answered = w }

program_printed : {f out : List ℕ} {r : Result ℕ Fault} {out' : List ℕ} → Tried f out r out' → program_of f ≡ printed (encode_of f out)
unfolding program_of
program_printed {f} {out} h = rw (le-ltb 65536 (length f) h.small) (printed_encode f empty_output out (empty_length ∙ sym h.room))

pub program_accepted : {f out out' : List ℕ} {n : ℕ} → Tried f out (Ok n) out' → Wrote (program_of f) out out' n
program_accepted {f} {out} h =
    let w = (kept_encode f out).accepted (ap (λ (a : Answer). a.number) (sym h.answered.answer)) in
    rw (program_printed h, h.answered.output, ap (λ (a : Answer). a.length) h.answered.answer) w

module _ {f out : List ℕ} {fault : Fault} {out' : List ℕ} (h : Tried f out (Err fault) out') where
  abbrev refused : (encode_of f out).answer.number ≡ 0 → ⊥
  refused z = omega (arith, number-positive fault.refusal, ap (λ (a : Answer). a.number) h.answered.answer)

  program_same : out' ≡ out
  program_same = h.answered.output ∙ (kept_encode f out).refused refused

  program_line : program_of f ≡ line_of (number fault.refusal) fault.index
  unfolding printed
  program_line = program_printed h ∙ rw (ne_eqb (encode_of f out).answer.number 0 refused) (rw (← h.answered.answer) refl)

  pub program_room : length (line_of (number fault.refusal) fault.index) ≤ length out'
  program_room = rw program_same (line_room (number fault.refusal) fault.index out h.room)

  pub program_refused : {last : List ℕ} {r : ℕ} → Wrote (line_of (number fault.refusal) fault.index) out' last r → Wrote (program_of f) out last r
  program_refused w = rw (program_line, ← program_same) w

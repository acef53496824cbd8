-- How the code meets the records: at an index there is one and the rest, or none. Assumes nothing.
use Rattle.std.specs.Prelude.{◌≡◌, refl, ℕ, zero, suc, ◌+◌, ◌-◌, ◌*◌, ◌/◌, ◌%◌, ◌<◌, ◌≤◌, List, [], ◌∷◌, length}
use Rattle.std.proofs.Common.{ap, arith, add-one}
use Rattle.octets.specs.Bytes.{le_at}
use Rattle.octets.specs.Reading.{Digits, digits_low, digits-high}
use Rattle.term.specs.declared.Record.{Record}
use Rattle.term.specs.Record.{record_at, records_of, records_from}

step : (b : List ℕ) (i m n : ℕ) → m ≡ suc n → records_of b i m ≡ record_at b i ∷ records_of b (suc i) n
unfolding records_of
step b i m n e = rw e refl

pub records-more : (b : List ℕ) (i : ℕ) → i < length b / 24 → records_from b i ≡ record_at b i ∷ records_from b (i + 1)
unfolding records_from
records-more b i h = rw add-one (step b i (length b / 24 - i) (length b / 24 - suc i) (omega arith))

pub records-none : (b : List ℕ) (i : ℕ) → length b / 24 ≤ i → records_from b i ≡ []
unfolding records_from records_of
records-none b i h = let e : length b / 24 - i ≡ 0 = omega arith in rw e

pub records-length : (b : List ℕ) (i n : ℕ) → length (records_of b i n) ≡ n
unfolding records_of
records-length b i zero = refl
records-length b i (suc n) = ap suc (records-length b (suc i) n)

pub record-made : (b : List ℕ) (i : ℕ) {k a n x s l : ℕ} → k ≡ le_at 2 b (24 * i) → a ≡ le_at 2 b (24 * i + 2) → n ≡ le_at 4 b (24 * i + 4)
    → x ≡ le_at 8 b (24 * i + 8) → s ≡ le_at 4 b (24 * i + 16) → l ≡ le_at 4 b (24 * i + 20)
    → ◌≡◌ {A = Record} (record { kind = k; a = a; kids = n; x = x; start = s; len = l }) (record_at b i)
unfolding record_at
record-made b i e₁ e₂ e₃ e₄ e₅ e₆ = rw (e₁, e₂, e₃, e₄, e₅, e₆)

-- the same from three numbers of eight bytes, taken apart
pub record_parted : (b : List ℕ) (i : ℕ) {w x v : ℕ} → i < length b / 24 → Digits b (24 * i) 8 w → Digits b (24 * i + 8) 8 x → Digits b (24 * i + 16) 8 v
    → ◌≡◌ {A = Record} (record { kind = w % 65536; a = w / 65536 % 65536; kids = w / 4294967296; x = x; start = v % 4294967296; len = v / 4294967296 }) (record_at b i)
record_parted b i h dw dx dv =
    let e : 24 * i + 16 + 4 ≡ 24 * i + 20 = omega arith in
    record-made b i
    (digits_low 2 6 (omega arith) dw).is
    (digits_low 2 4 (omega arith) (digits-high 2 6 (omega arith) dw)).is
    (digits-high 4 4 (omega arith) dw).is
    dx.is
    (digits_low 4 4 (omega arith) dv).is
    (rw e at (digits-high 4 4 (omega arith) dv).is)

-- How the code meets the walk: at an index, from the facts that its tests and calls tell.
-- Assumes nothing.
use Rattle.std.specs.Prelude.{◌≡◌, false, List, [], ◌∷◌, length, ℕ, zero, suc, ◌+◌, ◌-◌, ◌/◌, ◌≤◌, ◌<◌, eqb, Result, MatchResult}
use Rattle.std.proofs.Common.{refl, sym, ◌∙◌, arith, eq-eqb, ne_eqb, add-one, sub-one}
use Rattle.std.proofs.Math.Option.{some}
use Rattle.std.proofs.lemmas.Bool.{eqb-false}
use Rattle.refusal.specs.declared.Fault.{Fault}
use Rattle.refusal.specs.declared.Refusal.{Refusal}
use Rattle.refusal.specs.declared.Refusal.TheVariants.{RecordsEnd}
use Rattle.refusal.specs.Number.{number}
use Rattle.refusal.specs.NumberLaws.{number-positive}
use Rattle.grammar.specs.declared.Place.{Place}
use Rattle.grammar.specs.declared.Place.TheVariants.{InList}
use Rattle.grammar.specs.declared.Row.{Row}
use Rattle.grammar.specs.Kinds.{child_place, row_of, row_in}
use Rattle.term.specs.declared.Record.{Record}
use Rattle.term.specs.Record.{record_at, records_from}
use Rattle.term.specs.RecordLaws.{records-more, records-none}
use Rattle.checker.specs.Refusal.{Verdict, verdict, fault_of, scan, next, later}
use Rattle.checker.specs.Walk.{Step, after, kids, check, follow, fault-low, check-scan}

-- the step s found no fault: the records from `next` on, which is not before `from`, are still to be looked at
pub record Passed (s : Step) (records : List ℕ) (from next : ℕ) : Type 0 where
  pub is : s ≡ record { number = 0; next = next; rest = records_from records next }
  pub moves : from ≤ next

-- the step s found the fault f
pub record Failed (s : Step) (f : Fault) : Type 0 where
  pub says : s.number ≡ number f.refusal
  pub at : s.next ≡ f.index

-- and stopped there, among the records
pub record Stopped (s : Step) (records : List ℕ) (from : ℕ) (f : Fault) : Type 0 where
  pub fails : Failed s f
  pub ends : s.rest ≡ records_from records f.index
  pub moved : from ≤ f.index + number f.refusal

-- what an answer tells of the step s
abbrev pub Told : Step → List ℕ → ℕ → Result ℕ Fault → Type 0
Told s records from r = MatchResult r (Passed s records from) (Stopped s records from)

module _ {s : Step} {f : Fault} (t : Failed s f) where
  pub failed-number : s.number ≡ 0 → ⊥
  failed-number z = let h = number-positive f.refusal in let e = sym t.says ∙ z in omega arith

-- with no level left there is always a fault
low-fault : (arities pool : List ℕ) (l : ℕ) (p : Place) (r : Record) → 0 ≡ fault_of arities pool p l r → l ≡ 0 → ⊥
low-fault arities pool l p r z y = eqb-false (fault_of arities pool p l r) 0 (rw y (fault-low arities pool p r)) (sym z)

pub some_level : (arities pool : List ℕ) (l : ℕ) (p : Place) (r : Record) → 0 ≡ fault_of arities pool p l r → 0 < l
some_level arities pool l p r z = let h : l ≡ 0 → ⊥ = low-fault arities pool l p r z in omega arith

module _ (arities pool records : List ℕ) (l : ℕ) (p : Place) (i : ℕ) where
  -- ── Where the records end
  check-nil : check arities pool l p [] i ≡ record { number = 10; next = i; rest = [] }
  unfolding check
  check-nil = ended l
    where
      ended : (l : ℕ) → check arities pool l p [] i ≡ record { number = 10; next = i; rest = [] }
      ended zero = refl
      ended (suc l) = refl

  pub told_end : length records / 24 ≤ i → Stopped (check arities pool l p (records_from records i) i) records (i + 1) (record { refusal = RecordsEnd; index = i })
  told_end h = let e = records-none records i h in rw (e, check-nil) (record { fails = record { says = refl; at = refl }; ends = sym e; moved = omega arith })

  -- ── At a record
  module _ {r : Record} (h : i < length records / 24) (e : r ≡ record_at records i) where
    more : records_from records i ≡ r ∷ records_from records (i + 1)
    more = rw e (records-more records i h)

    refused : (rs : List Record) → (eqb (fault_of arities pool p l r) 0 ≡ false) → check arities pool l p (r ∷ rs) i ≡ record { number = fault_of arities pool p l r; next = i; rest = r ∷ rs }
    unfolding check
    refused rs z = at l z
      where
        at : (l : ℕ) → eqb (fault_of arities pool p l r) 0 ≡ false → check arities pool l p (r ∷ rs) i ≡ record { number = fault_of arities pool p l r; next = i; rest = r ∷ rs }
        at zero z = refl
        at (suc l) z = rw z refl

    pub told-fault : {x : Refusal} → number x ≡ fault_of arities pool p l r → Stopped (check arities pool l p (records_from records i) i) records (i + 1) (record { refusal = x; index = i })
    told-fault {x} f =
        let h = number-positive x in
        rw (more, refused (records_from records (i + 1)) (ne_eqb _ 0 (λ z. omega (arith, f, z)))) (record { fails = record { says = sym f; at = refl }; ends = sym more; moved = omega (arith, h) })

    module _ (z : 0 ≡ fault_of arities pool p l r) where
      accepted : (rs : List Record) → check arities pool l p (r ∷ rs) i ≡ kids (check arities pool (l - 1)) (row_in (row_of r.kind)) r.kids 0 rs (i + 1)
      unfolding check
      accepted rs = at l (low-fault arities pool l p r z) z
        where
          at : (l : ℕ) → (l ≡ 0 → ⊥) → 0 ≡ fault_of arities pool p l r
              → check arities pool l p (r ∷ rs) i ≡ kids (check arities pool (l - 1)) (row_in (row_of r.kind)) r.kids 0 rs (i + 1)
          at zero y z = absurd (y refl)
          at (suc l) y z = rw (eq-eqb (fault_of arities pool p (suc l) r) 0 (sym z), sub-one (suc l), add-one i) refl

      pub told-kids : {row : Row} → row_of r.kind ≡ some row
          → check arities pool l p (records_from records i) i ≡ kids (check arities pool (l - 1)) row r.kids 0 (records_from records (i + 1)) (i + 1)
      unfolding row_in
      told-kids g = rw (more, accepted (records_from records (i + 1)), g) refl

-- ── The children's loop: what is left gives the whole, whose first child stands at `from`
pub record Going (g : Place → List Record → ℕ → Step) (row : Row) (records : List ℕ) (whole : Step) (from n j next : ℕ) : Type 0 where
  pub gives : kids g row (n - j) j (records_from records next) next ≡ whole
  pub moved : from ≤ next

pub going_start : (g : Place → List Record → ℕ → Step) (row : Row) (records : List ℕ) (n i : ℕ) → Going g row records (kids g row n 0 (records_from records i) i) i n 0 i
going_start g row records n i = record { gives = let e : n - 0 ≡ n = omega arith in rw e refl; moved = omega arith }

kids-none : (g : Place → List Record → ℕ → Step) (row : Row) (n j : ℕ) (rs : List Record) (i : ℕ) → n ≡ 0 → kids g row n j rs i ≡ record { number = 0; next = i; rest = rs }
unfolding kids
kids-none g row zero j rs i z = refl
kids-none g row (suc n) j rs i z = absurd (omega arith)

kids-more : (g : Place → List Record → ℕ → Step) (row : Row) (n m j : ℕ) (rs : List Record) (i : ℕ) → n ≡ suc m → kids g row n j rs i ≡ after (g (child_place row j) rs i) (kids g row m (j + 1))
unfolding kids
kids-more g row n m j rs i z = rw (z, add-one j) refl

after-bad : (s : Step) (k : List Record → ℕ → Step) → (s.number ≡ 0 → ⊥) → after s k ≡ s
unfolding after
after-bad s k x = rw (ne_eqb s.number 0 x) refl

after-good : (s : Step) (k : List Record → ℕ → Step) {next : ℕ} {rest : List Record} → s ≡ record { number = 0; next = next; rest = rest } → after s k ≡ k rest next
unfolding after
after-good s k e = rw e refl

module _ {g : Place → List Record → ℕ → Step} {row : Row} {records : List ℕ} {whole : Step} {from n j next : ℕ} (h : Going g row records whole from n j next) where
  pub going_end : n ≤ j → Passed whole records from next
  going_end z = record {
    is = sym h.gives ∙ kids-none g row (n - j) j (records_from records next) next (omega arith);
    moves = h.moved;
  }

  module _ {p : Place} (z : j < n) (e : p ≡ child_place row j) where
    turned : after (g p (records_from records next) next) (kids g row (n - (j + 1)) (j + 1)) ≡ whole
    turned = rw (sym h.gives, kids-more g row (n - j) (n - (j + 1)) j (records_from records next) next (omega arith), e) refl

    pub going_bad : {f : Fault} → Failed (g p (records_from records next) next) f → Failed whole f
    going_bad t = rw (sym turned, after-bad (g p (records_from records next) next) (kids g row (n - (j + 1)) (j + 1)) (failed-number t)) t

    pub going_stopped : {f : Fault} → Stopped (g p (records_from records next) next) records (next + 1) f → Stopped whole records from f
    going_stopped t =
        rw (sym turned, after-bad (g p (records_from records next) next) (kids g row (n - (j + 1)) (j + 1)) (failed-number t.fails))
        (record { fails = t.fails; ends = t.ends; moved = omega (arith, t.moved, h.moved) })

    pub going_turn : {m : ℕ} → Passed (g p (records_from records next) next) records (next + 1) m → Going g row records whole from n (j + 1) m
    going_turn t = record {
      gives = sym (after-good _ (kids g row (n - (j + 1)) (j + 1)) t.is) ∙ turned;
      moved = omega (arith, t.moves, h.moved);
    }

-- ── The top level: the scan from here, with nothing owed, gives the whole
pub record Scanning (arities pool records : List ℕ) (whole : Verdict) (next : ℕ) : Type 0 where
  pub gives : scan arities pool (records_from records next) next [] ≡ whole

module _ {arities pool records : List ℕ} {whole : Verdict} {i : ℕ} (h : Scanning arities pool records whole i) where
  pub scanned : length records / 24 ≤ i → verdict 0 0 ≡ whole
  unfolding scan
  scanned z = rw (records-none records i z) at h.gives

  module _ (z : i < length records / 24) where
    followed : follow arities pool (check arities pool 64 InList (records_from records i) i) [] ≡ whole
    unfolding scan next later
    followed =
        sym (check-scan arities pool 64 InList (records_from records i) i [])
        ∙ (rw (records-more records i z) refl ∙ h.gives)

    pub scan-bad : {f : Fault} → Failed (check arities pool 64 InList (records_from records i) i) f → verdict (number f.refusal) f.index ≡ whole
    unfolding follow
    scan-bad t = rw (sym t.says, sym t.at) (rw (ne_eqb _ 0 (failed-number t)) at followed)

    pub scan_turn : {m : ℕ} → Passed (check arities pool 64 InList (records_from records i) i) records (i + 1) m → Scanning arities pool records whole m
    unfolding follow
    scan_turn t = record { gives = rw t.is at followed }

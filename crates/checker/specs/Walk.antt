-- The same scan as the code makes it: a term and, one level down, its children. Each step takes the records and returns the rest.
-- Assumes nothing.
use Rattle.std.specs.Prelude.{◌≡◌, Bool, true, false, not, ◌&&◌, cond, eqb, List, [], ◌∷◌, ◌++◌, ℕ, zero, suc}
use Rattle.std.proofs.Common.{refl, ◌∙◌, eqb-true, sub-one}
use Rattle.std.proofs.Math.Option.{Option, none, some}
use Rattle.grammar.specs.declared.Place.{Place}
use Rattle.grammar.specs.declared.Row.{Row}
use Rattle.grammar.specs.Kinds.{child_place, row_of, stands, counts, args_at, row_in}
use Rattle.fields.specs.Fields.{in_range, spelled}
use Rattle.term.specs.declared.Record.{Record}
use Rattle.arity.specs.Arity.{args_of}
use Rattle.checker.specs.Refusal.{Verdict, verdict, text_of, in_pool, place_fault, fault, fault_as, fault_of, Owed, owe, next, later, kids_of, scan}

-- number 0, and the records from `next` on are still to be looked at; or the number, and the index of the fault
pub record Step : Type 0 where
  pub number : ℕ
  pub next : ℕ
  pub rest : List Record

unfoldable pub after : Step → (List Record → ℕ → Step) → Step
after s k = cond (eqb s.number 0) (k s.rest s.next) s

-- n children of a kind, from child j on
unfoldable pub kids : (Place → List Record → ℕ → Step) → Row → ℕ → ℕ → List Record → ℕ → Step
kids g row zero j rs i = record { number = 0; next = i; rest = rs }
kids g row (suc n) j rs i = after (g (child_place row j) rs i) (kids g row n (suc j))

module _ (arities pool : List ℕ) where
  unfoldable pub check : ℕ → Place → List Record → ℕ → Step
  check zero p [] i = record { number = 10; next = i; rest = [] }
  check zero p (r ∷ rs) i = record { number = fault_of arities pool p 0 r; next = i; rest = r ∷ rs }
  check (suc l) p [] i = record { number = 10; next = i; rest = [] }
  check (suc l) p (r ∷ rs) i =
      cond (eqb (fault_of arities pool p (suc l) r) 0) (kids (check l) (row_in (row_of r.kind)) r.kids 0 rs (suc i))
      (record { number = fault_of arities pool p (suc l) r; next = i; rest = r ∷ rs })

  -- ── The scan goes on where a step ended
  unfoldable pub follow : Step → List Owed → Verdict
  follow s q = cond (eqb s.number 0) (scan arities pool s.rest s.next q) (verdict s.number s.next)

  -- with no level left each record is refused
  pub fault-low : (p : Place) (r : Record) → eqb (fault_of arities pool p 0 r) 0 ≡ false
  unfolding fault_of fault_as fault place_fault
  fault-low p r = known (row_of r.kind)
    where
      low : (a b c d : Bool) → eqb (cond a 5 (cond b 6 (cond c 7 (cond d 8 9)))) 0 ≡ false
      low true b c d = refl
      low false true c d = refl
      low false false true d = refl
      low false false false true = refl
      low false false false false = refl

      known : (o : Option Row) → eqb (fault_as o pool (args_of arities pool (text_of pool r)) p 0 r) 0 ≡ false
      known none = refl
      known (some row) =
          low (not (in_pool pool r && in_range row (text_of pool r) r.a r.x)) (not (spelled row (text_of pool r)))
          (not (counts row.rest row.operands (args_at p (args_of arities pool (text_of pool r))) r.kids)) (not (stands row.places p))

  follow-after : (s : Step) (k : List Record → ℕ → Step) (q z : List Owed)
      → (s.number ≡ 0 → scan arities pool s.rest s.next q ≡ follow (k s.rest s.next) z) → follow s q ≡ follow (after s k) z
  unfolding follow after
  follow-after s k q z h = split (eqb s.number 0) refl
    where
      split : (b : Bool) → eqb s.number 0 ≡ b → follow s q ≡ follow (after s k) z
      split true e = rw e (h (eqb-true _ _ e))
      split false e = rw (e, e) refl

  -- the scan of a term that is owed goes on behind it
  abbrev pub Follows : ℕ → Type 0
  Follows l = (p : Place) (rs : List Record) (i : ℕ) (q : List Owed) → scan arities pool rs i (record { place = p; levels = l } ∷ q) ≡ follow (check l p rs i) q

  kids-scan : (l : ℕ) (row : Row) → Follows l
      → (n j : ℕ) (rs : List Record) (i : ℕ) (q : List Owed) → scan arities pool rs i (owe row l j n ++ q) ≡ follow (kids (check l) row n j rs i) q
  unfolding owe kids follow
  kids-scan l row h zero j rs i q = refl
  kids-scan l row h (suc n) j rs i q =
      h (child_place row j) rs i (owe row l (suc j) n ++ q)
      ∙ follow-after (check l (child_place row j) rs i) (kids (check l) row n (suc j)) (owe row l (suc j) n ++ q) q (λ _. kids-scan l row h n (suc j) _ _ q)

  pub check-scan : (l : ℕ) → Follows l
  unfolding scan check follow next later kids_of
  check-scan zero p [] i q = refl
  check-scan zero p (r ∷ rs) i q = rw (fault-low p r) refl
  check-scan (suc l) p [] i q = refl
  check-scan (suc l) p (r ∷ rs) i q = split (λ p rs i q. check-scan l p rs i q) (eqb (fault_of arities pool p (suc l) r) 0) refl
    where
      split : Follows l → (b : Bool) → eqb (fault_of arities pool p (suc l) r) 0 ≡ b
          → scan arities pool (r ∷ rs) i (record { place = p; levels = suc l } ∷ q) ≡ follow (check (suc l) p (r ∷ rs) i) q
      split h true e = rw (e, sub-one (suc l)) (kids-scan l (row_in (row_of r.kind)) h r.kids 0 rs (suc i) q)
      split h false e = rw (e, e) refl

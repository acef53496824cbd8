-- The walk's functions by those that they call: what each of them may ask for, and what it answers.
-- Assumes nothing.
use Rattle.std.specs.Prelude.{◌≡◌, Bool, true, false, ◌||◌, not, cond, List, [], ◌∷◌, ℕ, zero, suc, ◌+◌, ◌-◌, ◌*◌, ◌≤◌, eqb, ltb, length, take, drop, get_or, IfSome, Option as Answer, Some, None}
use Rattle.std.proofs.Math.Path.{refl}
use Rattle.std.proofs.Common.{sym, ◌∙◌, ap, subst, arith, sub-one, length-drop, length-take-le, le-ltb}
use Rattle.std.proofs.Math.Option.{Option, none, some}
use Rattle.octets.specs.Bytes.{Reader, ◌>>=◌}
use Rattle.octets.specs.Reading.{Got}
use Rattle.path.specs.Get.{path_text}
use Rattle.grammar.specs.declared.Place.{Place}
use Rattle.grammar.specs.declared.Place.TheVariants.{InList}
use Rattle.grammar.specs.declared.Row.{Row}
use Rattle.grammar.specs.Kinds.{child_place, counts, args_at, normal_kinds, kinds, no_row, find}
use Rattle.grammar.specs.KindLaws.{found-kind}
use Rattle.grammar.specs.Forest.{Fields, Forest}
use Rattle.fields.specs.Get.{get_fields}
use Rattle.tree.specs.Fits.{Args}
use Rattle.tree.specs.Read.{Body, Tree, onto, list, get_kids, get_body, unbox, read, kind_at}
use Rattle.start.specs.Start.{normal_count, start_at, Begins}
use Rattle.start.specs.StartLaws.{start_none, begins-opcode}
use Rattle.start.specs.Box.{Opened}
use Rattle.taken.specs.Taken.{Took}
use Rattle.repack.specs.PackLaws.{record-packed}
use Rattle.walk.specs.declared.Walk.{Walk}
use Rattle.walk.specs.Spots.{Spliced, spliced}
use Rattle.walk.specs.Walk.{tree, body_of, forest, Walks, Spans, Walkable, Normal, several, is_listed, is_call, get_number}
use Rattle.walk.specs.Few.{term_spans}
use Rattle.walk.specs.Steps.{above, Placed, kids-none, kids-unread, kids_some, kids_miscounted, kids_spans, fields-short}
use Rattle.walk.specs.Steps.{first-bad, first_some, last-bad, last_none, last_some, term_unopened, term-unread, term-opened, term-unfilled}
use Rattle.walk.specs.Calls.{call_kids}

-- ── What is asked for
pub walkable_on : {b : List ℕ} {at next : ℕ} → Walkable b at → next ≤ length b → Walkable b next
walkable_on h n = record { within = n; most = h.most }

pub walkable_part : {b : List ℕ} {at : ℕ} → Walkable b at → {boxed : Bool} {m end start : ℕ} → Opened boxed b m end start → Walkable (take end b) start
walkable_part {b} h {end = end} o =
    let n = length-take-le end b o.high in
    record { within = omega (arith, o.inner); most = omega (arith, o.high, h.most) }

pub begins-normal : {p : Place} {bs : List ℕ} {r : Row} → Begins p bs r → Normal r
begins-normal {p} {bs} h = record { found = ap (λ k. find k normal_kinds) (found-kind (kind_at p bs) normal_kinds h.found) ∙ h.found }

pub begins-inside : {p : Place} (b : List ℕ) (at : ℕ) {r : Row} → Begins p (drop at b) r → at ≤ length b → at + r.ops ≤ length b
begins-inside b at s h = omega (arith, begins-opcode s, length-drop at b)

pub above_zero : (l : ℕ) → (l ≡ 0 → ⊥) → l ≡ suc (l - 1)
above_zero zero h = absurd (h refl)
above_zero (suc l) h = ap suc (sym (sub-one (suc l)))

-- ── A term
module _ (args : Args) (p : Place) (b : List ℕ) (at : ℕ) (l : ℕ) (h : at ≤ length b) where
  abbrev Tells : (i : ℕ) (first out : List ℕ) → Answer Walk → Type 0
  Tells i first out o = Walks tree (read args l p (drop at b)) b at i first out o × IfSome o (Spans at)

  with_spans : {i : ℕ} {first out : List ℕ} (o : Answer Walk) → Walks tree (read args l p (drop at b)) b at i first out o → Tells i first out o
  with_spans o k = (k, term_spans args l p o h k)

  pub term_zero : l ≡ 0 → {i : ℕ} {first : List ℕ} → Tells i first first None
  unfolding read
  term_zero e = with_spans None (rw e (record { tells = refl; same = refl }))

  module _ (nz : l ≡ 0 → ⊥) where
    pub term_nowhere : {j : ℕ} → j ≡ start_at p (drop at b) → normal_count ≤ j → {i : ℕ} {first : List ℕ} → Tells i first first None
    term_nowhere s n = with_spans None (record { tells = rw (above_zero l nz) (start_none p (drop at b) s n args (l - 1)); same = refl })

    module _ {r : Row} (s : Begins p (drop at b) r) where
      pub term-none : ((get : Reader Body) → unbox r.boxed get (drop (at + r.ops) b) ≡ none) → {i : ℕ} {first : List ℕ} → Tells i first first None
      term-none n = with_spans None (rw (above_zero l nz) (term_unopened args (l - 1) p b at s n))

      module _ {end start : ℕ} (o : Opened r.boxed b (at + r.ops) end start) where
        abbrev Within : (i : ℕ) (first out : List ℕ) → Answer Walk → Type 0
        Within i first out = Walks (body_of r) (get_body args (read args (l - 1)) p r r.last (drop start (take end b))) (take end b) start i first out

        pub term-bodiless : {i : ℕ} {first out : List ℕ} → Within i first out None → Tells i first out None
        term-bodiless k = with_spans None (rw (above_zero l nz) (term-unread args (l - 1) p b at s o k))

        pub term-whole : {i : ℕ} {first out : List ℕ} {w : Walk} → Within i first out (Some w) → (not r.boxed || eqb w.next end) ≡ true → Tells i first out (Some w)
        term-whole {w} k z = with_spans (Some w) (rw (above_zero l nz) (term-opened args (l - 1) p b at s o k z))

        pub term-short : {i : ℕ} {first out : List ℕ} {w : Walk} → Within i first out (Some w) → (not r.boxed || eqb w.next end) ≡ false → Tells i first out None
        term-short k z = with_spans None (rw (above_zero l nz) (term-unfilled args (l - 1) p b at s o k z))

-- ── Children
module _ (args : Args) (l : ℕ) (r : Row) (n : ℕ) (b : List ℕ) (at : ℕ) where
  abbrev Kids : (i : ℕ) (first out : List ℕ) → Answer Walk → Type 0
  Kids i first out o = Walks forest (get_kids (read args l) r n (drop at b)) b at i first out o × IfSome o (Spans at)

  pub kids_no : get_number r.rest r.operands n (drop at b) ≡ none → {i : ℕ} {first : List ℕ} → Kids i first first None
  kids_no e = (kids-none (read args l) r n b at e, tt)

  module _ {m start : ℕ} (g : Got (get_number r.rest r.operands n) b at m start) {x : Bool} (e : x ≡ is_listed r.rest) where
    abbrev Many : (i : ℕ) (first out : List ℕ) → Answer Walk → Type 0
    Many i first out o = Walks forest (several x (read args l) (child_place r) m 0 (drop start b)) b start i first out o × IfSome o (Spans start)

    pub kids-lost : {i : ℕ} {first out : List ℕ} → Many i first out None → Kids i first out None
    kids-lost k = (kids-unread (read args l) r n b at g.is g.low (rw e at k.0), tt)

    module _ {i : ℕ} {first out : List ℕ} {w : Walk} (k : Many i first out (Some w)) {c : Bool} (q : c ≡ counts r.rest r.operands n w.kids) where
      pub kids-whole : c ≡ true → Kids i first out (Some w)
      kids-whole y = (kids_some (read args l) r n b at g.is g.low (rw e at k.0) q y, kids_spans (read args l) r n b at g.low k.1)

      pub kids-miscounted : c ≡ false → Kids i first out None
      kids-miscounted y = (kids_miscounted (read args l) r n b at g.is g.low (rw e at k.0) q y, tt)

-- ── A body
pub body_as : (args : Args) (g : Place → Reader Tree) (p : Place) (r : Row) (bs : List ℕ) {x : Bool} → r.last ≡ x → {b : List ℕ} {at i : ℕ} {first out : List ℕ} {o : Answer Walk}
    → Walks (body_of r) (get_body args g p r x bs) b at i first out o → Walks (body_of r) (get_body args g p r r.last bs) b at i first out o
body_as args g p r bs e {b} {at} {i} {first} {out} {o} h = subst (λ x. Walks (body_of r) (get_body args g p r x bs) b at i first out o) (sym e) h

-- the record that is put is the term's
placed : {k a x n p i len : ℕ} {text : List ℕ} {first out : List ℕ} → len ≡ length text
    → Spliced (record { kind = k; a = a; kids = n; x = x; start = p; len = len }) i first out
    → Placed (record { kind = k; fields = record { text = text; a = a; x = x }; kids = n }) p i first out
placed {k} {a} {x} {n} {p} {i} {text = text} {first = first} e s =
    record {
      same = s.same;
      put = λ room. (rw e at s.put) room ∙ ap (λ y. spliced (24 * i) y first) (sym (record-packed (record { kind = k; fields = record { text = text; a = a; x = x }; kids = n }) p));
    }

module _ (args : Args) (p : Place) {r : Row} (nr : Normal r) (b : List ℕ) {at : ℕ} (h : Walkable b at) (l i : ℕ) where
  abbrev Bodies : Bool → (first out : List ℕ) → Answer Walk → Type 0
  Bodies last first out o = Walks (body_of r) (get_body args (read args l) p r last (drop at b)) b at i first out o

  few_enough : {m : ℕ} {w : Walk} → w.next ≤ length b → Spans m w → (v : Fields) (q next : ℕ) → get_fields r (drop q b) ≡ some (v, drop next b) → {len : ℕ} → len ≡ length v.text
      → (w.records ≤ 268435455) × (w.texts ≤ 536870910) × (len ≤ 536870910)
  few_enough {w = w} n s v q next e d =
      let t = fields-short nr.found b q next v e in
      (omega (arith, s.few, h.most), omega (arith, s.short, h.most), omega (arith, h.most))

  module _ {len a x next : ℕ} (t : Took r b at len a x next) {n : ℕ} (e : n ≡ cond (is_call r.rest) (args_at p (args (path_text (drop at b)))) 0) where
    abbrev Behind : (first mid : List ℕ) → Answer Walk → Type 0
    Behind first mid o = Walks forest (get_kids (read args l) r n (drop next b)) b next (i + 1) first mid o × IfSome o (Spans next)

    asked : {first mid : List ℕ} {o : Answer Walk} → Behind first mid o → Walks forest (get_kids (read args l) r (args_at p (args t.text)) (drop next b)) b next (i + 1) first mid o
    asked k = rw (call_kids nr.found t (read args l) args p e (drop next b)) at k.0

    pub first_kidless : {first mid : List ℕ} → Behind first mid None → Bodies false first mid None
    first_kidless k = first-bad args (read args l) p r b at i _ t.is (asked k)

    module _ {first mid : List ℕ} {w : Walk} (k : Behind first mid (Some w)) where
      pub first-few : (w.records ≤ 268435455) × (w.texts ≤ 536870910) × (len ≤ 536870910)
      first-few = few_enough k.0.tells.high k.1 (record { text = t.text; a = a; x = x }) at next t.is t.size

      pub first-whole : {out : List ℕ} {v : Walk} → Spliced (record { kind = r.kind; a = a; kids = w.kids; x = x; start = at; len = len }) i mid out → v ≡ above w len w.next
          → Bodies false first out (Some v)
      first-whole s z = rw (z, t.size) (first_some args (read args l) p r b at i first nr.found h.within t.is t.low (asked k) (placed t.size s))

  abbrev Before : (first mid : List ℕ) → Answer Walk → Type 0
  Before first mid o = Walks forest (get_kids (read args l) r 0 (drop at b)) b at (i + 1) first mid o × IfSome o (Spans at)

  pub last_kidless : {first mid : List ℕ} → Before first mid None → Bodies true first mid None
  last_kidless k = last-bad args (read args l) p r b at i _ k.0

  module _ {first mid : List ℕ} {w : Walk} (k : Before first mid (Some w)) where
    pub last_within : w.next ≤ length b
    last_within = k.0.tells.high

    pub last_fieldless : get_fields r (drop w.next b) ≡ none → Bodies true first mid None
    last_fieldless e = last_none args (read args l) p r b at i first k.0 e

    module _ {len a x next : ℕ} (t : Took r b w.next len a x next) where
      pub last-few : (w.records ≤ 268435455) × (w.texts ≤ 536870910) × (len ≤ 536870910)
      last-few = few_enough last_within k.1 (record { text = t.text; a = a; x = x }) w.next next t.is t.size

      pub last-whole : {out : List ℕ} {v : Walk} → Spliced (record { kind = r.kind; a = a; kids = w.kids; x = x; start = w.next; len = len }) i mid out → v ≡ above w len next
          → Bodies true first out (Some v)
      last-whole s z = rw (z, t.size) (last_some args (read args l) p r b at i first nr.found h.within k.0 t.is t.low t.high (placed t.size s))

-- ── A table: its terms stand as the children of an Else do
-- a term, and those behind it
abbrev others : Reader Forest → Tree × List ℕ → Option (Forest × List ℕ)
others get t = get t.1 >>= λ s. some (onto t.0 s.0, s.1)

same-list : (g : Place → Reader Tree) (u v : ℕ → Place) → ((j : ℕ) → u j ≡ v j) → (n j : ℕ) (bs : List ℕ) → list g u n j bs ≡ list g v n j bs
unfolding list ◌>>=◌
same-list g u v e zero j bs = refl
same-list g u v e (suc n) j [] = refl
same-list g u v e (suc n) j (b ∷ bs) = rw (e j) (by (g (v j) (b ∷ bs)) λ r. same-list g u v e n (suc j) r)
  where
    by : (m : Option (Tree × List ℕ)) → ((r : List ℕ) → list g u n (suc j) r ≡ list g v n (suc j) r)
        → (m >>= others (list g u n (suc j))) ≡ (m >>= others (list g v n (suc j)))
    by none h = refl
    by (some t) h = rw (h t.1) refl

in_list : (r : Row) → r ≡ get_or kinds 15 no_row → (j : ℕ) → child_place r j ≡ InList
unfolding child_place kinds normal_kinds
in_list r e j = let f : ltb j 0 ≡ false = le-ltb j 0 (omega arith) in rw (e, f) refl

pub table_walks : (args : Args) (b : List ℕ) {r : Row} → r ≡ get_or kinds 15 no_row → {first out : List ℕ} {o : Answer Walk}
    → Walks forest (several true (read args 64) (child_place r) (length b - 36) 0 (drop 36 b)) b 36 0 first out o × IfSome o (Spans 36)
    → Walks forest (list (read args 64) (λ _. InList) (length (drop 36 b)) 0 (drop 36 b)) b 36 0 first out o × IfSome o (Spans 36)
unfolding several
table_walks args b {r} e k = rw (length-drop 36 b, ← (same-list (read args 64) (child_place r) (λ _. InList) (in_list r e) (length b - 36) 0 (drop 36 b))) k

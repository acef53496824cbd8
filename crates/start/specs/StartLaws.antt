-- Laws of the kind that begins here: for the code that finds it, and for whoever reads the term of that kind.
-- Assumes nothing.
use Rattle.std.specs.Prelude.{◌≡◌, Bool, ◌&&◌, not, cond, List, [], ℕ, suc, ◌+◌, ◌-◌, ◌*◌, ◌^◌, ◌≤◌, ◌<◌, ◌≢◌, ◌⊎◌, eqb, leb, get_or}
use Rattle.std.proofs.Math.Path.{refl, ap}
use Rattle.std.proofs.Common.{sym, ◌∙◌, inl, inr, ⊎_elim, eqb→eq, leb→le, take-append-drop}
use Rattle.std.proofs.Math.Bool.{true, false}
use Rattle.std.proofs.Math.Option.{Option, none, some}
use native.Mathlib.Omega.{arith}
use borrow.Author.Tests.{eq-eqb, ne_eqb, ltb-true, ltb-false, lt-ltb, le-ltb}
use Rattle.std.proofs.Math.Dec.{T, ltb, ltb→lt}
use Rattle.std.proofs.Math.ListN.{length, take, drop, length-append, length-drop, get_or-append}
use Rattle.std.proofs.Math.Seq.{get_or-drop, length-take-le, take_at}
use Rattle.octets.specs.Bytes.{◌>>=◌, need, begins, le, value, le_at}
use Rattle.octets.specs.Tests.{and_left, and_right, test_true, true_test, cond_case, cond_inv}
use Rattle.octets.specs.Laws.{begins-back, begins-only, le-length, le-value, value-le}
use Rattle.octets.specs.Reading.{Digits, past_end, next_byte}
use Rattle.grammar.specs.declared.Place.{Place}
use Rattle.grammar.specs.declared.Place.TheVariants.{InList, Operand, Datum, Element, FieldEntry, Descriptor}
use Rattle.grammar.specs.declared.Row.{Row}
use Rattle.grammar.specs.Kinds.{rank, is, stands, opcode, normal_kinds, other_kinds, kinds, no_row, find}
use Rattle.grammar.specs.Packed.{row_at, position}
use Rattle.grammar.specs.Family.{family_of}
use Rattle.grammar.specs.KindLaws.{every_row, found-kind, found-rule, placed, position_first, kinds-count, row-known, row-kind}
use Rattle.tree.specs.Fits.{Args}
use Rattle.tree.specs.Read.{twofold, kind_in, entry_in, kind_at, literal, get_body, unbox, read}
use Rattle.tree.proofs.TableLaws.{normal-row, kind-bytes}
use Rattle.start.specs.Start.{normal_count, starts_as, start_at, Begins}

-- ── Which kind
pub no_entry : (p : Place) → (p ≢ FieldEntry) → is p FieldEntry ≡ false
unfolding is rank
no_entry InList h = refl
no_entry Operand h = refl
no_entry Datum h = refl
no_entry Element h = refl
no_entry FieldEntry h = absurd (h refl)
no_entry Descriptor h = refl

pub two_bytes : (c : ℕ) → (c ≡ 0x5B) ⊎ (c ≡ 0x92) → twofold c ≡ true
unfolding twofold
two_bytes c h = ⊎_elim (λ e. rw e refl) (λ e. rw e refl) h

pub one_byte : (c : ℕ) → ((c ≡ 0x5B) ⊎ (c ≡ 0x92) → ⊥) → twofold c ≡ false
unfolding twofold
one_byte c h = rw (ne_eqb _ _ (λ e. h (inl e)), ne_eqb _ _ (λ e. h (inr e))) refl

module _ (p : Place) (b : List ℕ) (at : ℕ) (h : at < length b) {c : ℕ} (ce : c ≡ get_or b at 0) where
  pub kind-entry : p ≡ FieldEntry → {k : ℕ} → k ≡ cond (eqb c 0) 0xF000 0xF001 → k ≡ kind_at p (drop at b)
  unfolding kind_at entry_in is rank
  kind-entry e k = rw (next_byte b at h, ← ce, e) k

  module _ (ne : is p FieldEntry ≡ false) where
    pub kind-twofold : {d : ℕ} → twofold c ≡ true → d ≡ get_or b (at + 1) 0 → 256 * c + d ≡ kind_at p (drop at b)
    unfolding kind_at kind_in
    kind-twofold t e =
        let z : at + 1 + 0 ≡ at + 1 = omega arith in
        rw (next_byte b at h, ← ce, ne, t, get_or-drop (at + 1) b 0 0, z, ← e) refl

    pub kind_family : {k : ℕ} → twofold c ≡ false → k ≡ family_of (get_or b at 0) → k ≡ kind_at p (drop at b)
    unfolding kind_at kind_in
    kind_family t e = rw (next_byte b at h, ← ce, ne, t) (rw (← ce) at e)

-- ── Its opcode: n bytes at `at`, as one number x
alike : (a b : Bool) → (T a → T b) → (T b → T a) → a ≡ b
alike true b f g = sym (test_true b (f tt))
alike false true f g = absurd (g tt)
alike false false f g = refl

module _ (b : List ℕ) (at n op : ℕ) where
  pub opcode-short : length b - at < n → leb n (length b - at) ≡ begins (le n op) (drop at b)
  opcode-short h =
      let bs = drop at b in
      alike (leb n (length b - at)) (begins (le n op) bs)
      (λ t. let l : n ≤ length b - at = leb→le n _ t in absurd (omega arith))
      (λ t.
      let e = ap length (begins-only (le n op) bs t) in
      absurd (omega (arith, length-append (le n op) (drop (length (le n op)) bs), le-length n op, length-drop at b)))

  pub opcode-is : {x : ℕ} → n ≤ length b - at → op < 256 ^ n → Digits b at n x → eqb x op ≡ begins (le n op) (drop at b)
  unfolding le_at
  opcode-is {x} h l d =
      let bs = drop at b in
      let m : length (take n bs) ≡ n = length-take-le n bs (rw length-drop h) in
      alike (eqb x op) (begins (le n op) bs)
      (λ t.
      let q : le n op ≡ take n bs = rw (← (eqb→eq x op t), d.is) (rw m at (le-value (take n bs) d.bytes)) in
      let u : T (begins (take n bs) bs) = rw (take-append-drop n bs) at (begins-back (take n bs) (drop n bs)) in
      rw q u)
      (λ t.
      let q : take n bs ≡ le n op = ap (take n) (begins-only (le n op) bs t) ∙ take_at (le n op) _ n (le-length n op) in
      true_test _ (eq-eqb x op (d.is ∙ ap value q ∙ value-le n op l)))

-- ── Its row: the normal kinds are the first rows of the table
normal-count : length normal_kinds ≡ normal_count
unfolding normal_kinds
normal-count = refl

normal-at : (j : ℕ) → j < normal_count → row_at j ≡ get_or normal_kinds j no_row
unfolding kinds
normal-at j h = get_or-append normal_kinds other_kinds no_row j (omega (arith, normal-count))

module _ (k j : ℕ) (p : j ≡ position k kinds) where
  normal-found : j < normal_count → find k normal_kinds ≡ some (row_at j)
  normal-found h =
      let e = row-known k j p (omega arith) refl in
      placed k normal_kinds no_row
      (λ _ q. absurd (omega (arith, q, normal-count, position_first k normal_kinds j no_row (omega (arith, normal-count)) (ap (λ (r : Row). r.kind) (sym (normal-at j h)) ∙ row-kind k e))))
      (λ f _. f ∙ (sym (normal-row k f) ∙ e))

  normal-none : normal_count ≤ j → find k normal_kinds ≡ none
  normal-none h =
      placed k normal_kinds no_row (λ n _. n)
      λ f q.
      let i = position k normal_kinds in
      let l : i < normal_count = omega (arith, normal-count) in
      absurd (omega (arith, kinds-count, position_first k kinds i no_row (omega (arith, kinds-count)) (ap (λ (r : Row). r.kind) (normal-at i l) ∙ found-kind k normal_kinds f)))

-- an opcode has at most two bytes, and its number no more
few : Row → Bool
few r = leb r.ops 2 && ltb r.op (256 ^ r.ops)

few_all : T (every_row few normal_kinds)
unfolding every_row normal_kinds value few
few_all = tt

few-row : (k : ℕ) {r : Row} → find k normal_kinds ≡ some r → (r.ops ≤ 2) × (r.op < 256 ^ r.ops)
unfolding few
few-row k {r} h =
    let t = found-rule k few normal_kinds few_all h in
    (leb→le r.ops 2 (and_left (leb r.ops 2) _ t), ltb→lt r.op (256 ^ r.ops) (and_right (leb r.ops 2) _ t))

-- ── What the code answers: at each of its ends, the place in the table
pub start_end : (p : Place) (b : List ℕ) (at : ℕ) → length b ≤ at → normal_count ≡ start_at p (drop at b)
unfolding start_at starts_as
start_end p b at h =
    let k = kind_at p [] in
    let i = position k kinds in
    rw (past_end b h) (cond_case (λ x. normal_count ≡ x) (starts_as p [] i) i normal_count
    (λ t.
    let s : T (ltb i normal_count) = search (and_left, and_right) in
    absurd (omega (arith, kind-bytes p [] k refl (normal-found k i refl (ltb→lt i normal_count s)))))
    (λ _. refl))

module _ (p : Place) (bs : List ℕ) {k : ℕ} (ke : k ≡ kind_at p bs) {j : ℕ} (je : j ≡ position k kinds) where
  pub start_unknown : normal_count ≤ j → normal_count ≡ start_at p bs
  unfolding start_at starts_as
  start_unknown h = rw (← ke, ← je, le-ltb j normal_count h) refl

  module _ (h : j < normal_count) {r : Row} (re : r ≡ row_at j) where
    pub start-few : (r.ops ≤ 2) × (r.op < 256 ^ r.ops)
    start-few = few-row k {r = r} (rw re (normal-found k j je h))

    pub start_misplaced : false ≡ stands r.places p → normal_count ≡ start_at p bs
    unfolding start_at starts_as
    start_misplaced s = rw (← ke, ← je, lt-ltb j normal_count h, ← re, ← s) refl

    module _ (s : true ≡ stands r.places p) where
      pub start-other : false ≡ begins (le r.ops r.op) bs → normal_count ≡ start_at p bs
      unfolding start_at starts_as opcode
      start-other o = rw (← ke, ← je, lt-ltb j normal_count h, ← re, ← s, ← o) refl

      pub start-found : true ≡ begins (le r.ops r.op) bs → j ≡ start_at p bs
      unfolding start_at starts_as opcode
      start-found o = rw (← ke, ← je, lt-ltb j normal_count h, ← re, ← s, ← o) refl

-- ── For whoever reads the term: it begins here, or there is none, whatever is left of the levels
unread : {A B : Type 0} (a b : Bool) → T (not (a && b)) → (y : A) (f : A → Option B) → need a (need b (some y) >>= f) ≡ none
unfolding need ◌>>=◌
unread true true t y f = absurd t
unread true false t y f = refl
unread false b t y f = refl

module _ (p : Place) (bs : List ℕ) {j : ℕ} (e : j ≡ start_at p bs) where
  pub start-row : j < normal_count → {r : Row} → r ≡ row_at j → Begins p bs r
  unfolding start_at starts_as
  start-row h {r} re =
      let i = position (kind_at p bs) kinds in
      cond_inv (starts_as p bs i) i normal_count (sym e)
      (λ t q.
      let s : T (starts_as p bs j) = rw q at t in
      let a : T (stands (row_at j).places p) = search (and_left, and_right) in
      let o : T (begins (opcode (row_at j)) bs) = search (and_left, and_right) in
      rw re (record { found = normal-found (kind_at p bs) j (sym q) h; allowed = test_true _ a; leads = test_true _ o }))
      (λ _ q. absurd (omega arith))

  pub start_none : normal_count ≤ j → (args : Args) (l : ℕ) → read args (suc l) p bs ≡ none
  unfolding start_at starts_as read literal ◌>>=◌
  start_none h args l =
      let i = position (kind_at p bs) kinds in
      cond_inv (starts_as p bs i) i normal_count (sym e)
      (λ t q. let s : T (ltb i normal_count) = search (and_left, and_right) in absurd (omega (arith, ltb→lt i normal_count s)))
      (λ t _. by i refl (ltb i normal_count) refl t)
    where
      by : (i : ℕ) → i ≡ position (kind_at p bs) kinds → (b : Bool) → ltb i normal_count ≡ b
          → T (not (b && stands (row_at i).places p && begins (opcode (row_at i)) bs)) → read args (suc l) p bs ≡ none
      by i f true x t = rw (normal-found _ i f (ltb-true i normal_count x)) (unread (stands (row_at i).places p) (begins (opcode (row_at i)) bs) t _ _)
      by i f false x t = rw (normal-none _ i f (ltb-false i normal_count x)) refl

pub read_here : (args : Args) (l : ℕ) {p : Place} {bs : List ℕ} {r : Row} → Begins p bs r
    → read args (suc l) p bs ≡ (unbox r.boxed (get_body args (read args l) p r r.last) (drop r.ops bs) >>= λ v. some (record { kind = r.kind; body = v.0 }, v.1))
unfolding read literal opcode need ◌>>=◌
read_here args l {p} {bs} {r} h = rw (h.found, h.allowed, h.leads, le-length r.ops r.op) refl

module _ {p : Place} {bs : List ℕ} {r : Row} (h : Begins p bs r) where
  pub begins_ops : r.ops ≤ 2
  begins_ops = (few-row (kind_at p bs) h.found).0

  -- the opcode is inside
  pub begins-opcode : r.ops ≤ length bs
  unfolding opcode
  begins-opcode =
      let e = begins-only (le r.ops r.op) bs (true_test _ h.leads) in
      omega (arith, ap length e, length-append (le r.ops r.op) (drop (length (le r.ops r.op)) bs), le-length r.ops r.op)

-- Children, bodies and boxes are read back as they were written, and nothing else is read: over any row that is `solid`, and any readers of
-- single terms that match. What the reading of terms is built from.
-- Assumes nothing.
use Rattle.std.specs.Prelude.{◌≡◌, Bool, ◌&&◌, ◌||◌, cond, eqb, leb, length}
use Rattle.std.proofs.Math.Path.{refl, sym, ap}
use Rattle.std.proofs.Common.{◌∙◌, eqb→eq, leb→le, le→leb}
use Rattle.std.proofs.Math.Bool.{true, false, not}
use Rattle.std.proofs.Math.Option.{some, none-ne-some}
use mathlib.Core.List.{List, [], ◌∷◌, ◌++◌, append_assoc, append-nil}
use Prim.Native.Nat.{ℕ, zero, suc, ◌≤◌, ◌<◌}
use native.Mathlib.Omega.{arith}
use Rattle.std.proofs.Math.Dec.{T}
use Rattle.std.proofs.Math.ListN.{length-append}
use Rattle.octets.specs.Bytes.{Reader, ◌>>=◌, need, cut, get_le}
use Rattle.octets.specs.Tests.{and_left, and_right, took, gave, need_inv, need_true}
use Rattle.octets.specs.Laws.{no_bytes, cut-back, cut-only, le_exact}
use Rattle.number.specs.PkgLength.{largest}
use Rattle.number.specs.Get.{get_pkg_length}
use Rattle.number.proofs.PkgLengthExact.{pkg_length_exact}
use Rattle.grammar.specs.declared.Place.{Place}
use Rattle.grammar.specs.declared.Rest.{Rest}
use Rattle.grammar.specs.declared.Rest.TheVariants.{Nothing, Arity, Listed, Counted, Measured}
use Rattle.grammar.specs.declared.Row.{Row}
use Rattle.grammar.specs.Kinds.{child_place, counts, args_at}
use Rattle.grammar.specs.Forest.{Fields, Forest, nil, node, count}
use Rattle.fields.specs.Fields.{in_range, spelled}
use Rattle.fields.specs.Written.{field_bytes}
use Rattle.fields.specs.Get.{get_fields}
use Rattle.tree.specs.Fits.{Args}
use Rattle.tree.specs.Bytes.{front, back, before, behind, body, box, bytes}
use Rattle.tree.specs.Read.{Body, Tree, onto, times, list, get_many, get_kids, get_body, unbox}
use Rattle.tree.specs.Good.{tree, tree_bytes}
use Rattle.octets.specs.Matches.{end_nil, Matches, regood, reput, recast, never, seq}
use Rattle.fields.specs.WrittenLaws.{readable, ends_fields, fields_exact}

-- ── A body in its box, which has room for it
unfoldable pub room_for : Bool → List ℕ → Bool
room_for x bs = not x || leb (length bs) (largest true)

pub box-least : (x : Bool) (bs : List ℕ) → length bs ≤ length (box x bs)
unfolding box
box-least true bs = simp length-append (omega arith)
box-least false bs = omega arith

module _ (e : Bool) (put : Body → List ℕ) (get : Reader Body) (good : Body → Type 0) (X : Matches e put get good) where
  box-back : (b : Body) (r : List ℕ) → T (room_for true (put b)) → good b → unbox true get (box true (put b) ++ r) ≡ some (b, r)
  unfolding unbox box room_for ◌>>=◌
  box-back b r l h =
      let whole : get (put b) ≡ some (b, []) = rw append-nil at (X.back b [] (end_nil e) h) in
      rw (append_assoc, (pkg_length_exact true).back (length (put b)) (put b ++ r) (leb→le (length (put b)) (largest true) l), cut-back (put b) r, whole) (need_true (eqb 0 0) _ tt)

  box-only : (bs : List ℕ) (b : Body) (r : List ℕ) → unbox true get bs ≡ some (b, r) → (T (room_for true (put b)) × good b) × (bs ≡ box true (put b) ++ r)
  unfolding unbox box room_for
  box-only bs b r h =
      took (get_pkg_length true bs) _ h λ n z h₁ h₂.
      took (cut n z) _ h₂ λ inner y h₃ h₄.
      took (get inner) _ h₄ λ v w h₅ h₆.
      let (t, h₇) = need_inv (eqb (length w) 0) _ _ h₆ in
      let (p, q) = gave h₇ in
      let (l, e₁) = (pkg_length_exact true).only bs n z h₁ in
      let (e₂, e₃) = cut-only n z inner y h₃ in
      let (k, e₄) = X.only inner v w h₅ in
      let same : put v ≡ inner = sym (e₄ ∙ ap (λ w. put v ++ w) (no_bytes w (eqb→eq (length w) 0 t)) ∙ append-nil (put v)) in
      rw (← p, ← q, same, e₂, append_assoc, ← e₃) ((le→leb n (largest true) l, k), e₁)

pub box_exact : (x e : Bool) (put : Body → List ℕ) (get : Reader Body) (good : Body → Type 0) → T (x || not e) → Matches e put get good
    → Matches false (λ b. box x (put b)) (unbox x get) (λ b. T (room_for x (put b)) × good b)
unfolding unbox box room_for
box_exact true e put get good h X = record { back = λ b r en g. box-back e put get good X b r g.0 g.1; only = box-only e put get good X }
box_exact false e put get good h X = regood (never e h X) (λ b g. g.1) (λ b g. (tt, g))

-- ── Children
-- each term of a forest, of which term j stands in the place of j
unfoldable pub Each : (Place → Tree → Type 0) → (ℕ → Place) → ℕ → Forest → Type 0
Each G place j nil = Unit {0}
Each G place j (node k v c s) = G (place j) (tree k v c) × Each G place (suc j) s

-- whether the children go to the end of the body
unfoldable pub ends_rest : Rest → Bool
ends_rest Nothing = false
ends_rest Arity = false
ends_rest Listed = true
ends_rest Counted = false
ends_rest Measured = false

-- where the fields may stand: before a list and the arguments of a path, behind a number of children; templates are not read
unfoldable pub ordered : Rest → Bool → Bool
ordered Nothing last = true
ordered Arity last = not last
ordered Listed last = not last
ordered Counted last = last
ordered Measured last = false

-- how many are read
Many : Rest → ℕ → ℕ → ℕ → Type 0
Many Nothing operands args n = n ≡ operands
Many Arity operands args n = n ≡ args
Many Listed operands args n = Unit {0}
Many Counted operands args n = n < 256
Many Measured operands args n = ⊥

counted_many : (y : Rest) (l : Bool) (operands args n : ℕ) → T (ordered y l) → T (counts y operands args n) → Many y operands args n
unfolding ordered counts Many
counted_many Nothing l operands args n o t = eqb→eq n operands t
counted_many Arity l operands args n o t = eqb→eq n args t
counted_many Listed l operands args n o t = tt
counted_many Counted l operands args n o t = let h : n ≤ 255 = leb→le n 255 t in omega arith
counted_many Measured l operands args n o t = absurd o

-- before the fields: children that do not go to the end, and whose number is not the path's arity
never_ends : (y : Rest) → T (ordered y true) → T (not (ends_rest y))
unfolding ordered ends_rest
never_ends Nothing o = tt
never_ends Arity o = absurd o
never_ends Listed o = absurd o
never_ends Counted o = tt
never_ends Measured o = absurd o

counts_any : (y : Rest) (operands a b n : ℕ) → T (ordered y true) → T (counts y operands a n) → T (counts y operands b n)
unfolding ordered counts
counts_any Nothing operands a b n o t = t
counts_any Arity operands a b n o t = absurd o
counts_any Listed operands a b n o t = t
counts_any Counted operands a b n o t = t
counts_any Measured operands a b n o t = t

-- behind the fields: children with nothing before them
front-none : (y : Rest) (n : ℕ) (bs : List ℕ) → T (ordered y false) → front y n bs ≡ []
unfolding ordered front
front-none Nothing n bs o = refl
front-none Arity n bs o = refl
front-none Listed n bs o = refl
front-none Counted n bs o = absurd o
front-none Measured n bs o = absurd o

back_none : (y : Rest) (l : Bool) → T (ordered y l) → back y ≡ []
unfolding ordered back
back_none Nothing l o = refl
back_none Arity l o = refl
back_none Listed l o = refl
back_none Counted l o = refl
back_none Measured l o = absurd o

-- ── What is asked of a row whose terms are read
unfoldable pub ends_body : Row → Bool → Bool
ends_body r true = ends_fields r
ends_body r false = ends_rest r.rest

-- its fields can be read back; fields that stand first do not go to the end; a body that goes to the end is in a box
unfoldable pub solid : Row → Bool
solid r = readable r && ordered r.rest r.last && (r.last || not (ends_fields r)) && (r.boxed || not (ends_body r r.last))

-- a body in the order in which it is read
body_by : Row → Bool → Body → List ℕ
body_by r true b = front r.rest (count b.kids) (bytes b.kids) ++ bytes b.kids ++ field_bytes r b.fields
body_by r false b = field_bytes r b.fields ++ (front r.rest (count b.kids) (bytes b.kids) ++ bytes b.kids)

unfoldable pub body_bytes : Row → Body → List ℕ
body_bytes r b = body r b.fields (count b.kids) (bytes b.kids)

body-by : (r : Row) (l : Bool) → T (ordered r.rest l) → (b : Body)
    → body_by r l b ≡ cond l (front r.rest (count b.kids) (bytes b.kids)) (field_bytes r b.fields) ++ (bytes b.kids ++ cond l (field_bytes r b.fields ++ back r.rest) [])
unfolding body_by
body-by r true o b = rw (back_none r.rest true o, append-nil, append_assoc)
body-by r false o b = rw (front-none r.rest (count b.kids) (bytes b.kids) o, append-nil)

-- the fields of a row, and the children by these and their place
abbrev pub FieldsGood : Row → Fields → Type 0
FieldsGood r v = T (in_range r v.text v.a v.x) × T (spelled r v.text)

unfoldable pub BodyGood : Args → (Place → Tree → Type 0) → Place → Row → Body → Type 0
BodyGood args G p r b =
    FieldsGood r b.fields × T (counts r.rest r.operands (args_at p (args b.fields.text)) (count b.kids)) × Each G (child_place r) 0 b.kids

-- a list goes to the end
pub list-ends : (g : Place → Reader Tree) (place : ℕ → Place) (n j : ℕ) (bs : List ℕ) (f : Forest) (r : List ℕ) → list g place n j bs ≡ some (f, r) → r ≡ []
unfolding list
list-ends g place zero j bs f r h =
    let (t, h₁) = need_inv (eqb (length bs) 0) _ _ h in
    sym (gave h₁).1 ∙ no_bytes bs (eqb→eq (length bs) 0 t)
list-ends g place (suc n) j [] f r h = sym (gave h).1
list-ends g place (suc n) j (b ∷ bs) f r h =
    took (g (place j) (b ∷ bs)) _ h λ t z h₁ h₂.
    took (list g place n (suc j) z) _ h₂ λ s y h₃ h₄.
    sym (gave h₄).1 ∙ list-ends g place n (suc j) z s y h₃

-- readers g of single terms that match the terms G, none of which is empty
module _
    (G : Place → Tree → Type 0)
    (g : Place → Reader Tree)
    (X : (p : Place) → Matches false tree_bytes (g p) (G p))
    (N : (p : Place) (t : Tree) → G p t → 0 < length (tree_bytes t))
  where
    times-back : (place : ℕ → Place) (n j : ℕ) (f : Forest) (r : List ℕ) → Each G place j f → count f ≡ n → times g place n j (bytes f ++ r) ≡ some (f, r)
    unfolding times Each bytes tree_bytes count ◌>>=◌
    times-back place zero j nil r h e = refl
    times-back place zero j (node k v c s) r h e = let z : ⊥ = omega arith in absurd z
    times-back place (suc n) j nil r h e = let z : ⊥ = omega arith in absurd z
    times-back place (suc n) j (node k v c s) r h e =
        rw (append_assoc (tree_bytes (tree k v c)) (bytes s) r, (X (place j)).back (tree k v c) (bytes s ++ r) tt h.0, times-back place n (suc j) s r h.1 (omega arith))

    times-only : (place : ℕ → Place) (n j : ℕ) (bs : List ℕ) (f : Forest) (r : List ℕ) → times g place n j bs ≡ some (f, r) → (Each G place j f × (count f ≡ n)) × (bs ≡ bytes f ++ r)
    unfolding times Each bytes tree_bytes count
    times-only place zero j bs f r h = let (p, q) = gave h in rw (← p) ((tt, refl), q)
    times-only place (suc n) j bs f r h =
        took (g (place j) bs) _ h λ t z h₁ h₂.
        took (times g place n (suc j) z) _ h₂ λ s y h₃ h₄.
        let (q, e) = gave h₄ in
        let (a₁, e₁) = (X (place j)).only bs t z h₁ in
        let (a₂, e₂) = times-only place n (suc j) z s y h₃ in
        rw (← q) (((a₁, a₂.0), ap suc a₂.1), rw (← e, append_assoc, ← e₂) e₁)

    times_exact : (place : ℕ → Place) (n : ℕ) → Matches false bytes (times g place n 0) (λ f. Each G place 0 f × (count f ≡ n))
    times_exact place n = record { back = λ f r en h. times-back place n 0 f r h.0 h.1; only = times-only place n 0 }

    list-step : (place : ℕ → Place) (n j : ℕ) (bs : List ℕ) → 0 < length bs
        → list g place (suc n) j bs ≡ (g (place j) bs >>= λ u. list g place n (suc j) u.1 >>= λ w. some (onto u.0 w.0, w.1))
    unfolding list
    list-step place n j [] h = let z : ⊥ = omega arith in absurd z
    list-step place n j (b ∷ bs) h = refl

    more_bytes : (p : Place) (k : ℕ) (v : Fields) (c s : Forest) (n : ℕ) → G p (tree k v c) → length (bytes (node k v c s)) ≤ n → (0 < length (bytes (node k v c s))) × (suc (length (bytes s)) ≤ n)
    unfolding bytes tree_bytes
    more_bytes p k v c s n a l = omega (arith, N p (tree k v c) a, length-append (tree_bytes (tree k v c)) (bytes s))

    list_back : (place : ℕ → Place) (n j : ℕ) (f : Forest) → Each G place j f → length (bytes f) ≤ n → list g place n j (bytes f) ≡ some (f, [])
    unfolding list bytes Each need ◌>>=◌ tree_bytes
    list_back place zero j nil a l = refl
    list_back place zero j (node k v c s) a l = let z : ⊥ = omega (arith, more_bytes (place j) k v c s 0 a.0 l) in absurd z
    list_back place (suc n) j nil a l = refl
    list_back place (suc n) j (node k v c s) a l =
        let (h, m) = more_bytes (place j) k v c s (suc n) a.0 l in
        list-step place n j (tree_bytes (tree k v c) ++ bytes s) h ∙ rw ((X (place j)).back (tree k v c) (bytes s) tt a.0, list_back place n (suc j) s a.1 (omega arith))

    list-only : (place : ℕ → Place) (n j : ℕ) (bs : List ℕ) (f : Forest) (r : List ℕ) → list g place n j bs ≡ some (f, r) → Each G place j f × (bs ≡ bytes f ++ r)
    unfolding list bytes Each tree_bytes
    list-only place zero j bs f r h =
        let (t, h₁) = need_inv (eqb (length bs) 0) _ _ h in
        let (p, q) = gave h₁ in
        rw (← p) (tt, q)
    list-only place (suc n) j [] f r h = let (p, q) = gave h in rw (← p) (tt, q)
    list-only place (suc n) j (b ∷ bs) f r h =
        took (g (place j) (b ∷ bs)) _ h λ t z h₁ h₂.
        took (list g place n (suc j) z) _ h₂ λ s y h₃ h₄.
        let (p, e) = gave h₄ in
        let (a₁, e₁) = (X (place j)).only (b ∷ bs) t z h₁ in
        let (a₂, e₂) = list-only place n (suc j) z s y h₃ in
        rw (← p) ((a₁, a₂), rw (← e, append_assoc, ← e₂) e₁)

    pub list_exact : (place : ℕ → Place) → Matches true bytes (λ bs. list g place (length bs) 0 bs) (Each G place 0)
    list_exact place = record {
      back = λ f r en h. rw (en, append-nil (bytes f)) (list_back place (length (bytes f)) 0 f h (omega arith));
      only = λ bs f r h. list-only place (length bs) 0 bs f r h;
    }

    module _ (r : Row) (args : ℕ) where
      many_exact : (y : Rest) → Matches (ends_rest y) (λ c. front y (count c) (bytes c) ++ bytes c) (get_many g r args y) (λ c. Each G (child_place r) 0 c × Many y r.operands args (count c))
      unfolding ends_rest front get_many Many ◌>>=◌
      many_exact Nothing = times_exact (child_place r) r.operands
      many_exact Arity = times_exact (child_place r) args
      many_exact Listed = regood (list_exact (child_place r)) (λ c h. h.0) (λ c h. (h, tt))
      many_exact Counted = record {
        back = λ c z en h. rw (append_assoc, (le_exact 1).back (count c) (bytes c ++ z) h.1) (times-back (child_place r) (count c) 0 c z h.0 refl);
        only = λ bs c z h.
            took (get_le 1 bs) _ h λ n y h₁ h₂.
            let (l, e₁) = (le_exact 1).only bs n y h₁ in
            let (a, e₂) = times-only (child_place r) n 0 y c z h₂ in
            rw a.1 ((a.0, l), rw (append_assoc, ← e₂) e₁);
      }
      many_exact Measured = record { back = λ c z en h. absurd h.1; only = λ bs c z h. absurd (none-ne-some _ h) }

      abbrev Kids : Forest → Type 0
      Kids c = T (counts r.rest r.operands args (count c)) × Each G (child_place r) 0 c

      kids_exact : (l : Bool) → T (ordered r.rest l) → Matches (ends_rest r.rest) (λ c. front r.rest (count c) (bytes c) ++ bytes c) (get_kids g r args) Kids
      unfolding get_kids
      kids_exact l o =
          recast (many_exact r.rest) (λ c. counts r.rest r.operands args (count c)) (λ c. c) (λ c. c) Kids
          (λ c h. ((h.1, counted_many r.rest l r.operands args (count c) o h.0), h.0, refl))
          (λ c h t. ((t, h.0), refl))

    module _ (args : Args) (p : Place) (r : Row) where
      inner_exact : (l : Bool) → T (readable r) → T (ordered r.rest l) → T (l || not (ends_fields r)) → Matches (ends_body r l) (body_by r l) (get_body args g p r l) (BodyGood args G p r)
      unfolding body_by get_body BodyGood ends_body
      inner_exact true w o s =
          regood
          (seq (ends_fields r) (λ c. front r.rest (count c) (bytes c) ++ bytes c) (get_kids g r 0) (Kids r 0)
          (λ c. field_bytes r) (λ c. get_fields r) (λ c. FieldsGood r)
          (λ c v. record { fields = v; kids = c }) (λ b. b.kids) (λ b. b.fields) (λ b. refl) (λ c v. refl) (λ c v. refl)
          (never (ends_rest r.rest) (never_ends r.rest o) (kids_exact r 0 true o)) (λ c. fields_exact r w))
          (λ b h. ((counts_any r.rest r.operands _ 0 (count b.kids) o h.1, h.2), h.0))
          (λ b h. (h.1, counts_any r.rest r.operands 0 _ (count b.kids) o h.0.0, h.0.1))
      inner_exact false w o s =
          regood
          (seq (ends_rest r.rest) (field_bytes r) (get_fields r) (FieldsGood r)
          (λ v c. front r.rest (count c) (bytes c) ++ bytes c) (λ v. get_kids g r (args_at p (args v.text))) (λ v. Kids r (args_at p (args v.text)))
          (λ v c. record { fields = v; kids = c }) (λ b. b.fields) (λ b. b.kids) (λ b. refl) (λ v c. refl) (λ v c. refl)
          (never (ends_fields r) s (fields_exact r w)) (λ v. kids_exact r (args_at p (args v.text)) false o))
          (λ b h. (h.0, (h.1, h.2))) (λ b h. (h.0, h.1.0, h.1.1))

      pub body_exact : T (solid r) → Matches false (λ b. box r.boxed (body_bytes r b)) (unbox r.boxed (get_body args g p r r.last)) (λ b. T (room_for r.boxed (body_bytes r b)) × BodyGood args G p r b)
      unfolding solid body_bytes body before behind
      body_exact t =
          let w : T (readable r) = search (and_left, and_right) in
          let o : T (ordered r.rest r.last) = search (and_left, and_right) in
          let s : T (r.last || not (ends_fields r)) = search (and_left, and_right) in
          let n : T (r.boxed || not (ends_body r r.last)) = search (and_left, and_right) in
          box_exact r.boxed (ends_body r r.last) (body_bytes r) (get_body args g p r r.last) (BodyGood args G p r) n
          (reput (λ b h. body-by r r.last o b) (inner_exact r.last w o s))

-- Exactness of terms and of whole forests: the reader gives back each forest that fits, is normal and roomy from its bytes, and whatever it
-- reads is the bytes of such a forest; so bytes tell such forests apart, and no term's bytes begin another's.
-- Assumes nothing.
use Rattle.std.specs.Prelude.{◌≡◌, false, ◌&&◌, not, eqb, length}
use Rattle.std.proofs.Math.Path.{refl, ap}
use Rattle.std.proofs.Common.{sym, ◌∙◌, sub-one}
use Rattle.std.proofs.Math.Bool.{true}
use Rattle.std.proofs.Math.Option.{some, none-ne-some, some-injective}
use mathlib.Core.List.{List, [], ◌++◌, append_assoc, append-nil}
use Prim.Native.Nat.{ℕ, zero, suc, ◌<◌}
use Rattle.std.proofs.Math.Dec.{T, eqb-suc-zero}
use Rattle.std.proofs.Math.Seq.{drop-append_seam}
use Rattle.octets.specs.Bytes.{◌>>=◌, begins}
use Rattle.octets.specs.Tests.{and_left, and_right, and_both, took, took₁, gave, need_inv, need_true}
use Rattle.octets.specs.Laws.{begins-back, begins-only}
use Rattle.grammar.specs.declared.Place.{Place}
use Rattle.grammar.specs.declared.Place.TheVariants.{InList}
use Rattle.grammar.specs.declared.Row.{Row}
use Rattle.grammar.specs.Kinds.{stands, child_place, opcode, normal_kinds, find, row_of, row_in}
use Rattle.grammar.specs.Forest.{Fields, Forest, nil, node, count}
use Rattle.tree.specs.Fits.{Args, fine, known, term_fits, Fits}
use Rattle.tree.specs.Bytes.{box, term_bytes, bytes}
use Rattle.tree.specs.Normal.{body_fits, roomy}
use Rattle.tree.specs.IsNormal.{is_normal, normal}
use Rattle.tree.specs.Read.{Tree, onto, kind_at, literal, list, get_body, unbox, read, parse}
use Rattle.tree.specs.Good.{tree, tree_bytes, Good}
use Rattle.octets.specs.Matches.{Matches, regood}
use Rattle.grammar.specs.KindLaws.{found-kind}
use Rattle.tree.proofs.BodyLaws.{Each, room_for, body_bytes, BodyGood, list-ends, list_exact, body_exact}
use Rattle.tree.proofs.TableLaws.{normal-row, normal-found, found-normal, solid-row, kind-begins, kind-bytes}

-- a term's bytes are those of the forest that it is
pub tree-forest : (t : Tree) → bytes (onto t nil) ≡ tree_bytes t
unfolding bytes tree_bytes
tree-forest t = append-nil _

-- ── These very bytes
literal-back : (op x : List ℕ) → literal op (op ++ x) ≡ some x
unfolding literal
literal-back op x = need_true (begins op (op ++ x)) _ (begins-back op x) ∙ ap some (drop-append_seam op x)

literal-only : (op bs y : List ℕ) → literal op bs ≡ some y → bs ≡ op ++ y
unfolding literal
literal-only op bs y h =
    let (t, e) = need_inv (begins op bs) _ _ h in
    begins-only op bs t ∙ ap (λ z. op ++ z) (some-injective _ _ e)

-- ── A forest is good where each of its terms is
module _ (args : Args) (l : ℕ) (place : ℕ → Place) where
  pub each-good : (j : ℕ) (f : Forest) → Fits args place l j f → T (normal f) → T (roomy f) → Each (Good args l) place j f
  unfolding Each Good Fits normal roomy
  each-good j nil h n m = tt
  each-good j (node k v c s) h n m =
      let n₁ : T (is_normal k && normal c && true) = search (and_left, and_right, and_both) in
      (((h.0, h.1, tt), n₁, search (and_left, and_right, and_both)), each-good (suc j) s h.2 (search (and_left, and_right)) (search (and_left, and_right)))

  pub good-each : (j : ℕ) (f : Forest) → Each (Good args l) place j f → Fits args place l j f × T (normal f) × T (roomy f)
  unfolding Each Good Fits normal roomy
  good-each j nil h = (tt, tt, tt)
  good-each j (node k v c s) h =
      let (g, a) = h in
      let (f, n, m) = g in
      let (fs, ns, ms) = good-each (suc j) s a in
      let n₁ : T (is_normal k && normal c) = and_left (is_normal k && normal c) true n in
      let m₁ : T (body_fits (row_in (row_of k)) v c && roomy c) = and_left (body_fits (row_in (row_of k)) v c && roomy c) true m in
      ((f.0, f.1, fs), and_both (is_normal k && normal c) (normal s) n₁ ns, and_both (body_fits (row_in (row_of k)) v c && roomy c) (roomy s) m₁ ms)

-- ── A good term by its row
record Standing (args : Args) (l : ℕ) (p : Place) (t : Tree) : Type 0 where
  row : Row
  found : find t.kind normal_kinds ≡ some row
  here : T (stands row.places p)
  room : T (room_for row.boxed (body_bytes row t.body))
  good : BodyGood args (Good args l) p row t.body

row_is : (k : ℕ) {r : Row} → find k normal_kinds ≡ some r → row_in (row_of k) ≡ r
unfolding row_in
row_is k e = rw (normal-row k e)

good_standing : (args : Args) (l : ℕ) (p : Place) (t : Tree) → Good args (suc l) p t → Standing args l p t
unfolding Good Fits term_fits known fine normal roomy body_fits room_for body_bytes BodyGood
good_standing args l p t h =
    let k = t.kind in
    let v = t.body.fields in
    let c = t.body.kids in
    let (f, n, m) = h in
    normal-found k (search (and_left, and_right)) λ r e.
    let fits : T (fine args r p (suc l) v (count c)) = rw (normal-row k e) at f.0 in
    let kids : Fits args (child_place r) l 0 c = rw (row_is k e, sub-one (suc l)) at f.1 in
    let full : T (body_fits r v c && roomy c && true) = rw (row_is k e) at m in
    record {
      row = r;
      found = e;
      here = search (and_left, and_right);
      room = search (and_left, and_right);
      good = (
        (search (and_left, and_right), search (and_left, and_right)),
        search (and_left, and_right),
        each-good args l (child_place r) 0 c kids (search (and_left, and_right)) (search (and_left, and_right)),
      );
    }

standing_good : (args : Args) (l : ℕ) (p : Place) (t : Tree) → Standing args l p t → Good args (suc l) p t
unfolding Good Fits term_fits known fine normal roomy body_fits room_for body_bytes BodyGood row_in
standing_good args l p t s =
    let k = t.kind in
    let v = t.body.fields in
    let c = t.body.kids in
    let r = s.row in
    let (f, n, m) = good-each args l (child_place r) 0 c s.good.2 in
    let i = s.good.0.0 in
    let w = s.good.0.1 in
    let y = s.good.1 in
    let h = s.here in
    let z : T (not (eqb (suc l) 0)) = rw (eqb-suc-zero l) tt in
    let fits : T (fine args r p (suc l) v (count c)) = search and_both in
    let o = s.room in
    let kind : T (is_normal k) = found-normal k s.found in
    let full : T (body_fits r v c && roomy c && true) = search and_both in
    rw (normal-row k s.found) ((fits, rw (sub-one (suc l)) f, tt), search and_both, full)

has_levels : (args : Args) (r : Row) (p : Place) (l : ℕ) (v : Fields) (n : ℕ) → T (fine args r p l v n) → T (not (eqb l 0))
unfolding fine
has_levels args r p l v n t = search (and_left, and_right)

good_zero : (args : Args) (p : Place) (t : Tree) → Good args 0 p t → ⊥
unfolding Good Fits term_fits known normal
good_zero args p t h =
    normal-found t.kind (and_left (is_normal t.kind) _ (and_left (is_normal t.kind && normal t.body.kids) true h.1)) λ r e.
    has_levels args r p 0 t.body.fields (count t.body.kids) (rw (normal-row t.kind e) at h.0.0)

tree-bytes : (t : Tree) {r : Row} → find t.kind normal_kinds ≡ some r → tree_bytes t ≡ opcode r ++ box r.boxed (body_bytes r t.body)
unfolding tree_bytes term_bytes body_bytes
tree-bytes t e = rw (row_is t.kind e)

module _ (args : Args) where
  -- a term's first bytes tell its kind; and so it has some
  begins-kind : (l : ℕ) (p : Place) (t : Tree) (x : List ℕ) → Standing args l p t → kind_at p (tree_bytes t ++ x) ≡ t.kind
  unfolding BodyGood
  begins-kind l p t x s = rw (tree-bytes t s.found) (kind-begins t.kind p t.body x s.found s.here s.good.0)

  pub some_bytes : (l : ℕ) (p : Place) (t : Tree) → Good args l p t → 0 < length (tree_bytes t)
  some_bytes zero p t h = absurd (good_zero args p t h)
  some_bytes (suc l) p t h =
      let s = good_standing args l p t h in
      rw append-nil at (kind-bytes p (tree_bytes t ++ []) t.kind (begins-kind l p t [] s) s.found)

  -- one level above readers that match
  module _ (l : ℕ) (X : (p : Place) → Matches false tree_bytes (read args l p) (Good args l p)) where
    node_exact : (p : Place) (k : ℕ) {r : Row} → find k normal_kinds ≡ some r → Matches false (λ b. box r.boxed (body_bytes r b)) (unbox r.boxed (get_body args (read args l) p r r.last)) (λ b. T (room_for r.boxed (body_bytes r b)) × BodyGood args (Good args l) p r b)
    node_exact p k {r} e = body_exact (Good args l) (read args l) X (some_bytes l) args p r (solid-row k e)

    step_back : (p : Place) (t : Tree) (x : List ℕ) → Good args (suc l) p t → read args (suc l) p (tree_bytes t ++ x) ≡ some (t, x)
    unfolding read ◌>>=◌
    step_back p t x h =
        let s = good_standing args l p t h in
        let r = s.row in
        rw (begins-kind l p t x s, s.found) (need_true (stands r.places p) _ s.here
        ∙ rw (tree-bytes t s.found, append_assoc (opcode r), literal-back (opcode r) _, (node_exact p t.kind s.found).back t.body x tt (s.room, s.good))
        (ap (λ k. some (tree k t.body.fields t.body.kids, x)) (found-kind t.kind normal_kinds s.found)))

    step-only : (p : Place) (bs : List ℕ) (t : Tree) (x : List ℕ) → read args (suc l) p bs ≡ some (t, x) → Good args (suc l) p t × (bs ≡ tree_bytes t ++ x)
    unfolding read
    step-only p bs t x h =
        took₁ (find (kind_at p bs) normal_kinds) _ h λ r h₁ h₂.
        let (a, h₃) = need_inv (stands r.places p) _ _ h₂ in
        took₁ (literal (opcode r) bs) _ h₃ λ y h₄ h₅.
        took (unbox r.boxed (get_body args (read args l) p r r.last) y) _ h₅ λ b z h₆ h₇.
        let (q, e) = gave h₇ in
        let found : find r.kind normal_kinds ≡ some r = ap (λ k. find k normal_kinds) (found-kind (kind_at p bs) normal_kinds h₁) ∙ h₁ in
        let (g, e₁) = (node_exact p r.kind found).only y b z h₆ in
        let u : Tree = record { kind = r.kind; body = b } in
        rw (← q, ← e) (
          standing_good args l p u (record { row = r; found = found; here = a; room = g.0; good = g.1 }),
          literal-only (opcode r) bs y h₄ ∙ rw (tree-bytes u found, append_assoc (opcode r)) (ap (λ w. opcode r ++ w) e₁),
        )

  pub read_exact : (l : ℕ) (p : Place) → Matches false tree_bytes (read args l p) (Good args l p)
  unfolding read
  read_exact zero p = record { back = λ t x en h. absurd (good_zero args p t h); only = λ bs t x h. absurd (none-ne-some _ h) }
  read_exact (suc l) p = record { back = λ t x en h. step_back l (read_exact l) p t x h; only = step-only l (read_exact l) p }

  -- no term's bytes begin another's
  pub no_prefix : (l : ℕ) (p : Place) (t u : Tree) (x y : List ℕ) → Good args l p t → Good args l p u → tree_bytes t ++ x ≡ tree_bytes u ++ y → (t ≡ u) × (x ≡ y)
  no_prefix l p t u x y g h e = gave (sym ((read_exact l p).back t x tt g) ∙ rw e ((read_exact l p).back u y tt h))

  -- ── Whole forests
  pub forest_exact : (l : ℕ) (place : ℕ → Place) → Matches true bytes (λ bs. list (read args l) place (length bs) 0 bs) (λ f. Fits args place l 0 f × T (normal f) × T (roomy f))
  forest_exact l place =
      regood (list_exact (Good args l) (read args l) (read_exact l) (some_bytes l) place)
      (λ f h. each-good args l place 0 f h.0 h.1 h.2) (λ f h. good-each args l place 0 f h)

  pub parse-back : (f : Forest) → Fits args (λ _. InList) 64 0 f → T (normal f) → T (roomy f) → parse args (bytes f) ≡ some f
  unfolding parse ◌>>=◌
  parse-back f h n m =
      let e : list (read args 64) (λ _. InList) (length (bytes f)) 0 (bytes f) ≡ some (f, []) = rw append-nil at ((forest_exact 64 (λ _. InList)).back f [] refl (h, n, m)) in
      rw e

  pub parse-only : (bs : List ℕ) (f : Forest) → parse args bs ≡ some f → Fits args (λ _. InList) 64 0 f × T (normal f) × T (roomy f) × (bs ≡ bytes f)
  unfolding parse
  parse-only bs f h =
      took (list (read args 64) (λ _. InList) (length bs) 0 bs) _ h λ g x h₁ h₂.
      let (k, e) = (forest_exact 64 (λ _. InList)).only bs g x h₁ in
      let q : bs ≡ bytes g = e ∙ ap (λ y. bytes g ++ y) (list-ends (read args 64) (λ _. InList) (length bs) 0 bs g x h₁) ∙ append-nil (bytes g) in
      rw (← (some-injective g f h₂)) (k.0, k.1, k.2, q)

  pub bytes_injective : (f g : Forest) → Fits args (λ _. InList) 64 0 f → T (normal f) → T (roomy f) → Fits args (λ _. InList) 64 0 g → T (normal g) → T (roomy g) → bytes f ≡ bytes g → f ≡ g
  bytes_injective f g hf nf mf hg ng mg e = some-injective f g (sym (parse-back f hf nf mf) ∙ rw e (parse-back g hg ng mg))

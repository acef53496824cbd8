-- The rows of the normal kinds pass the tests that the reading of terms asks of them; and each term begins as its kind is recognised.
-- Assumes nothing.
use Rattle.std.specs.Prelude.{◌≡◌, refl, Bool, true, false, ◌&&◌, ◌||◌, not, cond, List, [], ◌∷◌, ◌++◌, ℕ, zero, suc, ◌<◌, T, eqb, length}
use Rattle.std.proofs.Common.{sym, ◌∙◌, ap, append_assoc, arith, not-suc-le-zero, T_not, eqb→eq}
use Rattle.std.proofs.Math.Option.{Option, none, some, none-ne-some}
use Rattle.std.proofs.Math.Decide.{ℕ_discrete}
use Rattle.octets.specs.Bytes.{le, value}
use Rattle.octets.specs.Tests.{and_left, and_right, or_case, cond_true, cond_false, cond_inv, cond_case}
use Rattle.path.specs.Path.{lead_name}
use Rattle.path.specs.Get.{name_start}
use Rattle.grammar.specs.declared.Place.{Place}
use Rattle.grammar.specs.declared.Place.TheVariants.{InList, Operand, Datum, Element, FieldEntry, Descriptor}
use Rattle.grammar.specs.declared.Row.{Row}
use Rattle.grammar.specs.Kinds.{rank, is, stands, opcode, normal_kinds, other_kinds, kinds, find, row_of}
use Rattle.grammar.specs.Family.{begins_integer, begins_text, begins_numbers, starts, family_name, family_in, family_of}
use Rattle.fields.specs.Written.{field_bytes}
use Rattle.tree.specs.Bytes.{before, body, box}
use Rattle.tree.specs.IsNormal.{is_normal}
use Rattle.tree.specs.Read.{Body, twofold, kind_in, entry_in, kind_at}
use Rattle.grammar.specs.KindLaws.{every_row, found-kind, found-rule}
use Rattle.fields.specs.WrittenLaws.{ends_text, ends_fields, readable_text, readable_form, no_bytes, readable}
use Rattle.tree.specs.StartLaws.{opens_form, opens_text, first_of, opens, first, fields-start}
use Rattle.tree.proofs.BodyLaws.{ends_rest, ordered, ends_body, solid, body_bytes, FieldsGood}

-- ── A normal kind's row is its row in the whole table
found-append : (k : ℕ) (rs ss : List Row) {r : Row} → find k rs ≡ some r → find k (rs ++ ss) ≡ some r
unfolding find
found-append k [] ss h = absurd (none-ne-some _ h)
found-append k (q ∷ rs) ss h =
    cond_inv (eqb k q.kind) _ _ h (λ t e. cond_true (eqb k q.kind) _ _ t ∙ e) (λ t e. cond_false (eqb k q.kind) _ _ t ∙ found-append k rs ss e)

pub normal-row : (k : ℕ) {r : Row} → find k normal_kinds ≡ some r → row_of k ≡ some r
unfolding row_of kinds
normal-row k h = found-append k normal_kinds other_kinds h

either : {A C : Type 0} (o : Option A) → (o ≡ none → C) → ((v : A) → o ≡ some v → C) → C
either none f g = f refl
either (some v) f g = g v refl

pub normal-found : {C : Type 0} (k : ℕ) → T (is_normal k) → ((r : Row) → find k normal_kinds ≡ some r → C) → C
unfolding is_normal
normal-found k t f = either (find k normal_kinds) (λ e. absurd (rw e at t)) f

pub found-normal : (k : ℕ) {r : Row} → find k normal_kinds ≡ some r → T (is_normal k)
unfolding is_normal
found-normal k e = rw e tt

no_zero : find 0 normal_kinds ≡ none
unfolding find normal_kinds
no_zero = refl

-- ── Every row is solid
solid_all : T (every_row solid normal_kinds)
unfolding every_row normal_kinds solid readable readable_text readable_form no_bytes ordered ends_body ends_fields ends_text ends_rest
solid_all = tt

pub solid-row : (k : ℕ) {r : Row} → find k normal_kinds ≡ some r → T (solid r)
solid-row k h = found-rule k solid normal_kinds solid_all h

-- ── The kind is recognised
upto : ℕ → (ℕ → Bool) → Bool
upto zero f = true
upto (suc n) f = f n && upto n f

upto-at : (n : ℕ) (f : ℕ → Bool) → T (upto n f) → (i : ℕ) → i < n → T (f i)
unfolding upto
upto-at zero f t i h = absurd (not-suc-le-zero h)
upto-at (suc n) f t i h = go (ℕ_discrete i n) (upto-at n f (and_right (f n) (upto n f) t) i)
  where
    go : Dec (i ≡ n) → (i < n → T (f i)) → T (f i)
    go (yes e) k = rw e (and_left (f n) (upto n f) t)
    go (no ne) k = k (omega arith)

-- these bytes tell the kind, whatever follows them
tells : Place → List ℕ → ℕ → Bool
tells p [] k = false
tells p (b ∷ []) k = (is p FieldEntry || not (twofold b)) && eqb (kind_at p (b ∷ [])) k
tells p (b ∷ c ∷ bs) k = eqb (kind_at p (b ∷ c ∷ bs)) k

kind-alike : (e w : Bool) (x m n y : ℕ) → T (e || not w) → cond e x (cond w m y) ≡ cond e x (cond w n y)
kind-alike true w x m n y t = refl
kind-alike false true x m n y t = absurd t
kind-alike false false x m n y t = refl

tells_more : (p : Place) (op x : List ℕ) (k : ℕ) → T (tells p op k) → kind_at p (op ++ x) ≡ k
unfolding tells kind_at kind_in entry_in
tells_more p [] x k t = absurd t
tells_more p (b ∷ []) x k t =
    kind-alike (is p FieldEntry) (twofold b) _ _ _ (family_of b) (and_left (is p FieldEntry || not (twofold b)) _ t)
    ∙ eqb→eq (kind_at p (b ∷ [])) k (and_right (is p FieldEntry || not (twofold b)) _ t)
tells_more p (b ∷ c ∷ op) x k t = eqb→eq (kind_at p (b ∷ c ∷ op)) k t

-- a kind with no opcode stands bare, its fields first, and each byte that may begin them tells it
bare : Place → Row → Bool
bare p r = not r.boxed && not r.last && opens r && upto 256 (λ b. not (first r b) || tells p (b ∷ []) r.kind)

leads : Place → Row → Bool
leads p r = cond (eqb r.ops 0) (bare p r) (tells p (opcode r) r.kind)

-- wherever the kind may stand
leads_in : Row → Place → Bool
leads_in r p = not (stands r.places p) || leads p r

each_place : (Place → Bool) → Bool
each_place f = f InList && f Operand && f Datum && f Element && f FieldEntry && f Descriptor

each-place : (f : Place → Bool) → T (each_place f) → (p : Place) → T (f p)
unfolding each_place
each-place f t InList = search (and_left, and_right)
each-place f t Operand = search (and_left, and_right)
each-place f t Datum = search (and_left, and_right)
each-place f t Element = search (and_left, and_right)
each-place f t FieldEntry = search (and_left, and_right)
each-place f t Descriptor = search (and_left, and_right)

leads_all : T (every_row (λ r. each_place (leads_in r)) normal_kinds)
unfolding every_row normal_kinds each_place leads_in stands is rank leads bare opens opens_text opens_form upto first first_of lead_name begins_text begins_numbers begins_integer name_start tells kind_at kind_in entry_in twofold family_of family_in family_name starts opcode le value
leads_all = tt

leads-row : (k : ℕ) {r : Row} (p : Place) → find k normal_kinds ≡ some r → T (stands r.places p) → T (leads p r)
unfolding leads_in
leads-row k {r} p h s =
    or_case (not (stands r.places p)) (leads p r) (each-place (leads_in r) (found-rule k (λ r. each_place (leads_in r)) normal_kinds leads_all h) p)
    (λ n. absurd (T_not (stands r.places p) n s)) (λ t. t)

no_opcode : (r : Row) → r.ops ≡ 0 → opcode r ≡ []
unfolding opcode le
no_opcode r e = ap (λ n. le n r.op) e

bare-bytes : (x l : Bool) (y z w : List ℕ) → T (not x) → T (not l) → box x (cond l y z ++ w) ≡ z ++ w
unfolding box
bare-bytes true l y z w nx nl = absurd nx
bare-bytes false true y z w nx nl = absurd nl
bare-bytes false false y z w nx nl = refl

bare-begins : (p : Place) (r : Row) (b : Body) (x : List ℕ) → r.ops ≡ 0 → T (bare p r) → FieldsGood r b.fields → kind_at p (opcode r ++ box r.boxed (body_bytes r b) ++ x) ≡ r.kind
unfolding bare body_bytes body before
bare-begins p r b x z c g =
    let nx : T (not r.boxed) = search (and_left, and_right) in
    let nl : T (not r.last) = search (and_left, and_right) in
    let o : T (opens r) = search (and_left, and_right) in
    let up : T (upto 256 (λ b. not (first r b) || tells p (b ∷ []) r.kind)) = search (and_left, and_right) in
    let (a, s, e, i, l) = fields-start r b.fields o g.0 g.1 in
    let j : T (tells p (a ∷ []) r.kind) =
    or_case (not (first r a)) (tells p (a ∷ []) r.kind) (upto-at 256 (λ b. not (first r b) || tells p (b ∷ []) r.kind) up a l)
    (λ n. absurd (T_not (first r a) n i)) (λ m. m)
    in
    rw (no_opcode r z, bare-bytes r.boxed r.last _ (field_bytes r b.fields) _ nx nl, e) (tells_more p (a ∷ []) _ r.kind j)

-- a term tells its kind wherever it may stand, whatever follows it
pub kind-begins : (k : ℕ) {r : Row} (p : Place) (b : Body) (x : List ℕ) → find k normal_kinds ≡ some r → T (stands r.places p) → FieldsGood r b.fields
    → kind_at p (opcode r ++ box r.boxed (body_bytes r b) ++ x) ≡ k
unfolding leads
kind-begins k {r} p b x h s g =
    cond_case (λ c. T c → kind_at p (opcode r ++ box r.boxed (body_bytes r b) ++ x) ≡ r.kind) (eqb r.ops 0) (bare p r) (tells p (opcode r) r.kind)
    (λ z c. bare-begins p r b x (eqb→eq r.ops 0 z) c g)
    (λ n c. rw (append_assoc (opcode r)) (tells_more p (opcode r) _ r.kind c))
    (leads-row k p h s)
    ∙ found-kind k normal_kinds h

-- no kind begins where there are no bytes
pub kind-bytes : (p : Place) (bs : List ℕ) (k : ℕ) {r : Row} → kind_at p bs ≡ k → find k normal_kinds ≡ some r → 0 < length bs
unfolding kind_at kind_in entry_in
kind-bytes p [] k e h = absurd (none-ne-some _ (sym (none-at (is p FieldEntry)) ∙ ap (λ i. find i normal_kinds) e ∙ h))
  where
    none-at : (b : Bool) → find (cond b 0 0) normal_kinds ≡ none
    none-at true = no_zero
    none-at false = no_zero
kind-bytes p (b ∷ bs) k e h = omega arith

-- Laws of the normal form: it has the same bytes and as many terms, fits where the forest fits if it is not too deep, is normal, and is
-- its own normal form; of a normal forest it is that forest. For what is parsed, and for encoding and normalising.
-- Assumes nothing.
use Rattle.std.specs.Prelude.{◌≡◌, refl, Bool, true, false, ◌&&◌, ◌||◌, not, List, [], ◌++◌, ℕ, suc, ◌+◌, ◌-◌, ◌≤◌, ◌<◌, ◌^◌, eqb, ltb, leb, length}
use Rattle.std.proofs.Common.{◌∙◌, ap, ap₂, append-nil, arith, le-leb, T_not, eqb→eq, leb→le, le→leb, length-append}
use Rattle.std.proofs.Math.Option.{Option, none, some}
use Rattle.std.proofs.Math.Dec.{T, leb-suc-zero}
use Rattle.octets.specs.Bytes.{le, value}
use Rattle.octets.specs.Tests.{and_left, and_right, and_both, or_case, or_left, test_true, cond_false, cond_case, not_equal, positive}
use Rattle.number.specs.Integer.{integer}
use Rattle.number.specs.PkgLength.{largest}
use Rattle.number.specs.Buffer.{boxed, buffer}
use Rattle.number.specs.IntegerLaws.{integer-most}
use Rattle.number.specs.PkgLengthLaws.{largest-most}
use Rattle.ident.specs.Ident.{eisa_id, uuid_bytes, uuid}
use Rattle.ident.specs.IdentLaws.{eisa-small, uuid-length}
use Rattle.descriptor.specs.Template.{end_tag}
use Rattle.grammar.specs.declared.Place.{Place}
use Rattle.grammar.specs.declared.Place.TheVariants.{InList, Operand, Datum, Element, FieldEntry, Descriptor}
use Rattle.grammar.specs.declared.Places.{Places}
use Rattle.grammar.specs.declared.Places.TheVariants.{Data}
use Rattle.grammar.specs.declared.Text.{Text}
use Rattle.grammar.specs.declared.Text.TheVariants.{Unused, AnyBytes, EisaText, UuidText}
use Rattle.grammar.specs.declared.Numbers.{Numbers}
use Rattle.grammar.specs.declared.Numbers.TheVariants.{IntegerX}
use Rattle.grammar.specs.declared.Rest.{Rest}
use Rattle.grammar.specs.declared.Rest.TheVariants.{Nothing, Arity, Listed, Counted, Measured}
use Rattle.grammar.specs.declared.Row.{Row}
use Rattle.grammar.specs.Kinds.{rank, is, stands, child_place, counts, args_at, opcode, no_numbers, plain, container, normal_kinds, other_kinds, kinds, find, row_of, row_in}
use Rattle.grammar.specs.KindLaws.{every_row, found-rule, found-kind}
use Rattle.grammar.specs.Forest.{Fields, Forest, nil, node, count, depth}
use Rattle.fields.specs.Fields.{in_range, numbers_fit, form_fits, text_fits, spelled, text_spelled}
use Rattle.fields.specs.Written.{field_bytes, text_bytes, form_bytes}
use Rattle.tree.specs.Bytes.{front, back, before, behind, body, box, term_bytes, bytes}
use Rattle.tree.specs.Fits.{Args, fine, known, term_fits, Fits}
use Rattle.tree.specs.Normal.{numbers, integer_term, buffer_term, norm, body_fits, roomy}
use Rattle.tree.specs.IsNormal.{is_normal, normal}

abbrev texts : List ℕ → Fields
texts t = record { text = t; a = 0; x = 0 }

-- ── The kinds that have another normal form
abbrev keeps : ℕ → Bool
keeps k = not (eqb k 0xE001) && not (eqb k 0xE002) && not (eqb k 0xE003)

norm_case : (P : Forest → Type 0) (k : ℕ) (v : Fields) (c s : Forest)
    → (k ≡ 0xE001 → P (integer_term (eisa_id v.text) (norm s)))
    → (k ≡ 0xE002 → P (buffer_term (uuid_bytes v.text) (norm s)))
    → (k ≡ 0xE003 → P (buffer_term (bytes c ++ end_tag) (norm s)))
    → (T (keeps k) → P (node k v (norm c) (norm s)))
    → P (norm (node k v c s))
unfolding norm
norm_case P k v c s f g h o =
    cond_case P (eqb k 0xE001) _ _ (λ t. f (eqb→eq k 0xE001 t)) λ t₁.
    cond_case P (eqb k 0xE002) _ _ (λ t. g (eqb→eq k 0xE002 t)) λ t₂.
    cond_case P (eqb k 0xE003) _ _ (λ t. h (eqb→eq k 0xE003 t)) λ t₃.
    o (search and_both)

norm-keeps : (k : ℕ) (v : Fields) (c s : Forest) → T (keeps k) → norm (node k v c s) ≡ node k v (norm c) (norm s)
unfolding norm
norm-keeps k v c s t =
    cond_false (eqb k 0xE001) _ _ (search (and_left, and_right))
    ∙ cond_false (eqb k 0xE002) _ _ (search (and_left, and_right))
    ∙ cond_false (eqb k 0xE003) _ _ (search (and_left, and_right))

-- ── Its own normal form, as many terms, at most one level more
pub norm-norm : (f : Forest) → norm (norm f) ≡ norm f
unfolding norm
norm-norm nil = refl
norm-norm (node k v c s) =
    norm_case (λ f. norm f ≡ f) k v c s
    (λ e. ap (integer_term (eisa_id v.text)) (norm-norm s))
    (λ e. ap (buffer_term (uuid_bytes v.text)) (norm-norm s))
    (λ e. ap (buffer_term (bytes c ++ end_tag)) (norm-norm s))
    (λ t. norm-keeps k v (norm c) (norm s) t ∙ ap₂ (node k v) (norm-norm c) (norm-norm s))

pub norm-count : (f : Forest) → count (norm f) ≡ count f
unfolding norm count
norm-count nil = refl
norm-count (node k v c s) =
    let e : suc (count (norm s)) ≡ suc (count s) = ap suc (norm-count s) in
    norm_case (λ f. count f ≡ suc (count s)) k v c s (λ _. e) (λ _. e) (λ _. e) (λ _. e)

pub norm-deeper : (f : Forest) → depth (norm f) ≤ depth f + 1
unfolding norm depth
norm-deeper nil = omega arith
norm-deeper (node k v c s) =
    let e = norm-deeper s in
    norm_case (λ f. depth f ≤ depth (node k v c s) + 1) k v c s (λ _. omega arith) (λ _. omega arith) (λ _. omega arith) (λ _. omega (arith, norm-deeper c))

-- ── What a term that fits has: a row, and what the row asks for
known-row : (args : Args) (o : Option Row) (p : Place) (l : ℕ) (v : Fields) (n : ℕ) → T (known args o p l v n) → (o ≡ some (row_in o)) × T (fine args (row_in o) p l v n)
unfolding known row_in
known-row args none p l v n t = absurd t
known-row args (some r) p l v n t = (refl, t)

module _ (args : Args) (p : Place) (l k : ℕ) (v : Fields) (n : ℕ) (t : T (term_fits args p l k v n)) where
  has_row : row_of k ≡ some (row_in (row_of k))
  unfolding term_fits
  has_row = (known-row args (row_of k) p l v n t).0

  is-fine : T (fine args (row_in (row_of k)) p l v n)
  unfolding term_fits
  is-fine = (known-row args (row_of k) p l v n t).1

  has_count : T (counts (row_in (row_of k)).rest (row_in (row_of k)).operands (args_at p (args v.text)) n)
  unfolding fine
  has_count = let t = is-fine in search (and_left, and_right)

  may_stand : T (stands (row_in (row_of k)).places p)
  unfolding fine
  may_stand = let t = is-fine in search (and_left, and_right)

  has_level : 1 ≤ l
  unfolding fine
  has_level = let t = is-fine in let u : T (not (eqb l 0)) = search (and_left, and_right) in positive l u

pub norm-depth : (args : Args) (place : ℕ → Place) (l j : ℕ) (f : Forest) → Fits args place l j f → depth f ≤ l
unfolding Fits depth
norm-depth args place l j nil h = omega arith
norm-depth args place l j (node k v c s) h =
    omega (arith, has_level args (place j) l k v (count c) h.0, norm-depth args (child_place (row_in (row_of k))) (l - 1) 0 c h.1, norm-depth args place l (suc j) s h.2)

-- ── A test of every row is a rule of each kind that is known
rule : (f : Row → Bool) (rs : List Row) → T (every_row f rs) → (k : ℕ) {r : Row} → find k rs ≡ some r → T (f r) × (r.kind ≡ k)
rule f rs t k e = (found-rule k f rs t e, found-kind k rs e)

-- ── The rows that the normal form is about
row-integer : row_of 0x0E ≡ some (plain 0x0E Unused IntegerX 0 (2 ^ 64 - 1) Data)
unfolding row_of find kinds normal_kinds
row-integer = refl

row-buffer : row_of 0x11 ≡ some (container 0x11 0x11 1 Nothing Operand AnyBytes)
unfolding row_of find kinds normal_kinds
row-buffer = refl

row-eisa : row_of 0xE001 ≡ some (plain 0xE001 EisaText no_numbers 0 0 Data)
unfolding row_of find kinds normal_kinds other_kinds
row-eisa = refl

row-uuid : row_of 0xE002 ≡ some (plain 0xE002 UuidText no_numbers 0 0 Data)
unfolding row_of find kinds normal_kinds other_kinds
row-uuid = refl

row_template : row_of 0xE003 ≡ some (container 0xE003 0x11 0 Measured Descriptor Unused)
unfolding row_of find kinds normal_kinds other_kinds
row_template = refl

-- ── Bytes: of a term that is text and numbers alone, and of a term with a buffer's opcode
plain-bytes : (k : ℕ) (text : Text) (n : Numbers) (a x : ℕ) (ps : Places) (v : Fields) → term_bytes (plain k text n a x ps) v 0 [] ≡ text_bytes text k v ++ form_bytes n v.a v.x
unfolding term_bytes opcode le box body before behind field_bytes
plain-bytes k text n a x ps v = append-nil (text_bytes text k v ++ form_bytes n v.a v.x)

container-body : (k n : ℕ) (rest : Rest) (p : Place) (text : Text) (v : Fields) (m : ℕ) (bs : List ℕ)
    → body (container k 0x11 n rest p text) v m bs ≡ front rest m bs ++ (bs ++ (text_bytes text k v ++ back rest))
unfolding le body before behind field_bytes form_bytes
container-body k n rest p text v m bs = ap (λ t. front rest m bs ++ (bs ++ (t ++ back rest))) (append-nil (text_bytes text k v))

container-bytes : {o : Option Row} {k n : ℕ} {rest : Rest} {p : Place} {text : Text} (v : Fields) (m : ℕ) (bs : List ℕ) → o ≡ some (container k 0x11 n rest p text)
    → term_bytes (row_in o) v m bs ≡ boxed 0x11 (body (row_in o) v m bs)
unfolding row_in term_bytes opcode le value box boxed
container-bytes v m bs e = rw e refl

integer-bytes : (x : ℕ) (s : Forest) → bytes (integer_term x s) ≡ integer x ++ bytes s
unfolding bytes count row_in text_bytes form_bytes
integer-bytes x s = rw row-integer (ap (λ t. t ++ bytes s) (plain-bytes 0x0E Unused IntegerX 0 (2 ^ 64 - 1) Data (numbers x)))

buffer-body : (t : List ℕ) → body (row_in (row_of 0x11)) (texts t) 1 (bytes (integer_term (length t) nil)) ≡ integer (length t) ++ t
unfolding row_in text_bytes front back bytes
buffer-body t =
    let e : bytes (integer_term (length t) nil) ++ (t ++ []) ≡ integer (length t) ++ t = rw (integer-bytes (length t) nil, append-nil (integer (length t)), append-nil t) refl in
    rw row-buffer (container-body 0x11 1 Nothing Operand AnyBytes (texts t) 1 (bytes (integer_term (length t) nil)) ∙ e)

buffer-bytes : (t : List ℕ) (s : Forest) → bytes (buffer_term t s) ≡ buffer t ++ bytes s
unfolding bytes count buffer
buffer-bytes t s =
    ap (λ u. u ++ bytes s) (container-bytes (texts t) 1 (bytes (integer_term (length t) nil)) row-buffer ∙ ap (boxed 0x11) (buffer-body t))

eisa-bytes : (v : Fields) → term_bytes (row_in (row_of 0xE001)) v 0 [] ≡ integer (eisa_id v.text)
unfolding row_in text_bytes form_bytes le
eisa-bytes v = rw row-eisa (plain-bytes 0xE001 EisaText no_numbers 0 0 Data v) ∙ append-nil (integer (eisa_id v.text))

uuid-bytes : (v : Fields) → term_bytes (row_in (row_of 0xE002)) v 0 [] ≡ buffer (uuid_bytes v.text)
unfolding row_in text_bytes form_bytes le uuid
uuid-bytes v = rw row-uuid (plain-bytes 0xE002 UuidText no_numbers 0 0 Data v) ∙ append-nil (buffer (uuid_bytes v.text))

template_body : (v : Fields) (n : ℕ) (bs : List ℕ) → body (row_in (row_of 0xE003)) v n bs ≡ integer (length (bs ++ end_tag)) ++ (bs ++ end_tag)
unfolding row_in text_bytes front back
template_body v n bs = rw (row_template, length-append bs end_tag) (container-body 0xE003 0 Measured Descriptor Unused v n bs)

template_bytes : (v : Fields) (n : ℕ) (bs : List ℕ) → term_bytes (row_in (row_of 0xE003)) v n bs ≡ buffer (bs ++ end_tag)
unfolding buffer
template_bytes v n bs = container-bytes v n bs row_template ∙ ap (boxed 0x11) (template_body v n bs)

-- ── Kinds with no children
is_nothing : Rest → Bool
is_nothing Nothing = true
is_nothing Arity = false
is_nothing Listed = false
is_nothing Counted = false
is_nothing Measured = false

abbrev childless : Row → Bool
childless r = is_nothing r.rest && eqb r.operands 0

counts-none : (rest : Rest) (operands a n : ℕ) → T (is_nothing rest) → T (eqb operands 0) → T (counts rest operands a n) → n ≡ 0
unfolding is_nothing counts
counts-none Nothing operands a n t u h = eqb→eq n operands h ∙ eqb→eq operands 0 u
counts-none Arity operands a n t u h = absurd t
counts-none Listed operands a n t u h = absurd t
counts-none Counted operands a n t u h = absurd t
counts-none Measured operands a n t u h = absurd t

count-nil : (f : Forest) → count f ≡ 0 → f ≡ nil
unfolding count
count-nil nil e = refl
count-nil (node k v c s) e = let z : ⊥ = omega arith in absurd z

alone : (args : Args) (p : Place) (l k : ℕ) (v : Fields) (c : Forest) → T (childless (row_in (row_of k))) → T (term_fits args p l k v (count c)) → c ≡ nil
alone args p l k v c u t = count-nil c (counts-none (row_in (row_of k)).rest (row_in (row_of k)).operands _ (count c) (search and_left) (search and_right) (has_count args p l k v (count c) t))

eisa-alone : T (childless (row_in (row_of 0xE001)))
unfolding is_nothing row_in
eisa-alone = rw row-eisa tt

uuid-alone : T (childless (row_in (row_of 0xE002)))
unfolding is_nothing row_in
uuid-alone = rw row-uuid tt

pub bytes-norm : (args : Args) (place : ℕ → Place) (l j : ℕ) (f : Forest) → Fits args place l j f → bytes f ≡ bytes (norm f)
unfolding Fits bytes norm count
bytes-norm args place l j nil h = refl
bytes-norm args place l j (node k v c s) h =
    let e = bytes-norm args place l (suc j) s h.2 in
    norm_case (λ f. bytes (node k v c s) ≡ bytes f) k v c s
    (λ i. rw (i, alone args (place j) l k v c (rw i eisa-alone) h.0, eisa-bytes v, integer-bytes (eisa_id v.text) (norm s), e) refl)
    (λ i. rw (i, alone args (place j) l k v c (rw i uuid-alone) h.0, uuid-bytes v, buffer-bytes (uuid_bytes v.text) (norm s), e) refl)
    (λ i. rw (i, template_bytes v (count c) (bytes c), buffer-bytes (bytes c ++ end_tag) (norm s), e) refl)
    (λ t. rw (norm-count c, ← (bytes-norm args (child_place (row_in (row_of k))) (l - 1) 0 c h.1), ← e) refl)

-- ── A normal forest is its own normal form
find-normal : (k : ℕ) (o : Option Row) → find k normal_kinds ≡ o → T (is_normal k) → (r : Row) × (find k normal_kinds ≡ some r)
unfolding is_normal
find-normal k none e t = absurd (rw e at t)
find-normal k (some r) e t = (r, e)

keeps_all : T (every_row (λ r. keeps r.kind) normal_kinds)
unfolding every_row normal_kinds
keeps_all = tt

normal-keeps : (k : ℕ) → T (is_normal k) → T (keeps k)
normal-keeps k t =
    let (r, e) = find-normal k (find k normal_kinds) refl t in
    let (u, i) = rule (λ r. keeps r.kind) normal_kinds keeps_all k e in
    rw i at u

pub norm_fixed : (f : Forest) → T (normal f) → norm f ≡ f
unfolding normal norm
norm_fixed nil t = refl
norm_fixed (node k v c s) t =
    norm-keeps k v c s (normal-keeps k (search (and_left, and_right)))
    ∙ ap₂ (node k v) (norm_fixed c (search (and_left, and_right))) (norm_fixed s (search (and_left, and_right)))

-- ── The normal form is normal: what is not normal and has no other form is a descriptor, and only a template has descriptors
abbrev upper : Place → Bool
upper p = not (is p Descriptor)

-- a row that stands in p and keeps its form
tame : Place → Row → Bool
tame p r = not (stands r.places p) || not (keeps r.kind) || (is_normal r.kind && upper r.operand && upper r.place)

tame_all : (p : Place) → T (upper p) → T (every_row (tame p) kinds)
unfolding every_row tame kinds normal_kinds other_kinds stands is rank is_normal find
tame_all InList u = tt
tame_all Operand u = tt
tame_all Datum u = tt
tame_all Element u = tt
tame_all FieldEntry u = tt
tame_all Descriptor u = absurd u

tame-at : (args : Args) (p : Place) (l k : ℕ) (v : Fields) (n : ℕ) → T (upper p) → T (keeps k) → T (term_fits args p l k v n)
    → T (is_normal k) × ((j : ℕ) → T (upper (child_place (row_in (row_of k)) j)))
unfolding tame row_of child_place
tame-at args p l k v n u w t =
    let r = row_in (row_of k) in
    let (b, i) = rule (tame p) kinds (tame_all p u) k (has_row args p l k v n t) in
    or_case (not (stands r.places p) || not (keeps r.kind)) (is_normal r.kind && upper r.operand && upper r.place) b
    (λ o. or_case (not (stands r.places p)) (not (keeps r.kind)) o
    (λ d. absurd (T_not (stands r.places p) d (may_stand args p l k v n t)))
    (λ d. absurd (T_not (keeps k) (rw i at d) w)))
    λ y.
    let f : T (upper r.operand) = search (and_left, and_right) in
    let g : T (upper r.place) = search (and_left, and_right) in
    let o : T (is_normal r.kind) = search (and_left, and_right) in
    (rw i at o, λ j. cond_case (λ q. T (upper q)) (ltb j r.operands) r.operand r.place (λ _. f) (λ _. g))

integer-normal : (x : ℕ) (s : Forest) → T (normal s) → T (normal (integer_term x s))
unfolding normal is_normal find normal_kinds
integer-normal x s t = t

buffer-normal : (b : List ℕ) (s : Forest) → T (normal s) → T (normal (buffer_term b s))
unfolding normal is_normal find normal_kinds
buffer-normal b s t = t

pub norm-normal : (args : Args) (place : ℕ → Place) (l j : ℕ) (f : Forest) → ((i : ℕ) → T (not (is (place i) Descriptor))) → Fits args place l j f → T (normal (norm f))
unfolding Fits norm normal
norm-normal args place l j nil u h = tt
norm-normal args place l j (node k v c s) u h =
    let t = norm-normal args place l (suc j) s u h.2 in
    norm_case (λ f. T (normal f)) k v c s
    (λ i. integer-normal (eisa_id v.text) (norm s) t)
    (λ i. buffer-normal (uuid_bytes v.text) (norm s) t)
    (λ i. buffer-normal (bytes c ++ end_tag) (norm s) t)
    λ w.
    let (n, q) = tame-at args (place j) l k v (count c) (u j) w h.0 in
    let r = norm-normal args (child_place (row_in (row_of k))) (l - 1) 0 c q h.1 in
    search and_both

-- ── Room: each body with a length before it is as long in the normal form
container-room : {o : Option Row} {k n : ℕ} {rest : Rest} {p : Place} {text : Text} (v : Fields) (c : Forest) → o ≡ some (container k 0x11 n rest p text)
    → body_fits (row_in o) v c ≡ leb (length (body (row_in o) v (count c) (bytes c))) (largest true)
unfolding row_in body_fits
container-room v c e = rw e refl

plain-room : {o : Option Row} {k a x : ℕ} {text : Text} {n : Numbers} {ps : Places} (v : Fields) (c : Forest) → o ≡ some (plain k text n a x ps) → body_fits (row_in o) v c ≡ true
unfolding row_in body_fits
plain-room v c e = rw e refl

buffer-room : (t : List ℕ) → body_fits (row_in (row_of 0x11)) (texts t) (integer_term (length t) nil) ≡ leb (length (integer (length t) ++ t)) (largest true)
unfolding count
buffer-room t = container-room (texts t) (integer_term (length t) nil) row-buffer ∙ ap (λ b. leb (length b) (largest true)) (buffer-body t)

template_room : (v : Fields) (c : Forest) → body_fits (row_in (row_of 0xE003)) v c ≡ leb (length (integer (length (bytes c ++ end_tag)) ++ (bytes c ++ end_tag))) (largest true)
template_room v c = container-room v c row_template ∙ ap (λ b. leb (length b) (largest true)) (template_body v (count c) (bytes c))

short-room : (t : List ℕ) → length t ≤ 16 → body_fits (row_in (row_of 0x11)) (texts t) (integer_term (length t) nil) ≡ true
short-room t h =
    buffer-room t ∙ le-leb (length (integer (length t) ++ t)) (largest true) (omega (arith, integer-most (length t), length-append (integer (length t)) t))

-- a descriptor has no length before it, and no children
bare : Row → Bool
bare r = not (stands r.places Descriptor) || (not r.boxed && childless r)

bare_all : T (every_row bare kinds)
unfolding every_row bare kinds normal_kinds other_kinds stands is rank is_nothing
bare_all = tt

bare-at : (args : Args) (l k : ℕ) (v : Fields) (c : Forest) → T (term_fits args Descriptor l k v (count c)) → T (body_fits (row_in (row_of k)) v c) × (c ≡ nil)
unfolding bare row_of body_fits
bare-at args l k v c t =
    let r = row_in (row_of k) in
    or_case (not (stands r.places Descriptor)) (not r.boxed && childless r) (rule bare kinds bare_all k (has_row args Descriptor l k v (count c) t)).0
    (λ d. absurd (T_not (stands r.places Descriptor) d (may_stand args Descriptor l k v (count c) t)))
    λ y. (or_left (not r.boxed) _ (and_left (not r.boxed) (childless r) y), alone args Descriptor l k v c (and_right (not r.boxed) (childless r) y) t)

descriptors_roomy : (args : Args) (place : ℕ → Place) (l j : ℕ) (f : Forest) → ((i : ℕ) → place i ≡ Descriptor) → Fits args place l j f → T (roomy f)
unfolding Fits roomy
descriptors_roomy args place l j nil p h = tt
descriptors_roomy args place l j (node k v c s) p h =
    let (b, e) = bare-at args l k v c (rw (p j) at h.0) in
    let w : T (roomy c) = rw e tt in
    let t = descriptors_roomy args place l (suc j) s p h.2 in
    search and_both

template_place : (i : ℕ) → child_place (row_in (row_of 0xE003)) i ≡ Descriptor
unfolding child_place row_in
template_place i = rw (row_template, leb-suc-zero i) refl

same-room : (r : Row) (v : Fields) (c : Forest) → bytes c ≡ bytes (norm c) → body_fits r v (norm c) ≡ body_fits r v c
unfolding body_fits
same-room r v c e = rw (norm-count c, ← e) refl

pub norm-roomy : (args : Args) (place : ℕ → Place) (l j : ℕ) (f : Forest) → Fits args place l j f → roomy (norm f) ≡ roomy f
unfolding Fits norm roomy
norm-roomy args place l j nil h = refl
norm-roomy args place l j (node k v c s) h =
    let e = norm-roomy args place l (suc j) s h.2 in
    norm_case (λ f. roomy f ≡ roomy (node k v c s)) k v c s
    (λ i. rw (plain-room (numbers (eisa_id v.text)) nil row-integer, i, alone args (place j) l k v c (rw i eisa-alone) h.0, plain-room v nil row-eisa, e) refl)
    (λ i.
    rw (short-room (uuid_bytes v.text) (omega (arith, uuid-length v.text)), plain-room (numbers (length (uuid_bytes v.text))) nil row-integer, i, alone args (place j) l k v c (rw i uuid-alone) h.0, plain-room v nil row-uuid, e)
    refl)
    (λ i.
    let w = test_true (roomy c) (descriptors_roomy args (child_place (row_in (row_of k))) (l - 1) 0 c (rw i template_place) h.1) in
    rw (buffer-room (bytes c ++ end_tag), plain-room (numbers (length (bytes c ++ end_tag))) nil row-integer, i, template_room v c, w, e) refl)
    λ t.
    let q = child_place (row_in (row_of k)) in
    rw (same-room (row_in (row_of k)) v c (bytes-norm args q (l - 1) 0 c h.1), norm-roomy args q (l - 1) 0 c h.1, e) refl

-- ── The normal form fits
-- an integer and a buffer may stand where data may stand
integer-fits : (args : Args) (p : Place) (l x : ℕ) → T (stands Data p) → 1 ≤ l → x < 2 ^ 64 → T (term_fits args p l 0x0E (numbers x) 0)
unfolding term_fits known fine in_range numbers_fit form_fits text_fits spelled text_spelled counts
integer-fits args p l x h m u =
    let a : T (leb x (2 ^ 64 - 1)) = le→leb x (2 ^ 64 - 1) (omega arith) in
    let b : T (not (eqb l 0)) = not_equal l 0 (λ e. omega arith) in
    rw row-integer (search and_both depth 8)

buffer-fits : (args : Args) (p : Place) (l : ℕ) (t : List ℕ) → T (stands Data p) → 1 ≤ l → T (term_fits args p l 0x11 (texts t) 1)
unfolding term_fits known fine in_range numbers_fit form_fits text_fits spelled text_spelled counts
buffer-fits args p l t h m =
    let b : T (not (eqb l 0)) = not_equal l 0 (λ e. omega arith) in
    rw row-buffer (search and_both)

-- where a kind with another form may stand
other_place : (args : Args) (p : Place) (l k : ℕ) (v : Fields) (n : ℕ) {r : Row} → row_of k ≡ some r → T (term_fits args p l k v n) → T (stands r.places p)
unfolding row_in
other_place args p l k v n e t = rw e at (may_stand args p l k v n t)

size-place : T (stands Data (child_place (row_in (row_of 0x11)) 0))
unfolding stands child_place is rank row_in
size-place = rw row-buffer tt

-- the text of a buffer that has room
room-short : (t : List ℕ) (s : Forest) → T (roomy (buffer_term t s)) → length t < 2 ^ 64
unfolding roomy
room-short t s h =
    let a : T (body_fits (row_in (row_of 0x11)) (texts t) (integer_term (length t) nil)) = search (and_left, and_right) in
    let b : T (leb (length (integer (length t) ++ t)) (largest true)) = rw (buffer-room t) at a in
    omega (arith, leb→le (length (integer (length t) ++ t)) (largest true) b, largest-most true, length-append (integer (length t)) t)

module _ (args : Args) (place : ℕ → Place) (l j : ℕ) (s : Forest) (h : depth s ≤ l → T (roomy s) → Fits args place l (suc j) s) (p : T (stands Data (place j))) where
  integer-stands : (x : ℕ) → x < 2 ^ 64 → depth (integer_term x s) ≤ l → T (roomy (integer_term x s)) → Fits args place l j (integer_term x s)
  unfolding Fits depth roomy count
  integer-stands x u d r = (integer-fits args (place j) l x p (omega arith) u, tt, h (omega arith) (search and_right))

  buffer-stands : (b : List ℕ) → depth (buffer_term b s) ≤ l → T (roomy (buffer_term b s)) → Fits args place l j (buffer_term b s)
  unfolding Fits depth roomy count
  buffer-stands b d r =
      let size = integer-fits args (child_place (row_in (row_of 0x11)) 0) (l - 1) (length b) size-place (omega arith) (room-short b s r) in
      (buffer-fits args (place j) l b p (omega arith), (size, tt, tt), h (omega arith) (search and_right))

-- a buffer's size stands one level below what it was made of
pub norm-fits : (args : Args) (place : ℕ → Place) (l j : ℕ) (f : Forest) → Fits args place l j f → depth (norm f) ≤ l → T (roomy (norm f)) → Fits args place l j (norm f)
unfolding Fits norm depth roomy
norm-fits args place l j nil h = λ d r. tt
norm-fits args place l j (node k v c s) h =
    let rest = norm-fits args place l (suc j) s h.2 in
    norm_case (λ f. depth f ≤ l → T (roomy f) → Fits args place l j f) k v c s
    (λ i. integer-stands args place l j (norm s) rest (other_place args (place j) l k v (count c) (ap row_of i ∙ row-eisa) h.0) (eisa_id v.text) (omega (arith, eisa-small v.text)))
    (λ i. buffer-stands args place l j (norm s) rest (other_place args (place j) l k v (count c) (ap row_of i ∙ row-uuid) h.0) (uuid_bytes v.text))
    (λ i. buffer-stands args place l j (norm s) rest (other_place args (place j) l k v (count c) (ap row_of i ∙ row_template) h.0) (bytes c ++ end_tag))
    λ t d r. (
      rw (norm-count c) h.0,
      norm-fits args (child_place (row_in (row_of k))) (l - 1) 0 c h.1 (omega arith) (search (and_left, and_right)),
      rest (omega arith) (search and_right),
    )

-- How many arguments a term takes: those of its path, if it is a call; other kinds do not ask.
-- Assumes nothing.
use Rattle.std.specs.Prelude.{◌≡◌, refl, Bool, true, false, ◌&&◌, ◌||◌, not, cond, List, ℕ, ◌-◌, T, leb, length}
use Rattle.std.proofs.Common.{◌∙◌, ap, true≢false, eqb→eq}
use Rattle.std.proofs.Math.Option.{some}
use Rattle.std.proofs.Math.ListN.{drop}
use Rattle.octets.specs.Bytes.{Reader, ◌>>=◌, need, every, cut, value, get_le}
use Rattle.octets.specs.Reading.{Got}
use Rattle.octets.specs.Tests.{and_left, and_right, took, gave, need_inv}
use Rattle.path.specs.Get.{get_path_text, get_path_length, path_text}
use Rattle.grammar.specs.declared.Place.{Place}
use Rattle.grammar.specs.declared.Place.TheVariants.{InList, Operand, Datum, Element, FieldEntry, Descriptor}
use Rattle.grammar.specs.declared.Text.{Text}
use Rattle.grammar.specs.declared.Text.TheVariants.{Unused, PathText, SegmentText, Ascii, AnyBytes, EisaText, UuidText, DescriptorText}
use Rattle.grammar.specs.declared.Numbers.{Numbers}
use Rattle.grammar.specs.declared.Numbers.TheVariants.{Digits, MethodFlags, LevelOrder, FieldFlags, IntegerX, LengthX}
use Rattle.grammar.specs.declared.Rest.{Rest}
use Rattle.grammar.specs.declared.Rest.TheVariants.{Nothing, Arity, Listed, Counted, Measured}
use Rattle.grammar.specs.declared.Row.{Row}
use Rattle.grammar.specs.Kinds.{is, rank, counts, args_at, normal_kinds, find}
use Rattle.grammar.specs.KindLaws.{every_row, found-rule}
use Rattle.fields.specs.Get.{get_text, get_form, get_fields}
use Rattle.fields.specs.WrittenLaws.{no_bytes}
use Rattle.grammar.specs.Forest.{Forest, count}
use Rattle.tree.specs.Fits.{Args}
use Rattle.tree.specs.Read.{Tree, get_many, get_kids}
use Rattle.taken.specs.Taken.{Took}
use Rattle.taken.specs.Standing.{took-path}
use Rattle.walk.specs.Walk.{is_call}

-- ── What the code answers
module _ (p : Place) (args : ℕ) where
  pub call_element : {t : Rest} → p ≡ Element → t ≡ Arity → 0 ≡ cond (is_call t) (args_at p args) 0
  unfolding is_call args_at is rank
  call_element e f = rw (e, f) refl

  pub call-other : {t : Rest} → (p ≡ Element → ⊥) → t ≡ Arity → {n : ℕ} → n ≡ args → n ≡ cond (is_call t) (args_at p args) 0
  unfolding is_call args_at is rank
  call-other n f e = rw f (e ∙ not-element p n)
    where
      not-element : (p : Place) → (p ≡ Element → ⊥) → args ≡ args_at p args
      not-element InList n = refl
      not-element Operand n = refl
      not-element Datum n = refl
      not-element Element n = absurd (n refl)
      not-element FieldEntry n = refl
      not-element Descriptor n = refl

  pub no-call : (t : Rest) → (t ≡ Arity → ⊥) → 0 ≡ cond (is_call t) (args_at p args) 0
  unfolding is_call
  no-call Nothing n = refl
  no-call Arity n = absurd (n refl)
  no-call Listed n = refl
  no-call Counted n = refl
  no-call Measured n = refl

pub is-call : {t : Rest} → t ≡ Arity → is_call t ≡ true
unfolding is_call
is-call e = rw e refl

-- ── A call has a path, and no numbers
unfoldable pub is_path_text : Text → Bool
is_path_text Unused = false
is_path_text PathText = true
is_path_text SegmentText = false
is_path_text Ascii = false
is_path_text AnyBytes = false
is_path_text EisaText = false
is_path_text UuidText = false
is_path_text DescriptorText = false

pub is-path_text : {y : Text} → y ≡ PathText → true ≡ is_path_text y
unfolding is_path_text
is-path_text e = rw e refl

path_form : (y : Text) → T (is_path_text y) → y ≡ PathText
unfolding is_path_text
path_form Unused h = absurd h
path_form PathText h = refl
path_form SegmentText h = absurd h
path_form Ascii h = absurd h
path_form AnyBytes h = absurd h
path_form EisaText h = absurd h
path_form UuidText h = absurd h
path_form DescriptorText h = absurd h

pub not-path_text : (y : Text) → (y ≡ PathText → ⊥) → false ≡ is_path_text y
not-path_text y n = by (is_path_text y) refl
  where
    by : (b : Bool) → is_path_text y ≡ b → false ≡ b
    by true e = absurd (n (path_form y (rw e tt)))
    by false e = refl

calling : Row → Bool
calling r = not (is_call r.rest) || (is_path_text r.text && no_bytes r.numbers)

calling_all : T (every_row calling normal_kinds)
unfolding every_row normal_kinds calling is_call is_path_text no_bytes
calling_all = tt

is-calling : {r : Row} → find r.kind normal_kinds ≡ some r → is_call r.rest ≡ true → (r.text ≡ PathText) × T (no_bytes r.numbers)
unfolding calling
is-calling {r} f h =
    let t : T (not (is_call r.rest) || (is_path_text r.text && no_bytes r.numbers)) = found-rule r.kind calling normal_kinds calling_all f in
    let u : T (is_path_text r.text && no_bytes r.numbers) = rw h at t in
    (path_form r.text (and_left (is_path_text r.text) (no_bytes r.numbers) u), and_right (is_path_text r.text) (no_bytes r.numbers) u)

-- other kinds do not ask
kids-same : (g : Place → Reader Tree) (r : Row) (m n : ℕ) (bs : List ℕ) → is_call r.rest ≡ false → get_kids g r m bs ≡ get_kids g r n bs
unfolding get_kids get_many counts is_call
kids-same g r m n bs h = by r.rest h
  where
    by : (t : Rest) → is_call t ≡ false
        → ◌>>=◌ {B = Forest × List ℕ} (get_many g r m t bs) (λ v. need (counts t r.operands m (count v.0)) (some (v.0, v.1))) ≡ (get_many g r n t bs >>= λ v. need (counts t r.operands n (count v.0)) (some (v.0, v.1)))
    by Nothing h = refl
    by Arity h = absurd (true≢false h)
    by Listed h = refl
    by Counted h = refl
    by Measured h = refl

-- no bytes hold no number
form_same : (f : Numbers) (alimit xlimit : ℕ) (bs : List ℕ) (v : ℕ × ℕ) (r : List ℕ) → T (no_bytes f) → get_form f alimit xlimit bs ≡ some (v, r) → bs ≡ r
unfolding no_bytes get_form get_le cut every value ◌>>=◌ need
form_same (Digits n base) alimit xlimit bs v r t h =
    let z : n ≡ 0 = eqb→eq n 0 t in
    let c = leb base 0 && leb (0 - base) alimit in
    let y : (ℕ × ℕ) × List ℕ = ((0 - base, 0), bs) in
    let k : need c (some y) ≡ some (v, r) = rw z at h in
    (gave (need_inv c (some y) (v, r) k).1).1
form_same MethodFlags alimit xlimit bs v r t h = absurd t
form_same LevelOrder alimit xlimit bs v r t h = absurd t
form_same FieldFlags alimit xlimit bs v r t h = absurd t
form_same IntegerX alimit xlimit bs v r t h = absurd t
form_same LengthX alimit xlimit bs v r t h = absurd t

module _ {row : Row} (found : find row.kind normal_kinds ≡ some row) {b : List ℕ} {at len a x next : ℕ} (h : Took row b at len a x next) where
  -- where it is a call, its path's bytes are all that was taken
  pub call_path : is_call row.rest ≡ true → Got get_path_length b at len next
  unfolding get_fields get_text get_path_length ◌>>=◌
  call_path e =
      let (p, n) = is-calling found e in
      took (get_text row.text (drop at b)) _ h.is λ t y h₁ h₂.
      took (get_form row.numbers row.alimit row.xlimit y) _ h₂ λ u z h₃ h₄.
      let (q, w) = gave h₄ in
      let m : get_path_text (drop at b) ≡ some (t, y) = rw p at h₁ in
      let k : y ≡ drop next b = form_same row.numbers row.alimit row.xlimit y u z n h₃ ∙ w in
      record {
        is = rw m (rw (k, h.size) (ap (λ s. some (length s, drop next b)) (ap (λ v. v.text) q)));
        low = h.low;
        high = h.high;
      }

  -- and the children are read by what the code answers
  pub call_kids : (g : Place → Reader Tree) (args : Args) (p : Place) {n : ℕ} → n ≡ cond (is_call row.rest) (args_at p (args (path_text (drop at b)))) 0
      → (bs : List ℕ) → get_kids g row n bs ≡ get_kids g row (args_at p (args h.text)) bs
  call_kids g args p e bs = by (is_call row.rest) refl e
    where
      by : {n : ℕ} (c : Bool) → is_call row.rest ≡ c → n ≡ cond c (args_at p (args (path_text (drop at b)))) 0
          → get_kids g row n bs ≡ get_kids g row (args_at p (args h.text)) bs
      by true k e = rw (e, took-path h (is-calling found k).0) refl
      by false k e = kids-same g row _ _ bs k

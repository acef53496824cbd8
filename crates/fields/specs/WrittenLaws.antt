-- A term's text and numbers are read back from their bytes, and from no others: for each row whose columns pass one computed test,
-- by the forms of text and numbers and never by kind. For readers and writers of terms.
-- Assumes nothing.
use Rattle.std.specs.Prelude.{◌≡◌, refl, Bool, true, false, ◌&&◌, ◌||◌, not, ℕ, ◌+◌, ◌-◌, ◌*◌, ◌/◌, ◌%◌, ◌^◌, ◌≤◌, ◌<◌, eqb, ltb, leb, length}
use Rattle.std.proofs.Common.{sym, ◌∙◌, ap, arith, T_not, eqb→eq, ltb→lt}
use Rattle.std.proofs.Math.Option.{some, none-ne-some}
use mathlib.Core.List.{List, [], ◌∷◌, ◌++◌, append-nil}
use Rattle.std.proofs.Math.Dec.{T, leb→le, le→leb}
use Rattle.octets.specs.Bytes.{Reader, ◌>>=◌, need, every, le}
use Rattle.octets.specs.Tests.{and_left, and_right, and_both, or_case, cond_false, cond_inv, took, gave, need_inv, need_true, not_equal, positive}
use Rattle.octets.specs.Exact.{Exact}
use Rattle.octets.specs.Laws.{le_join, le_exact}
use Rattle.octets.specs.Matches.{Matches, exact_matches, regood, reput, recast, cut_matches, seq}
use Rattle.number.specs.IntegerLaws.{integer_exact}
use Rattle.number.proofs.PkgLengthExact.{pkg_length_exact}
use Rattle.path.specs.Path.{segment}
use Rattle.path.specs.PathLaws.{path-text_exact, segment-length}
use Rattle.grammar.specs.declared.Text.{Text}
use Rattle.grammar.specs.declared.Text.TheVariants.{Unused, PathText, SegmentText, Ascii, AnyBytes, EisaText, UuidText, DescriptorText}
use Rattle.grammar.specs.declared.Numbers.{Numbers}
use Rattle.grammar.specs.declared.Numbers.TheVariants.{Digits, MethodFlags, LevelOrder, FieldFlags, IntegerX, LengthX}
use Rattle.grammar.specs.declared.Row.{Row}
use Rattle.grammar.specs.Kinds.{find, normal_kinds}
use Rattle.grammar.specs.KindLaws.{every_row, found-rule}
use Rattle.grammar.specs.Forest.{Fields}
use Rattle.fields.specs.Fields.{flags_fit, form_fits, numbers_fit, text_fits, in_range, ascii, text_spelled, spelled}
use Rattle.fields.specs.Written.{text_bytes, form_bytes, field_bytes}
use Rattle.fields.specs.Get.{get_string, get_segment, get_text, get_form, get_fields}

-- ── What is asked of a row's columns
-- the texts that are written as they stand
unfoldable pub readable_text : Text → Bool
readable_text Unused = true
readable_text PathText = true
readable_text SegmentText = true
readable_text Ascii = true
readable_text AnyBytes = true
readable_text EisaText = false
readable_text UuidText = false
readable_text DescriptorText = false

-- the numbers fit into their bytes
unfoldable pub readable_form : Numbers → ℕ → ℕ → Bool
readable_form (Digits n base) alimit xlimit = ltb (base + alimit) (256 ^ n) && eqb xlimit 0
readable_form MethodFlags alimit xlimit = leb alimit 7 && leb xlimit 31
readable_form LevelOrder alimit xlimit = leb alimit 65535 && leb xlimit 255
readable_form FieldFlags alimit xlimit = leb alimit 255 && eqb xlimit 0
readable_form IntegerX alimit xlimit = eqb alimit 0 && ltb xlimit (2 ^ 64)
readable_form LengthX alimit xlimit = eqb alimit 0 && leb xlimit 268435455

-- a text that goes to the end of the bytes leaves none to the numbers
unfoldable pub ends_text : Text → Bool
ends_text Unused = false
ends_text PathText = false
ends_text SegmentText = false
ends_text Ascii = false
ends_text AnyBytes = true
ends_text EisaText = false
ends_text UuidText = false
ends_text DescriptorText = false

-- with no bytes there is one number, 0, where the numbers fit
unfoldable pub no_bytes : Numbers → Bool
no_bytes (Digits n base) = eqb n 0
no_bytes MethodFlags = false
no_bytes LevelOrder = false
no_bytes FieldFlags = false
no_bytes IntegerX = false
no_bytes LengthX = false

unfoldable pub ends_fields : Row → Bool
ends_fields r = ends_text r.text

unfoldable pub readable : Row → Bool
readable r = readable_text r.text && (readable_form r.numbers r.alimit r.xlimit && (not (ends_text r.text) || no_bytes r.numbers))

-- ── Numbers
-- a and x, within the row's limits
abbrev Within : Numbers → ℕ → ℕ → ℕ × ℕ → Type 0
Within f alimit xlimit u = (u.0 ≤ alimit) × (u.1 ≤ xlimit) × T (form_fits f u.0)

module _ (r : Row) (a x : ℕ) where
  within : T (numbers_fit r a x) → Within r.numbers r.alimit r.xlimit (a, x)
  unfolding numbers_fit
  within t = (leb→le a r.alimit (search (and_left, and_right)), leb→le x r.xlimit (search (and_left, and_right)), search (and_left, and_right))

  fit : Within r.numbers r.alimit r.xlimit (a, x) → T (numbers_fit r a x)
  unfolding numbers_fit
  fit (h, k, t) =
      let s₁ : T (leb a r.alimit) = le→leb a r.alimit h in
      let s₂ : T (leb x r.xlimit) = le→leb x r.xlimit k in
      search and_both

-- x alone, in a form of its own
x_exact : {put : ℕ → List ℕ} {get : Reader ℕ} {good : ℕ → Type 0} (f : Numbers) (alimit xlimit : ℕ) → Exact put get good → ((a : ℕ) → T (form_fits f a)) → alimit ≡ 0
    → ((x : ℕ) → x ≤ xlimit → good x)
    → Matches {A = ℕ × ℕ} false (λ u. put u.1) (λ bs. do
      (x, r) ← get bs
      need (leb x xlimit) (some ((0, x), r))) (Within f alimit xlimit)
x_exact f alimit xlimit X t z g =
    recast (exact_matches X) (λ x. leb x xlimit) (λ u. u.1) (λ x. (0, x)) _
    (λ u (h, k, s). let e : 0 ≡ u.0 = omega arith in (g u.1 k, le→leb u.1 xlimit k, ap (λ a. (a, u.1)) e))
    λ x l s. ((omega arith, leb→le x xlimit s, t 0), refl)

form_exact : (f : Numbers) (alimit xlimit : ℕ) → T (readable_form f alimit xlimit)
    → Matches false (λ u. form_bytes f u.0 u.1) (get_form f alimit xlimit) (Within f alimit xlimit)
unfolding readable_form form_bytes get_form form_fits
form_exact (Digits n base) alimit xlimit w =
    let l : base + alimit < 256 ^ n = ltb→lt (base + alimit) (256 ^ n) (and_left (ltb (base + alimit) (256 ^ n)) (eqb xlimit 0) w) in
    let z : xlimit ≡ 0 = eqb→eq xlimit 0 (and_right (ltb (base + alimit) (256 ^ n)) (eqb xlimit 0) w) in
    recast (exact_matches (le_exact n)) (λ v. leb base v && leb (v - base) alimit) (λ u. base + u.0) (λ v. (v - base, 0)) _
    (λ u (h, k, t).
    let e : base + u.0 - base ≡ u.0 = omega arith in
    let x : 0 ≡ u.1 = omega arith in
    rw e (omega arith, and_both (leb base _) _ (le→leb base _ (omega arith)) (le→leb u.0 alimit h), ap (λ y. (u.0, y)) x))
    λ v s t.
    let b : base ≤ v = leb→le base v (and_left (leb base v) _ t) in
    ((leb→le (v - base) alimit (and_right (leb base v) _ t), omega arith, tt), omega arith)
form_exact MethodFlags alimit xlimit w =
    let l : alimit ≤ 7 = leb→le alimit 7 (and_left (leb alimit 7) (leb xlimit 31) w) in
    let m : xlimit ≤ 31 = leb→le xlimit 31 (and_right (leb alimit 7) (leb xlimit 31) w) in
    recast (exact_matches (le_exact 1)) (λ v. leb (v % 8) alimit && leb (v / 8) xlimit) (λ u. u.0 + 8 * u.1) (λ v. (v % 8, v / 8)) _
    (λ u (h, k, t).
    let lo : (u.0 + 8 * u.1) % 8 ≡ u.0 = omega arith in
    let hi : (u.0 + 8 * u.1) / 8 ≡ u.1 = omega arith in
    rw (lo, hi) (omega arith, and_both (leb u.0 alimit) _ (le→leb u.0 alimit h) (le→leb u.1 xlimit k), refl))
    λ v s t. ((leb→le (v % 8) alimit (and_left (leb (v % 8) alimit) _ t), leb→le (v / 8) xlimit (and_right (leb (v % 8) alimit) _ t), tt), omega arith)
form_exact LevelOrder alimit xlimit w =
    let l : alimit ≤ 65535 = leb→le alimit 65535 (and_left (leb alimit 65535) (leb xlimit 255) w) in
    let m : xlimit ≤ 255 = leb→le xlimit 255 (and_right (leb alimit 65535) (leb xlimit 255) w) in
    reput (λ u (h, k, t). sym (le_join 1 2 u.1 u.0 (omega arith)))
    (recast (exact_matches (le_exact 3)) (λ v. leb (v / 256) alimit && leb (v % 256) xlimit) (λ u. u.1 + 256 * u.0) (λ v. (v / 256, v % 256)) _
    (λ u (h, k, t).
    let lo : (u.1 + 256 * u.0) % 256 ≡ u.1 = omega arith in
    let hi : (u.1 + 256 * u.0) / 256 ≡ u.0 = omega arith in
    rw (lo, hi) (omega arith, and_both (leb u.0 alimit) _ (le→leb u.0 alimit h) (le→leb u.1 xlimit k), refl))
    λ v s t. ((leb→le (v / 256) alimit (and_left (leb (v / 256) alimit) _ t), leb→le (v % 256) xlimit (and_right (leb (v / 256) alimit) _ t), tt), omega arith))
form_exact FieldFlags alimit xlimit w =
    let l : alimit ≤ 255 = leb→le alimit 255 (and_left (leb alimit 255) (eqb xlimit 0) w) in
    let z : xlimit ≡ 0 = eqb→eq xlimit 0 (and_right (leb alimit 255) (eqb xlimit 0) w) in
    recast (exact_matches (le_exact 1)) (λ a. leb a alimit && flags_fit a) (λ u. u.0) (λ a. (a, 0)) _
    (λ u (h, k, t). let e : 0 ≡ u.1 = omega arith in (omega arith, and_both (leb u.0 alimit) _ (le→leb u.0 alimit h) t, ap (λ x. (u.0, x)) e))
    λ a b t. ((leb→le a alimit (and_left (leb a alimit) _ t), omega arith, and_right (leb a alimit) _ t), refl)
form_exact IntegerX alimit xlimit w =
    let l : xlimit < 2 ^ 64 = ltb→lt xlimit (2 ^ 64) (and_right (eqb alimit 0) _ w) in
    x_exact IntegerX alimit xlimit integer_exact (λ a. tt) (eqb→eq alimit 0 (and_left (eqb alimit 0) _ w)) λ x h. omega arith
form_exact LengthX alimit xlimit w =
    let l : xlimit ≤ 268435455 = leb→le xlimit 268435455 (and_right (eqb alimit 0) _ w) in
    x_exact LengthX alimit xlimit (pkg_length_exact false) (λ a. tt) (eqb→eq alimit 0 (and_left (eqb alimit 0) _ w)) λ x h. omega arith

-- ── Texts
string_back : (t rest : List ℕ) → T (every ascii t) → get_string (t ++ (0 ∷ []) ++ rest) ≡ some (t, rest)
unfolding get_string every ascii ◌>>=◌
string_back [] rest h = refl
string_back (b ∷ t) rest h =
    let l : 1 ≤ b = leb→le 1 b (search (and_left, and_right)) in
    let u : T (leb b 127) = search (and_left, and_right) in
    cond_false (eqb b 0) _ _ (not_equal b 0 λ e. omega arith) ∙ need_true (leb b 127) _ u ∙ rw (string_back t rest (and_right (ascii b) (every ascii t) h))

string_only : (bs t rest : List ℕ) → get_string bs ≡ some (t, rest) → T (every ascii t) × (bs ≡ t ++ (0 ∷ []) ++ rest)
unfolding get_string every ascii
string_only [] t rest h = absurd (none-ne-some _ h)
string_only (b ∷ bs) t rest h₀ =
    cond_inv (eqb b 0) _ _ h₀
    (λ i h. let (p, q) = gave h in rw (← p, ← q) (tt, ap (λ c. c ∷ bs) (eqb→eq b 0 i)))
    λ i h.
    let (u, h₁) = need_inv (leb b 127) _ _ h in
    took (get_string bs) _ h₁ λ s z h₂ h₃.
    let (p, q) = gave h₃ in
    let (k, e) = string_only bs s z h₂ in
    let l : T (leb 1 b) = le→leb 1 b (positive b i) in
    rw (← p, ← q) (search and_both, ap (λ c. b ∷ c) e)

string_matches : Matches false (λ t. t ++ (0 ∷ [])) get_string (λ t. T (every ascii t))
string_matches = record { back = λ t rest en h. string_back t rest h; only = string_only }

segment_matches : Matches false (λ t. t) get_segment (λ t. T (segment t))
unfolding get_segment
segment_matches = recast (cut_matches 4) segment (λ t. t) (λ t. t) _ (λ t h. (segment-length t h, h, refl)) (λ t l h. (h, refl))

-- a text that is not used is empty
unused_matches : Matches {A = List ℕ} false (λ t. []) (λ bs. some ([], bs)) (λ t. T (eqb (length t) 0))
unused_matches = record {
  back = λ t rest en h. ap (λ s. some (s, rest)) (nil_of t h);
  only = λ bs t rest h. let (p, q) = gave h in rw (← p) (tt, q);
}
  where
    nil_of : (t : List ℕ) → T (eqb (length t) 0) → [] ≡ t
    nil_of [] h = refl
    nil_of (b ∷ t) h = let z : ⊥ = omega (arith, eqb→eq (length (b ∷ t)) 0 h) in absurd z

-- a text before numbers that match
module _
    (kind : ℕ)
    (put : ℕ → ℕ → List ℕ)
    (get : Reader (ℕ × ℕ))
    (good : ℕ × ℕ → Type 0)
    (Y : Matches false (λ u. put u.0 u.1) get good)
  where
    abbrev then_get : Reader (List ℕ) → Reader Fields
    then_get g bs = do
      (t, y) ← g bs
      ((a, x), z) ← get y
      some (record { text = t; a = a; x = x }, z)

    -- a text and its numbers, one after the other
    before : {putText : List ℕ → List ℕ} {get₁ : Reader (List ℕ)} {goodText : List ℕ → Type 0} → Matches false putText get₁ goodText
        → Matches false (λ v. putText v.text ++ put v.a v.x) (then_get get₁) (λ v. goodText v.text × good (v.a, v.x))
    before {putText} {get₁} {goodText} X =
        seq false putText get₁ goodText (λ t u. put u.0 u.1) (λ t. get) (λ t u. good u)
        (λ t u. record { text = t; a = u.0; x = u.1 }) (λ v. v.text) (λ v. (v.a, v.x)) (λ v. refl) (λ t u. refl) (λ t u. refl) X (λ t. Y)

    -- the same for texts of which any may be in range
    spelt : {putText : List ℕ → List ℕ} {get₁ : Reader (List ℕ)} {goodText : List ℕ → Type 0} → Matches false putText get₁ goodText
        → Matches false (λ v. putText v.text ++ put v.a v.x) (then_get get₁) (λ v. (Unit {0} × goodText v.text) × good (v.a, v.x))
    spelt {goodText} X = before {goodText = λ t. Unit {0} × goodText t} (regood X (λ t h. h.1) (λ t h. (tt, h)))

    -- to the end: behind the text stand numbers of no bytes
    ends_exact : ((a x : ℕ) → put a x ≡ [])
        → Matches true (λ v. v.text ++ put v.a v.x) (then_get (λ bs. some (bs, []))) (λ v. (Unit {0} × Unit {0}) × good (v.a, v.x))
    unfolding ◌>>=◌
    ends_exact z = record {
      back = λ v rest en h.
          let e : get [] ≡ some ((v.a, v.x), []) = rw (z v.a v.x) at (Y.back (v.a, v.x) [] tt h.1) in
          rw (en, z v.a v.x, append-nil v.text, append-nil v.text, e);
      only = λ bs v rest h.
          took (get []) _ h λ u y h₁ h₂.
          let (p, q) = gave h₂ in
          let (g, e) = Y.only [] u y h₁ in
          let f : [] ≡ y = rw (z u.0 u.1) at e in
          rw (← p, ← q, ← f, z u.0 u.1, append-nil bs, append-nil bs) (((tt, tt), g), refl);
    }

    text_exact : (f : Text) → T (readable_text f) → (T (ends_text f) → (a x : ℕ) → put a x ≡ [])
        → Matches (ends_text f) (λ v. text_bytes f kind v ++ put v.a v.x) (then_get (get_text f))
        (λ v. (T (text_fits f kind v.text v.a v.x) × T (text_spelled f kind v.text)) × good (v.a, v.x))
    unfolding readable_text ends_text text_bytes get_text text_fits text_spelled
    text_exact Unused w z = before {goodText = λ t. T (eqb (length t) 0) × Unit {0}} (regood unused_matches (λ t h. h.0) (λ t h. (h, tt)))
    text_exact PathText w z = spelt (exact_matches path-text_exact)
    text_exact SegmentText w z = spelt segment_matches
    text_exact Ascii w z = spelt string_matches
    text_exact AnyBytes w z = ends_exact (z tt)
    text_exact EisaText w z = absurd w
    text_exact UuidText w z = absurd w
    text_exact DescriptorText w z = absurd w

-- ── Both
no_bytes_lem : (f : Numbers) (a x : ℕ) → T (no_bytes f) → form_bytes f a x ≡ []
unfolding no_bytes form_bytes le
no_bytes_lem (Digits n base) a x t = rw (eqb→eq n 0 t) refl
no_bytes_lem MethodFlags a x t = absurd t
no_bytes_lem LevelOrder a x t = absurd t
no_bytes_lem FieldFlags a x t = absurd t
no_bytes_lem IntegerX a x t = absurd t
no_bytes_lem LengthX a x t = absurd t

pub fields_exact : (r : Row) → T (readable r) → Matches (ends_fields r) (field_bytes r) (get_fields r) (λ v. T (in_range r v.text v.a v.x) × T (spelled r v.text))
unfolding readable ends_fields field_bytes get_fields in_range spelled
fields_exact r w =
    let w₁ : T (readable_text r.text) = search and_left in
    let w₂ : T (readable_form r.numbers r.alimit r.xlimit) = search (and_left, and_right) in
    let w₃ : T (not (ends_text r.text) || no_bytes r.numbers) = search (and_left, and_right) in
    regood
    (text_exact r.kind (form_bytes r.numbers) (get_form r.numbers r.alimit r.xlimit) (Within r.numbers r.alimit r.xlimit)
    (form_exact r.numbers r.alimit r.xlimit w₂) r.text w₁
    λ t a x. no_bytes_lem r.numbers a x (or_case (not (ends_text r.text)) (no_bytes r.numbers) w₃ (λ i. absurd (T_not (ends_text r.text) i t)) (λ i. i)))
    (λ v (h, k). ((and_right (numbers_fit r v.a v.x) _ h, k), within r v.a v.x (and_left (numbers_fit r v.a v.x) _ h)))
    λ v h. (and_both (numbers_fit r v.a v.x) _ (fit r v.a v.x h.1) h.0.0, h.0.1)

-- ── The table
all_readable : T (every_row readable normal_kinds)
unfolding every_row readable readable_text readable_form ends_text no_bytes normal_kinds
all_readable = tt

pub normal-readable : (k : ℕ) {r : Row} → find k normal_kinds ≡ some r → T (readable r)
normal-readable k e = found-rule k readable normal_kinds all_readable e

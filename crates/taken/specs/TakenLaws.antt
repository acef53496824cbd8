-- Laws of text and numbers as they are read: what an answer says, and when it may be given. For the proofs of this crate and for the
-- reader of terms. Assumes nothing.
use Rattle.std.specs.Prelude as rust
use Rattle.std.specs.Prelude.{◌≡◌, ℕ, ◌+◌, ◌-◌, ◌≤◌, ◌<◌, Bool, true, false, ◌&&◌, T, Some, None, cond, eqb, leb, List, [], ◌∷◌, length, take, drop, get_or, refl}
use Rattle.std.proofs.Common.{sym, ap, ◌∙◌, arith, leb→le, eq-eqb, ne_eqb, le-leb, length-take, length-drop, length-take-le, take_all, get_or-drop}
use Rattle.std.proofs.Math.Option.{Option, none, some, none-ne-some}
use borrow.Author.Tests.{lt-leb}
use Rattle.octets.specs.Bytes.{Reader, ◌>>=◌, need, get_le}
use Rattle.number.specs.Get.{get_integer, get_pkg_length}
use Rattle.fields.specs.Fields.{flags_fit}
use Rattle.octets.specs.Tests.{took, gave}
use Rattle.octets.specs.Filling.{lent}
use Rattle.octets.specs.Reading.{Reads, got, reads, reads_none, past_end, next_byte}
use Rattle.path.specs.PathText.{segment_at}
use Rattle.path.specs.PathReading.{segment-read, segment-there}
use Rattle.grammar.specs.declared.Numbers.{Numbers}
use Rattle.grammar.specs.declared.Numbers.TheVariants.{Digits, MethodFlags, LevelOrder, FieldFlags, IntegerX, LengthX}
use Rattle.grammar.specs.declared.Text.TheVariants.{Unused, AnyBytes}
use Rattle.grammar.specs.declared.Row.{Row}
use Rattle.grammar.specs.Kinds.{kinds, normal_kinds, other_kinds, row_of}
use Rattle.grammar.specs.KindLaws.{every_row, rule}
use Rattle.grammar.specs.Forest.{Fields}
use Rattle.fields.specs.Get.{get_string, get_segment, get_text, get_form, get_fields}
use Rattle.taken.specs.declared.Fields as code
use Rattle.taken.specs.Taken.{Took, takes_at, Takes, sized, get_text_length, get_number, where_fit, up_to, parts_of, short}

-- ── Answers
fields_same : {l a x n l' a' x' n' : ℕ} → l ≡ l' → a ≡ a' → x ≡ x' → n ≡ n' → ◌≡◌ {A = code.Fields} (record { len = l; a = a; x = x; next = n }) (record { len = l'; a = a'; x = x'; next = n' })
fields_same e₁ e₂ e₃ e₄ = rw (e₁, e₂, e₃, e₄) refl

module _ {row : Row} {b : List ℕ} {at : ℕ} where
  pub taken : {r : rust.Option code.Fields} {f : code.Fields} → r ≡ Some f → Takes row b at r → Took row b at f.len f.a f.x f.next
  unfolding takes_at
  taken e h = rw e at h.says

  pub taken_none : {r : rust.Option code.Fields} → r ≡ None → Takes row b at r → get_fields row (drop at b) ≡ none
  unfolding takes_at
  taken_none e h = rw e at h.says

  pub takes : {f : code.Fields} → Took row b at f.len f.a f.x f.next → Takes row b at (Some f)
  unfolding takes_at
  takes h = record { says = h }

  pub takes_none : get_fields row (drop at b) ≡ none → Takes row b at None
  unfolding takes_at
  takes_none h = record { says = h }

  -- two answers are equal
  took-same : {f g : code.Fields} → Took row b at f.len f.a f.x f.next → Took row b at g.len g.a g.x g.next → f ≡ g
  took-same {f} {g} h k =
      let (v, w) = gave (sym h.is ∙ k.is) in
      let t = ap (λ (f : Fields). length f.text) v in
      let n = ap length w in
      fields_same
      (h.size ∙ t ∙ sym k.size)
      (ap (λ (f : Fields). f.a) v)
      (ap (λ (f : Fields). f.x) v)
      (end_same f.next g.next h.high k.high (sym (length-drop f.next b) ∙ n ∙ length-drop g.next b))
    where
      end_same : (m n : ℕ) → m ≤ length b → n ≤ length b → length b - m ≡ length b - n → m ≡ n
      end_same m n l r e = omega arith

  pub takes_determined : (r s : rust.Option code.Fields) → Takes row b at r → Takes row b at s → r ≡ s
  unfolding takes_at
  takes_determined (Some f) (Some g) h k = rw (took-same h.says k.says) refl
  takes_determined (Some f) None h k = absurd (none-ne-some _ (sym k.says ∙ h.says.is))
  takes_determined None (Some g) h k = absurd (none-ne-some _ (sym h.says ∙ k.says.is))
  takes_determined None None h k = refl

-- ── The table
short_all : T (every_row (λ r. short r.numbers) kinds)
unfolding every_row kinds normal_kinds other_kinds short
short_all = tt

pub row-short : (k : ℕ) {r : Row} → row_of k ≡ some r → T (short r.numbers)
row-short k h = rule (λ r. short r.numbers) short_all k h

pub digits-short : (n base : ℕ) → T (short (Digits n base)) → n ≤ 8
unfolding short
digits-short n base t = leb→le n 8 t

-- ── A text of which the length is known
abbrev length_in : Option (List ℕ × List ℕ) → Option (ℕ × List ℕ)
length_in m = do
  (t, r) ← m
  some (length t, r)

record Sized (get : Reader (List ℕ)) (bs : List ℕ) (len : ℕ) (rest : List ℕ) : Type 0 where
  text : List ℕ
  is : get bs ≡ some (text, rest)
  size : len ≡ length text

sized_some : (get : Reader (List ℕ)) (bs : List ℕ) {len : ℕ} {rest : List ℕ} → sized get bs ≡ some (len, rest) → Sized get bs len rest
unfolding sized
sized_some get bs h = took (get bs) _ h λ t r h₁ h₂. let (p, q) = gave h₂ in record { text = t; is = rw (← q) h₁; size = sym p }

sized-none : (get : Reader (List ℕ)) (bs : List ℕ) → sized get bs ≡ none → get bs ≡ none
unfolding sized ◌>>=◌
sized-none get bs h = go (get bs) h
  where
    go : (m : Option (List ℕ × List ℕ)) → length_in m ≡ none → m ≡ none
    go none e = refl
    go (some v) e = absurd (none-ne-some _ (sym e))

-- ── Strings
-- k characters before what was read
unfoldable pub more : ℕ → Option (ℕ × List ℕ) → Option (ℕ × List ℕ)
more k m = do
  (n, r) ← m
  some (k + n, r)

string_step : (c : ℕ) (bs : List ℕ) → sized get_string (c ∷ bs) ≡ cond (eqb c 0) (some (0, bs)) (need (leb c 127) (more 1 (sized get_string bs)))
unfolding sized get_string need ◌>>=◌ more
string_step c bs = go (eqb c 0) (leb c 127) (get_string bs)
  where
    go : (x y : Bool) (m : Option (List ℕ × List ℕ))
        → length_in (cond x (some ([], bs)) (need y (do
          (t, r) ← m
          some (c ∷ t, r)))) ≡ cond x (some (0, bs)) (need y (more 1 (length_in m)))
    go true y m = refl
    go false false m = refl
    go false true none = refl
    go false true (some v) = ap (λ (n : ℕ). some (n, v.1)) (omega arith)

-- the first i of those from `at` on are characters
pub record Scanning (b : List ℕ) (at i : ℕ) : Type 0 where
  pub left : sized get_string (drop at b) ≡ more i (sized get_string (drop (at + i) b))
  pub high : at + i ≤ length b

pub scanning_start : (b : List ℕ) (at : ℕ) → at ≤ length b → Scanning b at 0
unfolding more ◌>>=◌
scanning_start b at h = let z : at + 0 ≡ at = omega arith in record { left = rw z (go (sized get_string (drop at b))); high = omega arith }
  where
    go : (m : Option (ℕ × List ℕ)) → m ≡ more 0 m
    go none = refl
    go (some v) = ap (λ (n : ℕ). some (n, v.1)) (omega arith)

module _ {b : List ℕ} {at i : ℕ} (h : Scanning b at i) where
  lent_length : length (lent at b) ≡ length b - at
  lent_length = omega (arith, length-take (length b - at) (drop at b), length-drop at b)

  -- no 00 is left
  pub scanning_end : length (lent at b) ≤ i → Reads (sized get_string) b at None
  unfolding sized get_string more ◌>>=◌
  scanning_end z = reads_none (h.left ∙ rw (past_end b {at = at + i} (omega (arith, lent_length, h.high))))

  module _ (z : i < length (lent at b)) {c : ℕ} (is : c ≡ get_or (lent at b) i 0) where
    there : at + i < length b
    there = omega (arith, lent_length)

    char_is : c ≡ get_or b (at + i) 0
    char_is = is ∙ rw (take_all (length b - at) (drop at b) (rw length-drop (omega arith))) (get_or-drop at b i 0)

    step : sized get_string (drop at b) ≡ more i (cond (eqb c 0) (some (0, drop (at + i + 1) b)) (need (leb c 127) (more 1 (sized get_string (drop (at + i + 1) b)))))
    step = h.left ∙ rw (next_byte b (at + i) there, ← char_is, string_step)

    pub scanning_found : c ≡ 0 → Reads (sized get_string) b at (Some (i, at + i + 1))
    unfolding more ◌>>=◌
    scanning_found e =
        let k : i + 0 ≡ i = omega arith in
        reads (record { is = step ∙ rw (eq-eqb _ _ e, k); low = omega arith; high = omega (arith, there) })

    module _ (n : c ≡ 0 → ⊥) where
      pub scanning_high : 127 < c → Reads (sized get_string) b at None
      unfolding more need ◌>>=◌
      scanning_high l = reads_none (step ∙ rw (ne_eqb _ _ n, lt-leb _ 127 l))

      pub scanning_turn : c ≤ 127 → Scanning b at (i + 1)
      unfolding more need ◌>>=◌
      scanning_turn l =
          let a : at + (i + 1) ≡ at + i + 1 = omega arith in
          record { left = rw a (step ∙ rw (ne_eqb _ _ n, le-leb _ 127 l) (go (sized get_string (drop (at + i + 1) b)))); high = omega (arith, there) }
        where
          go : (m : Option (ℕ × List ℕ)) → more i (more 1 m) ≡ more (i + 1) m
          go none = refl
          go (some v) = ap (λ (n : ℕ). some (n, v.1)) (omega arith)

-- ── Segments, and the texts that need not be looked at
module _ (b : List ℕ) (at : ℕ) where
  segment_seen : get_segment (drop at b) ≡ need (segment_at b at) (some (take 4 (drop at b), drop (at + 4) b))
  unfolding get_segment
  segment_seen = segment-read b at some

  pub segment-found : segment_at b at ≡ true → Reads (sized get_segment) b at (Some (4, at + 4))
  unfolding sized need ◌>>=◌
  segment-found e =
      let l = segment-there b at e in
      let k : length (take 4 (drop at b)) ≡ 4 = length-take-le 4 (drop at b) (rw length-drop (omega arith)) in
      reads (record { is = rw (segment_seen, e, k); low = omega arith; high = l })

  pub segment_missed : segment_at b at ≡ false → Reads (sized get_segment) b at None
  unfolding sized need ◌>>=◌
  segment_missed e = reads_none (rw (segment_seen, e))

  module _ (h : at ≤ length b) where
    pub unused_found : Reads (get_text_length Unused) b at (Some (0, at))
    unfolding get_text_length sized get_text ◌>>=◌
    unused_found = reads (record { is = refl; low = omega arith; high = h })

    pub rest-found : Reads (get_text_length AnyBytes) b at (Some (length b - at, length b))
    unfolding get_text_length sized get_text ◌>>=◌
    rest-found = reads (record { is = rw (length-drop, past_end b {at = length b} (omega arith)); low = h; high = omega arith })

-- ── Numbers: what one number holds, as a reader goes on with it
abbrev parted : rust.Option (ℕ × ℕ) → List ℕ → Option ((ℕ × ℕ) × List ℕ)
parted (Some p) r = some (p, r)
parted None r = none

need-parted : (t : Bool) (a x : ℕ) (r : List ℕ) → need t (some ((a, x), r)) ≡ parted (where_fit t a x) r
unfolding need
need-parted true a x r = refl
need-parted false a x r = refl

bind-same : {A B : Type 0} (m : Option A) {f g : A → Option B} → ((v : A) → f v ≡ g v) → (m >>= f) ≡ (m >>= g)
unfolding ◌>>=◌
bind-same none e = refl
bind-same (some v) e = e v

form_parts : (f : Numbers) (alimit xlimit : ℕ) (bs : List ℕ) → get_form f alimit xlimit bs ≡ (do
  (w, r) ← get_number f bs
  parted (parts_of f alimit xlimit w) r)
unfolding get_form get_number parts_of
form_parts (Digits n base) alimit xlimit bs = bind-same (get_le n bs) (λ v. need-parted _ _ _ v.1)
form_parts MethodFlags alimit xlimit bs = bind-same (get_le 1 bs) (λ v. need-parted _ _ _ v.1)
form_parts LevelOrder alimit xlimit bs = bind-same (get_le 3 bs) (λ v. need-parted _ _ _ v.1)
form_parts FieldFlags alimit xlimit bs = bind-same (get_le 1 bs) (λ v. need-parted _ _ _ v.1)
form_parts IntegerX alimit xlimit bs = bind-same (get_integer bs) (λ v. need-parted _ _ _ v.1)
form_parts LengthX alimit xlimit bs = bind-same (get_pkg_length false bs) (λ v. need-parted _ _ _ v.1)

-- each form as code has it: by the two limits, where 0 is up to every limit
module _ (alimit xlimit w : ℕ) where
  a_alone : (v : ℕ) → up_to alimit xlimit v 0 ≡ where_fit (leb v alimit) v 0
  a_alone v = rw (le-leb 0 xlimit (omega arith)) (go (leb v alimit))
    where
      go : (t : Bool) → where_fit (t && true) v 0 ≡ where_fit t v 0
      go true = refl
      go false = refl

  pub x-alone : up_to alimit xlimit 0 w ≡ where_fit (leb w xlimit) 0 w
  x-alone = rw (le-leb 0 alimit (omega arith)) refl

  module _ (n base : ℕ) where
    pub digits_from : base ≤ w → up_to alimit xlimit (w - base) 0 ≡ parts_of (Digits n base) alimit xlimit w
    unfolding parts_of
    digits_from l = a_alone (w - base) ∙ rw (le-leb base w l) refl

    pub digits_below : ¬ (base ≤ w) → None ≡ parts_of (Digits n base) alimit xlimit w
    unfolding parts_of
    digits_below l = rw (lt-leb base w (omega (arith, l))) refl

  pub flags_in : flags_fit w ≡ true → up_to alimit xlimit w 0 ≡ parts_of FieldFlags alimit xlimit w
  unfolding parts_of
  flags_in e = a_alone w ∙ rw e (go (leb w alimit))
    where
      go : (t : Bool) → where_fit t w 0 ≡ where_fit (t && true) w 0
      go true = refl
      go false = refl

  pub flags_out : flags_fit w ≡ false → None ≡ parts_of FieldFlags alimit xlimit w
  unfolding parts_of
  flags_out e = rw e (go (leb w alimit))
    where
      go : (t : Bool) → None ≡ where_fit (t && false) w 0
      go true = refl
      go false = refl

-- ── Both
module _ (row : Row) (b : List ℕ) (at : ℕ) where
  pub fields_textless : get_text_length row.text (drop at b) ≡ none → Takes row b at None
  unfolding get_text_length get_fields ◌>>=◌
  fields_textless e = takes_none (rw (sized-none (get_text row.text) (drop at b) e))

  module _ {len from : ℕ} (t : Reads (get_text_length row.text) b at (Some (len, from))) where
    found : Sized (get_text row.text) (drop at b) len (drop from b)
    unfolding get_text_length
    found = sized_some (get_text row.text) (drop at b) (got refl t).is

    pub fields_numberless : get_number row.numbers (drop from b) ≡ none → Takes row b at None
    unfolding get_fields ◌>>=◌
    fields_numberless e = takes_none (rw (found.is, form_parts, e))

    module _ {w next : ℕ} (n : Reads (get_number row.numbers) b from (Some (w, next))) where
      pub fields_unfit : None ≡ parts_of row.numbers row.alimit row.xlimit w → Takes row b at None
      unfolding get_fields ◌>>=◌
      fields_unfit e = takes_none (rw (found.is, form_parts, (got refl n).is, ← e))

      pub fields-whole : {a x : ℕ} → Some (a, x) ≡ parts_of row.numbers row.alimit row.xlimit w → Takes row b at (Some (record { len = len; a = a; x = x; next = next }))
      unfolding get_fields ◌>>=◌
      fields-whole e =
          takes (record {
            text = found.text;
            is = rw (found.is, form_parts, (got refl n).is, ← e);
            size = found.size;
            low = omega (arith, (got refl t).low, (got refl n).low);
            high = (got refl n).high;
          })

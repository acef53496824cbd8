-- Laws of paths, for every crate that handles them: text and bytes each give the path back, and nothing else is read;
-- how a path's bytes begin, that they are bytes, and how many there are. Other crates cite these and open no definition of Path.
-- Assumes nothing.
use Rattle.std.specs.Prelude.{◌≡◌, refl, Bool, true, false, ◌&&◌, ◌||◌, not, cond, ℕ, zero, suc, ◌+◌, ◌-◌, ◌*◌, ◌/◌, ◌≤◌, T, eqb, leb, length}
use Rattle.std.proofs.Common.{sym, ◌∙◌, ap, ap₂, arith, T_not, eqb→eq, leb→le, le→leb, lt→ltb, length-append}
use Rattle.std.proofs.Math.Option.{Option, none, some, none-ne-some, some-injective, Option-elim}
use mathlib.Core.List.{List, [], ◌∷◌, ◌++◌, append_assoc, append-nil, flatten}
use Rattle.std.proofs.Math.Dec.{eqb_refl}
use Rattle.octets.specs.Bytes.{Reader, ◌>>=◌, need, every, is_byte, cut}
use Rattle.octets.specs.Tests.{and_left, and_right, and_both, or_case, or_left, not_equal, cond_false, cond_case, cond_inv, took, took₁, gave, need_inv, need_true}
use Rattle.octets.specs.Laws.{cut-back, cut-only, every-join}
use Rattle.octets.specs.Exact.{Exact}
use Rattle.path.specs.Path.{lead_name, name_char, segment, Path, root_of, unroot, parts_of, path_of, is_path, count_bytes, bytes_of, path_bytes}
use Rattle.path.specs.Get.{segments, well_formed, joined, text_of, get_count, get_parts, get_path, get_path_text, name_start}

-- ── Segments
pub segment-length : (s : List ℕ) → T (segment s) → length s ≡ 4
unfolding segment
segment-length [] h = absurd h
segment-length (b ∷ bs) h = ap suc (eqb→eq (length bs) 3 (search (and_left, and_right)))

pub segment_not : (s : List ℕ) → (length s ≡ 4 → ⊥) → segment s ≡ false
segment_not s h = go (segment s) (segment-length s)
  where
    go : (b : Bool) → (T b → length s ≡ 4) → b ≡ false
    go true f = absurd (h (f tt))
    go false f = refl

pub fours : {C : Type 0} (s : List ℕ) → length s ≡ 4 → ((a b c d : ℕ) → s ≡ a ∷ b ∷ c ∷ d ∷ [] → C) → C
fours [] h k = absurd (omega arith)
fours (a ∷ []) h k = absurd (omega arith)
fours (a ∷ b ∷ []) h k = absurd (omega arith)
fours (a ∷ b ∷ c ∷ []) h k = absurd (omega arith)
fours (a ∷ b ∷ c ∷ d ∷ []) h k = k a b c d refl
fours (a ∷ b ∷ c ∷ d ∷ e ∷ s) h k = absurd (omega arith)

-- a byte that begins a segment is no mark
lead_not : (b c : ℕ) → T (lead_name b) → (65 ≤ b → b ≤ 90 → b ≡ c → ⊥) → (95 ≡ c → ⊥) → T (not (eqb b c))
unfolding lead_name
lead_not b c i f g =
    not_equal b c λ e. or_case (leb 65 b && leb b 90) (eqb b 95) i
    (λ j. f (leb→le 65 b (and_left (leb 65 b) (leb b 90) j)) (leb→le b 90 (and_right (leb 65 b) (leb b 90) j)) e)
    λ j. g (sym (eqb→eq b 95 j) ∙ e)

-- bytes of segments begin with none of the marks
unmarked : List ℕ → Bool
unmarked [] = false
unmarked (b ∷ bs) = not (eqb b 0x2E) && not (eqb b 0x2F) && not (eqb b 0x5C)

segment-unmarked : (s t : List ℕ) → T (segment s) → T (unmarked (s ++ t))
unfolding segment unmarked
segment-unmarked [] t h = absurd h
segment-unmarked (b ∷ s) t h =
    let i : T (lead_name b) = search (and_left, and_right) in
    let x : T (not (eqb b 0x2E)) = lead_not b 0x2E i (λ l u e. omega arith) (λ e. omega arith) in
    let y : T (not (eqb b 0x2F)) = lead_not b 0x2F i (λ l u e. omega arith) (λ e. omega arith) in
    let z : T (not (eqb b 0x5C)) = lead_not b 0x5C i (λ l u e. omega arith) (λ e. omega arith) in
    search and_both

-- ── The root mark
rootless : List ℕ → Bool
rootless [] = true
rootless (b ∷ t) = not (eqb b 0x5C)

unmarked-rootless : (x : List ℕ) → T (unmarked x) → T (rootless x)
unfolding unmarked rootless
unmarked-rootless [] h = tt
unmarked-rootless (b ∷ x) h = and_right (not (eqb b 0x2E) && not (eqb b 0x2F)) (not (eqb b 0x5C)) h

unroot-back : (r : Bool) (x : List ℕ) → T (rootless x) → unroot (root_of r ++ x) ≡ (r, x)
unfolding unroot root_of rootless
unroot-back true x h = refl
unroot-back false [] h = refl
unroot-back false (b ∷ x) h = cond_false (eqb b 0x5C) _ _ h

pub unroot-only : (x : List ℕ) → x ≡ root_of (unroot x).0 ++ (unroot x).1
unfolding unroot root_of
unroot-only [] = refl
unroot-only (b ∷ x) = cond_case (λ (w : Bool × List ℕ). b ∷ x ≡ root_of w.0 ++ w.1) (eqb b 0x5C) (true, x) (false, b ∷ x) (λ t. ap (λ c. c ∷ x) (eqb→eq b 0x5C t)) λ t. refl

pub root-most : (r : Bool) → length (root_of r) ≤ 1
unfolding root_of
root-most true = omega arith
root-most false = omega arith

-- ── Text
pub parts_last : (u : List ℕ) → length u ≤ 4 → parts_of u ≡ need (segment u) (some (u ∷ []))
unfolding parts_of need
parts_last [] h = rw (segment_not [] (λ e. omega arith))
parts_last (a ∷ []) h = rw (segment_not (a ∷ []) (λ e. omega arith))
parts_last (a ∷ b ∷ []) h = rw (segment_not (a ∷ b ∷ []) (λ e. omega arith))
parts_last (a ∷ b ∷ c ∷ []) h = rw (segment_not (a ∷ b ∷ c ∷ []) (λ e. omega arith))
parts_last (a ∷ b ∷ c ∷ d ∷ []) h = refl
parts_last (a ∷ b ∷ c ∷ d ∷ e ∷ u) h = absurd (omega arith)

pub parts_more : (s t : List ℕ) (e : ℕ) → length s ≡ 4 → parts_of (s ++ (e ∷ t)) ≡ need (segment s && eqb e 0x2E) (parts_of t >>= λ ss. some (s ∷ ss))
unfolding parts_of
parts_more s t e h = fours s h λ a b c d q. rw q refl

joined-more : (s : List ℕ) (ss : List (List ℕ)) → 1 ≤ length ss → joined (s ∷ ss) ≡ s ++ (0x2E ∷ joined ss)
unfolding joined
joined-more s [] h = absurd (omega arith)
joined-more s (r ∷ ss) h = refl

parts-back : (ss : List (List ℕ)) → T (segments ss) → 1 ≤ length ss → parts_of (joined ss) ≡ some ss
unfolding joined segments ◌>>=◌
parts-back [] h l = absurd (omega arith)
parts-back (s ∷ []) h l =
    let g = and_left (segment s) true h in
    parts_last s (omega (arith, segment-length s g)) ∙ need_true (segment s) _ g
parts-back (s ∷ r ∷ ss) h l =
    let g = and_left (segment s) (segments (r ∷ ss)) h in
    parts_more s (joined (r ∷ ss)) 0x2E (segment-length s g) ∙ need_true (segment s && eqb 0x2E 0x2E) _ (and_both (segment s) (eqb 0x2E 0x2E) g tt)
    ∙ rw (parts-back (r ∷ ss) (and_right (segment s) (segments (r ∷ ss)) h) (omega arith))

parts-only : (t : List ℕ) (ss : List (List ℕ)) → parts_of t ≡ some ss → T (segments ss) × (1 ≤ length ss) × (t ≡ joined ss)
unfolding parts_of joined segments
parts-only [] ss h = absurd (none-ne-some _ h)
parts-only (a ∷ []) ss h = absurd (none-ne-some _ h)
parts-only (a ∷ b ∷ []) ss h = absurd (none-ne-some _ h)
parts-only (a ∷ b ∷ c ∷ []) ss h = absurd (none-ne-some _ h)
parts-only (a ∷ b ∷ c ∷ d ∷ []) ss h =
    let (g, h₁) = need_inv (segment (a ∷ b ∷ c ∷ d ∷ [])) _ _ h in
    rw (← (some-injective _ ss h₁)) (and_both (segment (a ∷ b ∷ c ∷ d ∷ [])) true g tt, omega arith, refl)
parts-only (a ∷ b ∷ c ∷ d ∷ e ∷ t) ss h =
    let (g, h₁) = need_inv (segment (a ∷ b ∷ c ∷ d ∷ []) && eqb e 0x2E) _ _ h in
    took₁ (parts_of t) _ h₁ λ us h₂ h₃.
    let (k, l, q) = parts-only t us h₂ in
    rw (← (some-injective _ ss h₃)) (
      and_both (segment (a ∷ b ∷ c ∷ d ∷ [])) (segments us) (and_left (segment (a ∷ b ∷ c ∷ d ∷ [])) (eqb e 0x2E) g) k,
      omega arith,
      rw (joined-more (a ∷ b ∷ c ∷ d ∷ []) us l) (ap₂ (λ x y. a ∷ b ∷ c ∷ d ∷ x ∷ y) (eqb→eq e 0x2E (and_right (segment (a ∷ b ∷ c ∷ d ∷ [])) (eqb e 0x2E) g)) q),
    )

joined-rootless : (ss : List (List ℕ)) → T (segments ss) → T (rootless (joined ss))
unfolding joined segments rootless
joined-rootless [] h = tt
joined-rootless (s ∷ []) h = rw append-nil at (unmarked-rootless _ (segment-unmarked s [] (and_left (segment s) true h)))
joined-rootless (s ∷ r ∷ ss) h = unmarked-rootless _ (segment-unmarked s (0x2E ∷ joined (r ∷ ss)) (and_left (segment s) (segments (r ∷ ss)) h))

formed : (p : Path) → T (well_formed p) → T (segments p.parts) × (1 ≤ length p.parts) × (length p.parts ≤ 255)
unfolding well_formed
formed p h = (search (and_left, and_right), leb→le 1 (length p.parts) (search (and_left, and_right)), leb→le (length p.parts) 255 (search (and_left, and_right)))

is-formed : (p : Path) → T (segments p.parts) → 1 ≤ length p.parts → length p.parts ≤ 255 → T (well_formed p)
unfolding well_formed
is-formed p s l u =
    let j : T (leb 1 (length p.parts)) = le→leb 1 (length p.parts) l in
    let k : T (leb (length p.parts) 255) = le→leb (length p.parts) 255 u in
    search and_both

pub text-back : (p : Path) → T (well_formed p) → path_of (text_of p) ≡ some p
unfolding path_of text_of ◌>>=◌
text-back p h =
    let (s, l, u) = formed p h in
    rw (unroot-back p.root (joined p.parts) (joined-rootless p.parts s), parts-back p.parts s l) (need_true (leb (length p.parts) 255) _ (le→leb (length p.parts) 255 u))

pub text-only : (t : List ℕ) (p : Path) → path_of t ≡ some p → T (well_formed p) × (t ≡ text_of p)
unfolding path_of text_of
text-only t p h =
    took₁ (parts_of (unroot t).1) _ h λ ss h₁ h₂.
    let (u, h₃) = need_inv (leb (length ss) 255) _ _ h₂ in
    let (s, l, q) = parts-only (unroot t).1 ss h₁ in
    rw (← (some-injective _ p h₃)) (is-formed _ s l (leb→le (length ss) 255 u), unroot-only t ∙ ap (λ x. root_of (unroot t).0 ++ x) q)

-- ── Bytes
pub cut-segment : (s t : List ℕ) → T (segment s) → cut 4 (s ++ t) ≡ some (s, t)
cut-segment s t h = rw (← (segment-length s h)) (cut-back s t)

names_back : (ss : List (List ℕ)) (r : List ℕ) → T (segments ss) → get_parts (length ss) (flatten ss ++ r) ≡ some (ss, r)
unfolding get_parts flatten segments ◌>>=◌
names_back [] r h = refl
names_back (s ∷ ss) r h =
    let g = and_left (segment s) (segments ss) h in
    rw (append_assoc s (flatten ss) r, cut-segment s (flatten ss ++ r) g) (need_true (segment s) _ g ∙ rw (names_back ss r (and_right (segment s) (segments ss) h)))

pub names_only : (n : ℕ) (bs : List ℕ) (ss : List (List ℕ)) (r : List ℕ) → get_parts n bs ≡ some (ss, r) → (length ss ≡ n) × T (segments ss) × (bs ≡ flatten ss ++ r)
unfolding get_parts flatten segments
names_only zero bs ss r h = let (p, q) = gave h in (rw (← p) refl, rw (← p) tt, rw (← p) q)
names_only (suc n) bs ss r h =
    took (cut 4 bs) _ h λ s z h₁ h₂.
    let (g, h₃) = need_inv (segment s) _ _ h₂ in
    took (get_parts n z) _ h₃ λ us y h₄ h₅.
    let (p, q) = gave h₅ in
    let (l, k, e) = names_only n z us y h₄ in
    rw (← p, ← q) (ap suc l, and_both (segment s) (segments us) g k, (cut-only 4 bs s z h₁).1 ∙ ap (λ z. s ++ z) e ∙ sym (append_assoc s (flatten us) y))

flat_unmarked : (ss : List (List ℕ)) (r : List ℕ) → T (segments ss) → 1 ≤ length ss → T (unmarked (flatten ss ++ r))
unfolding flatten segments
flat_unmarked [] r h l = absurd (omega arith)
flat_unmarked (s ∷ ss) r h l = rw (append_assoc s (flatten ss) r) (segment-unmarked s (flatten ss ++ r) (and_left (segment s) (segments ss) h))

-- by the number of segments: one, two, or more
pub count_case : (P : List ℕ → Type 0) (n : ℕ) → (n ≡ 1 → P []) → (n ≡ 2 → P (0x2E ∷ [])) → ((n ≡ 1 → ⊥) → (n ≡ 2 → ⊥) → P (0x2F ∷ n ∷ [])) → P (count_bytes n)
unfolding count_bytes
count_case P n one two more =
    cond_case P (eqb n 1) [] _ (λ t. one (eqb→eq n 1 t)) λ t₁.
    cond_case P (eqb n 2) (0x2E ∷ []) (0x2F ∷ n ∷ []) (λ t. two (eqb→eq n 2 t)) λ t₂.
    more (λ e. T_not (eqb n 1) t₁ (rw e (eqb_refl 1))) (λ e. T_not (eqb n 2) t₂ (rw e (eqb_refl 2)))

-- the number behind 2F
unfoldable pub counted : Reader ℕ
counted [] = none
counted (n ∷ bs) = need (leb 3 n && leb n 255) (some (n, bs))

pub count_marks : (b : ℕ) (x : List ℕ) → get_count (b ∷ x) ≡ cond (eqb b 0x2E) (some (2, x)) (cond (eqb b 0x2F) (counted x) (some (1, b ∷ x)))
unfolding get_count counted
count_marks b [] = refl
count_marks b (n ∷ x) = refl

one-back : (x : List ℕ) → T (unmarked x) → get_count x ≡ some (1, x)
unfolding unmarked
one-back [] h = absurd h
one-back (b ∷ x) h = count_marks b x ∙ cond_false (eqb b 0x2E) _ _ (search (and_left, and_right)) ∙ cond_false (eqb b 0x2F) _ _ (search (and_left, and_right))

count-back : (n : ℕ) (x : List ℕ) → T (unmarked x) → 1 ≤ n → n ≤ 255 → get_count (count_bytes n ++ x) ≡ some (n, x)
unfolding get_count
count-back n x h l u =
    count_case (λ y. get_count (y ++ x) ≡ some (n, x)) n (λ e. rw e (one-back x h)) (λ e. rw e (count_marks 0x2E x)) λ n₁ n₂.
    need_true (leb 3 n && leb n 255) _ (and_both (leb 3 n) (leb n 255) (le→leb 3 n (omega arith)) (le→leb n 255 u))

counted-only : (bs : List ℕ) (n : ℕ) (r : List ℕ) → counted bs ≡ some (n, r) → (1 ≤ n) × (n ≤ 255) × (0x2F ∷ bs ≡ count_bytes n ++ r)
unfolding count_bytes counted
counted-only [] n r h = absurd (none-ne-some _ h)
counted-only (m ∷ bs) n r h =
    let (c, h₁) = need_inv (leb 3 m && leb m 255) _ _ h in
    let (p, q) = gave h₁ in
    let l : 3 ≤ m = leb→le 3 m (and_left (leb 3 m) (leb m 255) c) in
    let u : m ≤ 255 = leb→le m 255 (and_right (leb 3 m) (leb m 255) c) in
    rw (← p, ← q, cond_false {A = List ℕ} (eqb m 1) [] _ (not_equal m 1 λ e. omega arith), cond_false {A = List ℕ} (eqb m 2) (0x2E ∷ []) _ (not_equal m 2 λ e. omega arith)) (omega arith, u, refl)

pub count-only : (bs : List ℕ) (n : ℕ) (r : List ℕ) → get_count bs ≡ some (n, r) → (1 ≤ n) × (n ≤ 255) × (bs ≡ count_bytes n ++ r)
unfolding count_bytes get_count
count-only [] n r h = absurd (none-ne-some _ h)
count-only (b ∷ bs) n r h =
    cond_inv (eqb b 0x2E) _ _ (sym (count_marks b bs) ∙ h)
    (λ t h₁. let (p, q) = gave h₁ in rw (← p, ← q) (omega arith, omega arith, ap (λ c. c ∷ bs) (eqb→eq b 0x2E t)))
    λ t₁ h₁.
    cond_inv (eqb b 0x2F) _ _ h₁
    (λ t h₂. rw (eqb→eq b 0x2F t) (counted-only bs n r h₂))
    λ t₂ h₂. let (p, q) = gave h₂ in rw (← p, ← q) (omega arith, omega arith, refl)

count-rootless : (n : ℕ) (x : List ℕ) → T (unmarked x) → T (rootless (count_bytes n ++ x))
unfolding rootless
count-rootless n x h = count_case (λ y. T (rootless (y ++ x))) n (λ e. unmarked-rootless x h) (λ e. tt) (λ n₁ n₂. tt)

-- what a path that was read was read from
pub record PathRead (bs : List ℕ) (p : Path) (rest : List ℕ) : Type 0 where
  pub good : T (segments p.parts)
  pub least : 1 ≤ length p.parts
  pub most : length p.parts ≤ 255
  pub mark : (unroot bs).0 ≡ p.root
  pub bytes : (unroot bs).1 ≡ count_bytes (length p.parts) ++ (flatten p.parts ++ rest)

pub path-read : (bs : List ℕ) (p : Path) (rest : List ℕ) → get_path bs ≡ some (p, rest) → PathRead bs p rest
unfolding get_path ◌>>=◌
path-read bs p rest h =
    took (get_count (unroot bs).1) _ h λ n z h₁ h₂.
    took (get_parts n z) _ h₂ λ ss y h₃ h₄.
    let (e, q) = gave h₄ in
    let (l, u, e₁) = count-only (unroot bs).1 n z h₁ in
    let (k, s, e₂) = names_only n z ss y h₃ in
    rw (← e, ← q) (record {
      good = s;
      least = omega arith;
      most = omega arith;
      mark = refl;
      bytes = rw k (e₁ ∙ ap (λ x. count_bytes n ++ x) e₂);
    })

pub path_exact : Exact bytes_of get_path (λ p. T (well_formed p))
unfolding bytes_of get_path ◌>>=◌
path_exact = record {
  back = λ p r h.
      let (s, l, u) = formed p h in
      let m = flat_unmarked p.parts r s l in
      rw (
        append_assoc (root_of p.root),
        append_assoc (count_bytes (length p.parts)) (flatten p.parts) r,
        unroot-back p.root (count_bytes (length p.parts) ++ (flatten p.parts ++ r)) (count-rootless (length p.parts) (flatten p.parts ++ r) m),
        count-back (length p.parts) (flatten p.parts ++ r) m l u,
        names_back p.parts r s,
      );
  only = λ bs p r h.
      let d = path-read bs p r h in
      (is-formed p d.good d.least d.most, unroot-only bs ∙ rw (d.mark, d.bytes, append_assoc (root_of p.root), append_assoc (count_bytes (length p.parts)) (flatten p.parts) r));
}

-- ── Text and bytes together: what a text that is a path spells
pub path-known : {C : Type 0} (t : List ℕ) → T (is_path t) → ((p : Path) → T (well_formed p) → t ≡ text_of p → path_bytes t ≡ bytes_of p → C) → C
unfolding is_path path_bytes Option-elim
path-known {C} t h k = go (path_of t) refl h
  where
    go : (o : Option Path) → path_of t ≡ o → T (Option-elim o false (λ p. true)) → C
    go none e h = absurd h
    go (some p) e h = let (w, q) = text-only t p e in k p w q (rw e refl)

text-known : (p : Path) → T (well_formed p) → T (is_path (text_of p)) × (path_bytes (text_of p) ≡ bytes_of p)
unfolding is_path path_bytes Option-elim
text-known p h = rw (text-back p h) (tt, refl)

pub path-text_exact : Exact path_bytes get_path_text (λ t. T (is_path t))
unfolding get_path_text ◌>>=◌
path-text_exact = record {
  back = λ t r h. path-known t h λ p w e q. rw (q, path_exact.back p r w, e) refl;
  only = λ bs t r h.
      took (get_path bs) _ h λ p z h₁ h₂.
      let (e, q) = gave h₂ in
      let (w, f) = path_exact.only bs p z h₁ in
      let (i, j) = text-known p w in
      rw (← e, ← q, j) (i, f);
}

-- ── How a path's bytes begin
abbrev Begun : List ℕ → Type 0
Begun bs = (b : ℕ) × (r : List ℕ) × (bs ≡ b ∷ r) × T (name_start b)

segments-begun : (ss : List (List ℕ)) → T (segments ss) → 1 ≤ length ss → Begun (flatten ss)
unfolding segments flatten segment name_start
segments-begun [] h l = absurd (omega arith)
segments-begun ([] ∷ ss) h l = absurd (and_left false (segments ss) h)
segments-begun ((b ∷ s) ∷ ss) h l =
    let i : T (lead_name b) = search (and_left, and_right) in
    (b, s ++ flatten ss, refl, search or_left)

bytes-begun : (x : Bool) (ss : List (List ℕ)) → T (segments ss) → 1 ≤ length ss → Begun (root_of x ++ (count_bytes (length ss) ++ flatten ss))
unfolding root_of name_start lead_name
bytes-begun true ss h l = (0x5C, _, refl, tt)
bytes-begun false ss h l = count_case (λ y. Begun (y ++ flatten ss)) (length ss) (λ e. segments-begun ss h l) (λ e. (0x2E, _, refl, tt)) (λ n₁ n₂. (0x2F, _, refl, tt))

pub path-head : (t : List ℕ) → T (is_path t) → (b : ℕ) × (r : List ℕ) × (path_bytes t ≡ b ∷ r) × T (name_start b)
unfolding bytes_of
path-head t h = path-known t h λ p w e q. let (s, l, u) = formed p w in rw q (bytes-begun p.root p.parts s l)

-- ── That they are bytes
name_small : (b : ℕ) → T (name_char b) → T (is_byte b)
unfolding name_char lead_name
name_small b h =
    lt→ltb b 256 (or_case ((leb 65 b && leb b 90) || eqb b 95) (leb 48 b && leb b 57) h
    (λ i. or_case (leb 65 b && leb b 90) (eqb b 95) i (λ j. omega (arith, leb→le b 90 (and_right (leb 65 b) (leb b 90) j))) (λ j. omega (arith, eqb→eq b 95 j)))
    (λ i. omega (arith, leb→le b 57 (and_right (leb 48 b) (leb b 57) i))))

names_small : (s : List ℕ) → T (every name_char s) → T (every is_byte s)
unfolding every
names_small [] h = tt
names_small (b ∷ s) h = and_both (is_byte b) _ (name_small b (and_left (name_char b) (every name_char s) h)) (names_small s (and_right (name_char b) (every name_char s) h))

pub segment_chars : (s : List ℕ) → T (segment s) → T (every name_char s)
unfolding segment every name_char
segment_chars [] h = absurd h
segment_chars (b ∷ s) h =
    let i : T (lead_name b) = search (and_left, and_right) in
    and_both (name_char b) (every name_char s) (or_left (lead_name b) (leb 48 b && leb b 57) i) (search (and_left, and_right))

segments-small : (ss : List (List ℕ)) → T (segments ss) → T (every is_byte (flatten ss))
unfolding segments flatten every
segments-small [] h = tt
segments-small (s ∷ ss) h =
    rw (every-join is_byte s (flatten ss))
    (and_both (every is_byte s) _ (names_small s (segment_chars s (and_left (segment s) (segments ss) h))) (segments-small ss (and_right (segment s) (segments ss) h)))

root-small : (x : Bool) → T (every is_byte (root_of x))
unfolding root_of every
root-small true = tt
root-small false = tt

count_small : (n : ℕ) → n ≤ 255 → T (every is_byte (count_bytes n))
unfolding every
count_small n h = count_case (λ y. T (every is_byte y)) n (λ e. tt) (λ e. tt) (λ n₁ n₂. and_both (is_byte n) true (lt→ltb n 256 (omega arith)) tt)

pub path-bytes-are : (t : List ℕ) → T (is_path t) → T (every is_byte (path_bytes t))
unfolding bytes_of
path-bytes-are t h = path-known t h λ p w e q.
    let (s, l, u) = formed p w in
    rw (q, every-join, every-join)
    (and_both (every is_byte (root_of p.root)) _ (root-small p.root)
    (and_both (every is_byte (count_bytes (length p.parts))) _ (count_small (length p.parts) u) (segments-small p.parts s)))

-- ── How many: of a path's text with r characters of root mark and n segments
pub record Measured (t : List ℕ) (r n : ℕ) : Type 0 where
  pub text : length t ≡ r + (5 * n - 1)
  pub bytes : length (path_bytes t) ≡ r + (length (count_bytes n) + 4 * n)
  pub root : r ≤ 1
  pub least : 1 ≤ n
  pub most : n ≤ 255

pub flat_length : (ss : List (List ℕ)) → T (segments ss) → length (flatten ss) ≡ 4 * length ss
unfolding segments flatten
flat_length [] h = refl
flat_length (s ∷ ss) h =
    omega (arith, length-append s (flatten ss), segment-length s (and_left (segment s) (segments ss) h), flat_length ss (and_right (segment s) (segments ss) h))

pub joined_length : (ss : List (List ℕ)) → T (segments ss) → length (joined ss) ≡ 5 * length ss - 1
unfolding segments joined
joined_length [] h = refl
joined_length (s ∷ []) h = segment-length s (and_left (segment s) true h)
joined_length (s ∷ r ∷ ss) h =
    omega (arith, length-append s (0x2E ∷ joined (r ∷ ss)), segment-length s (and_left (segment s) (segments (r ∷ ss)) h), joined_length (r ∷ ss) (and_right (segment s) (segments (r ∷ ss)) h))

pub parts-length : (t : List ℕ) (ss : List (List ℕ)) → parts_of t ≡ some ss → (1 ≤ length ss) × (length t ≡ 5 * length ss - 1)
parts-length t ss h = let (s, l, e) = parts-only t ss h in (l, ap length e ∙ joined_length ss s)

-- the length of the root mark, and the number of segments behind it
unfoldable pub root_size : List ℕ → ℕ
root_size t = length (root_of (unroot t).0)

unfoldable pub part_count : List ℕ → ℕ
part_count t = (length t - root_size t + 1) / 5

-- a path's parts, taken from its text
pub path-parts : {C : Type 0} (t : List ℕ) → T (is_path t)
    → ((p : Path) → T (segments p.parts) → unroot t ≡ (p.root, joined p.parts) → path_bytes t ≡ bytes_of p → Measured t (length (root_of p.root)) (length p.parts) → C) → C
unfolding bytes_of text_of
path-parts t h k =
    path-known t h λ p w e q.
    let (s, l, u) = formed p w in
    k p s (rw e (unroot-back p.root (joined p.parts) (joined-rootless p.parts s))) q (record {
      text = ap length e ∙ simp length-append (omega (arith, joined_length p.parts s));
      bytes = ap length q ∙ simp length-append (omega (arith, flat_length p.parts s));
      root = root-most p.root;
      least = l;
      most = u;
    })

pub path-text-length : (t : List ℕ) → T (is_path t) → Measured t (root_size t) (part_count t)
unfolding root_size part_count
path-text-length t h = path-parts t h λ p s d q m.
    let n : (length t - length (root_of p.root) + 1) / 5 ≡ length p.parts = omega (arith, m.text, m.least) in
    rw (d, n) m

count-length : (n : ℕ) → 1 ≤ n → length (count_bytes n) ≤ n + 1
count-length n h = count_case (λ y. length y ≤ n + 1) n (λ e. omega arith) (λ e. omega arith) (λ n₁ n₂. omega arith)

-- also of a text that is no path, which spells no bytes
pub path-most : (t : List ℕ) → length (path_bytes t) ≤ length t + 2
unfolding is_path path_bytes Option-elim
path-most t = go (path_of t) refl
  where
    go : (o : Option Path) → path_of t ≡ o → length (Option-elim o [] bytes_of) ≤ length t + 2
    go none e = omega arith
    go (some p) e = let m = path-text-length t (rw e tt) in omega (arith, ap (λ (o : Option Path). length (Option-elim o [] bytes_of)) e, m.text, m.bytes, count-length (part_count t) m.least, m.least)

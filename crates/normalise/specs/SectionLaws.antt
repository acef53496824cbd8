-- How the call meets its contract: the normal-form file in a row, what the figures say of it, and the sections of an accepted file.
-- Assumes nothing.
use Rattle.std.specs.Prelude.{◌≡◌, refl, Bool, ℕ, zero, suc, ◌+◌, ◌*◌, ◌-◌, ◌/◌, ◌<◌, ◌≤◌, length, drop, Result, Err}
use Rattle.std.proofs.Common.{sym, ap, ◌∙◌, length-append, length-take}
use mathlib.Core.List.{List, [], ◌∷◌, ◌++◌, append_assoc, append-nil}
use mathlib.Core.List as lists
use native.Mathlib.Omega.{arith}
use Rattle.octets.specs.Filling.{Parts, Writing, writing_start}
use Rattle.refusal.specs.declared.Fault.{Fault}
use Rattle.refusal.specs.Number.{number}
use Rattle.grammar.specs.declared.Place.TheVariants.{InList}
use Rattle.grammar.specs.Kinds.{row_of, row_in}
use Rattle.grammar.specs.Forest.{Forest, nil, node, count, depth, Term, flatten}
use Rattle.grammar.specs.ForestLaws.{flatten-build}
use Rattle.tree.specs.Bytes.{term_bytes, bytes}
use Rattle.tree.specs.Normal.{norm}
use Rattle.tree.proofs.NormalLaws.{norm-depth}
use Rattle.term.specs.declared.File.{File}
use Rattle.term.specs.File.{identity, layout_of, record_section, arity_section, pool_section}
use Rattle.term.specs.LaidOut as laid
use Rattle.arity.specs.Arity.{Arity, arities_of, args_of}
use Rattle.checker.specs.Refusal.{verdict, refusal_of}
use Rattle.checker.specs.Accepted.{accepted-forest}
use Rattle.checker.specs.Described.{forest_of}
use Rattle.normal.specs.File.{header_bytes, records_bytes, term_texts, arities_bytes, arity_texts, file_of}
use Rattle.normal.specs.FileLaws.{file-length}
use Rattle.encode.specs.Encode.{described, Answered}
use Rattle.encode.specs.Walk.{Part, below, walk-forest, walk_all}
use Rattle.encode.specs.WalkLaws.{terms_from, terms-more, Measured}
use Rattle.encode.specs.Answer.{whole, figures_number, figures_within, walked, outcome_refused}
use Rattle.encode.specs.LateLaws.{body-most, kids-most, terms-count, outcome_accepted}
use Rattle.encode.specs.AcceptLaws.{passed, identity-length}
use Rattle.encode.specs.Sound.{Sound}
use Rattle.whole.specs.Whole.{list_of, normalise_of}
use Rattle.whole.specs.ListLaws.{texts-short, arities_callable, arities-count, layout-room}
use Rattle.whole.specs.WholeLaws.{early_facts}
use Rattle.normalise.specs.Flat.{children_of, normal_all}
use Rattle.normalise.specs.FlatLaws.{kids_at, normal_from, texts_from, texts-most}
use Rattle.normalise.specs.Pack.{Slender}
use Rattle.normalise.specs.Sections.{tree_in, normal_file, Sections, Measures}

-- ── The file in a row
file-parts : (id : List ℕ) (ars : List Arity) (f : Forest) {ts : List Term} {n c a t : ℕ} → flatten f ≡ ts → n ≡ length ts → c ≡ length ars → a ≡ length (arity_texts ars) → t ≡ length (term_texts ts)
    → Parts (file_of id ars f) (header_bytes id n c (a + t) ∷ records_bytes a ts ∷ arities_bytes 0 ars ∷ arity_texts ars ∷ term_texts ts ∷ [])
unfolding file_of lists.flatten
file-parts id ars f e en ec ea et = record { is = rw (en, ec, ea, et, ← e, append-nil) refl }

module _ {id records arities pool : List ℕ} {n names texts : ℕ} {first : List ℕ} (m : Measures id records arities pool n names texts first) where
  pub file-start : Writing (normal_file id records arities pool)
      (header_bytes id n (length arities / 8) (names + texts)
      ∷ records_bytes names (normal_from records pool 0)
      ∷ arities_bytes 0 (arities_of arities pool)
      ∷ arity_texts (arities_of arities pool)
      ∷ term_texts (normal_from records pool 0)
      ∷ []) 0 first first
  file-start = writing_start first (file-parts id (arities_of arities pool) (norm (tree_in records pool)) m.normal m.counted (sym (arities-count arities pool)) m.named m.texted) m.room

-- ── The arity texts are few, and so is all text
pub names_most : {id records arities pool : List ℕ} → Sections id records arities pool → {names : ℕ} → names ≡ length (arity_texts (arities_of arities pool)) → names ≤ 5222400
names_most {id} {records} {arities} {pool} s e = omega (arith, texts-short (arities_of arities pool) (arities_callable arities pool s.fit), arities-count arities pool, s.few)

pub all_most : {records pool : List ℕ} → Sound records pool → {texts : ℕ} → texts ≡ texts_from records pool 0 → texts ≤ 281474983002112
all_most {records} {pool} s e = omega (arith, texts-most records pool s.small 0)

-- ── No term's children have more bytes than all terms
unfoldable EachSmall : ℕ → List Term → Type 0
EachSmall b [] = Unit {0}
EachSmall b (t ∷ ts) = (length (children_of t ts).bytes ≤ b) × EachSmall b ts

forest-small : (b : ℕ) (f : Forest) (ts : List Term) → depth f ≤ 64 → length (bytes f) ≤ b → EachSmall b ts → EachSmall b (flatten f ++ ts)
unfolding EachSmall flatten depth bytes
forest-small b nil ts d h k = k
forest-small b (node q v c s) ts d h k =
    let row = row_in (row_of q) in
    let e = length-append (term_bytes row v (count c) (bytes c)) (bytes s) in
    let m = body-most row v (count c) (bytes c) in
    let l = kids-most row v (count c) (bytes c) in
    rw (append_assoc (flatten c) (flatten s) ts)
    (rw (walk-forest c 64 (flatten s ++ ts) (omega arith)) (omega arith), forest-small b c (flatten s ++ ts) (omega arith) (omega arith) (forest-small b s ts (omega arith) (omega arith) k))

small_at : (b : ℕ) (records pool : List ℕ) (i j : ℕ) → EachSmall b (terms_from records pool j) → j + i < length records / 24 → length (kids_at records pool (j + i)) ≤ b
unfolding EachSmall
small_at b records pool zero j h k = let e : j + 0 ≡ j = omega arith in rw e (rw (terms-more records pool j (omega arith)) at h).0
small_at b records pool (suc i) j h k =
    let e : j + suc i ≡ j + 1 + i = omega arith in
    rw e (small_at b records pool i (j + 1) (rw (terms-more records pool j (omega arith)) at h).1 (omega arith))

-- ── What the figures say
module _ {id records arities pool : List ℕ} (s : Sections id records arities pool) where
  abbrev tree : Forest
  tree = tree_in records pool

  walk-tree : whole records pool ≡ record { bytes = bytes tree; records = length (flatten (norm tree)); deep = below 64 (norm tree); rest = [] }
  walk-tree = rw (terms-count records pool, s.terms) (walk_all tree 64 s.levels)

  pub normal-tree : flatten (norm tree) ≡ normal_from records pool 0
  normal-tree = rw s.terms (sym (normal_all tree s.levels (length records / 24) (omega (arith, terms-count records pool, ap length s.terms))))

  slender-tree : length (whole records pool).bytes ≤ 268435419 → Slender records pool
  unfolding EachSmall
  slender-tree h =
      let a : EachSmall 268435419 (terms_from records pool 0) = rw s.terms (rw append-nil at (forest-small 268435419 tree [] s.levels (rw walk-tree at h) tt)) in
      record { each = λ i k. let e : 0 + i ≡ i = omega arith in rw e at (small_at 268435419 records pool i 0 a (omega arith)) }

  module _ {size n : ℕ} {deep : Bool} {next : ℕ} (m : Measured (whole records pool) records pool size n deep next) where
    normal-count : n ≡ length (flatten (norm tree))
    normal-count = m.recorded ∙ ap (λ (p : Part). p.records) walk-tree

    module _ {names texts : ℕ} (en : names ≡ length (arity_texts (arities_of arities pool))) (et : texts ≡ texts_from records pool 0) where
      pub file-size : length (normal_file id records arities pool) ≡ 60 + 24 * n + 8 * (length arities / 8) + (names + texts)
      file-size =
          let t = ap (λ (ts : List Term). length (term_texts ts)) normal-tree in
          omega (arith, file-length id (arities_of arities pool) (norm tree) s.own, normal-count, arities-count arities pool, t)

      pub measured : 0 ≡ figures_number n deep size → (out : List ℕ) → 60 + 24 * n + 8 * (length arities / 8) + (names + texts) ≤ length out
          → Measures id records arities pool n names texts out
      measured z out h =
          let w = figures_within n deep size z in
          record {
            sections = s;
            slender = slender-tree (omega (arith, w.1, m.counted));
            normal = normal-tree;
            counted = normal-count ∙ ap length normal-tree;
            most = w.0;
            named = en;
            texted = et;
            room = omega (arith, file-size);
          }

-- ── An accepted file
tree_is : (f : List ℕ) → tree_in (record_section f) (pool_section f) ≡ described (forest_of f)
unfolding tree_in forest_of terms_from
tree_is f = refl

accepted-sections : (f : List ℕ) → (refusal_of f).number ≡ 0 → Sections (identity f) (record_section f) (arity_section f) (pool_section f)
unfolding described forest_of terms_from
accepted-sections f z =
    let (g, e, h) = accepted-forest f z in
    let (l, a) = early_facts f z in
    let t : tree_in (record_section f) (pool_section f) ≡ g = rw (tree_is f, e) refl in
    record {
      own = identity-length f z;
      terms = rw t (flatten-build _ g e);
      levels = rw t (norm-depth (args_of (arity_section f) (pool_section f)) (λ _. InList) 64 0 g h);
      fit = a;
      few = omega (arith, length-take ((layout_of f).pool - (layout_of f).arities) (drop (layout_of f).arities f), (layout-room f l).1);
    }

normalise_accepted : (f out : List ℕ) → (refusal_of f).number ≡ 0
    → normalise_of f out ≡ walked (normal_file (identity f) (record_section f) (arity_section f) (pool_section f)) (whole (record_section f) (pool_section f)) out
unfolding normalise_of list_of
normalise_accepted f out z = rw (tree_is f) (outcome_accepted (λ g. file_of (identity f) (list_of f) (norm g)) f out z)

pub normalise_refused : (f out : List ℕ) {v : Fault} → verdict (number v.refusal) v.index ≡ refusal_of f → Answered (Err v) out (normalise_of f out)
unfolding normalise_of
normalise_refused f out = outcome_refused (λ g. file_of (identity f) (list_of f) (norm g)) f out

-- of its sections, taken apart
module _ (f : List ℕ) (v : verdict 0 0 ≡ refusal_of f) {s : File} (e : laid.Sections f s) where
  pub own-sections : Sections s.identity.now s.records.now s.arities.now s.pool.now
  own-sections = rw (e.identity, e.records, e.arities, e.pool) (accepted-sections f (passed f v))

  pub own-normalised : (first : List ℕ) {r : Result ℕ Fault} {out : List ℕ}
      → Answered r out (walked (normal_file s.identity.now s.records.now s.arities.now s.pool.now) (whole s.records.now s.pool.now) first) → Answered r out (normalise_of f first)
  own-normalised first h = rw (normalise_accepted f first (passed f v)) (rw (e.identity, e.records, e.arities, e.pool) at h)

-- Accepted files: the normal form of what one describes fits, can be written, and is read back from the file that is written; and so a
-- normal form is accepted, is its own normal form, and has the same table. Document 01, "Bytes" (Normal form).
-- Assumes nothing.
use Rattle.std.specs.Prelude.{◌≡◌, Bool, true, false, ◌&&◌, not, cond, List, [], ℕ, ◌+◌, ◌≤◌, T, eqb, leb, ltb, length, drop}
use Rattle.std.proofs.Math.Path.{refl}
use Rattle.std.proofs.Math.Option.{some}
use Rattle.std.proofs.Common.{arith, leb→le, eqb-true, le-leb, le-ltb, ltb-false}
use Rattle.std.proofs.Math.ListN.{length-take, length-drop}
use Rattle.std.proofs.lemmas.Bool.{eqb-false}
use Rattle.octets.specs.Tests.{and_left, and_right, test_true}
use Rattle.grammar.specs.declared.Place.TheVariants.{InList}
use Rattle.grammar.specs.Kinds.{is, rank}
use Rattle.grammar.specs.Forest.{Forest, depth, flatten}
use Rattle.tree.specs.Fits.{Fits}
use Rattle.tree.specs.Bytes.{bytes}
use Rattle.tree.specs.Normal.{norm, roomy}
use Rattle.tree.specs.IsNormal.{normal}
use Rattle.tree.proofs.NormalLaws.{norm-norm, norm-depth, norm-fits, norm-normal, norm_fixed}
use Rattle.term.specs.File.{identity, layout_of}
use Rattle.term.specs.Record.{records_from}
use Rattle.arity.specs.Arity.{Arity, arities_fit, args_in, args_of}
use Rattle.checker.specs.Refusal.{verdict, record_section, arity_section, pool_section, scan, refusal_of}
use Rattle.checker.specs.Described.{forest_of}
use Rattle.checker.specs.Accepted.{accepted-forest}
use Rattle.normal.specs.File.{file_of}
use Rattle.normal.specs.Writable.{Writable}
use Rattle.normal.specs.WritableLaws.{fits-writable}
use Rattle.normal.specs.FewLaws.{few-forest}
use Rattle.normal.specs.FileLaws.{file-identity, file-forest, file-arities, file-accepted}
use Rattle.encode.specs.Encode.{table_of, late_number, handed, described, outcome_of, encode_of}
use Rattle.whole.specs.Whole.{list_of, tree_of, table_for, normal_for, Accepted, normalise_of}
use Rattle.whole.specs.ListLaws.{Listed, sizes, texts-short, layout-room, listed}

-- ── A forest that a table can be made of, with this arity list
pub record Sound (l : List Arity) (g : Forest) : Type 0 where
  pub fits : Fits (args_in l) (λ _. InList) 64 0 g
  pub normal : T (normal g)
  pub roomy : T (roomy g)
  pub few : length (flatten g) ≤ 65536
  pub size : 36 + length (bytes g) ≤ 268435455

-- none of 11 to 13 holds
late_facts : (n : Forest) → late_number n ≡ 0 → (length (flatten n) ≤ 65536) × (depth n ≤ 64) × (36 + length (bytes n) ≤ 268435455) × T (roomy n)
unfolding late_number
late_facts n e = by (leb (length (flatten n)) 65536 && leb (depth n) 64) refl (ltb 268435455 (36 + length (bytes n))) refl (roomy n) e
  where
    by : (a : Bool) → leb (length (flatten n)) 65536 && leb (depth n) 64 ≡ a → (b : Bool) → ltb 268435455 (36 + length (bytes n)) ≡ b → (c : Bool)
        → ◌≡◌ {A = ℕ} (cond (not a) 11 (cond b 12 (cond (not c) 13 0))) 0 → (length (flatten n) ≤ 65536) × (depth n ≤ 64) × (36 + length (bytes n) ≤ 268435455) × T c
    by true p true q c e = absurd (omega arith)
    by true p false q true e =
        let t : T (leb (length (flatten n)) 65536 && leb (depth n) 64) = rw p tt in
        (leb→le (length (flatten n)) 65536 (search and_left), leb→le (depth n) 64 (search and_right), ltb-false _ _ q, tt)
    by true p false q false e = absurd (omega arith)
    by false p b q c e = absurd (omega arith)

pub sound-late : (l : List Arity) (g : Forest) → Sound l g → late_number g ≡ 0
unfolding late_number
sound-late l g s =
    rw (le-leb (length (flatten g)) 65536 s.few, le-leb (depth g) 64 (norm-depth (args_in l) (λ _. InList) 64 0 g s.fits), le-ltb 268435455 (36 + length (bytes g)) s.size, test_true (roomy g) s.roomy) refl

-- what is tested before the records
pub early_facts : (f : List ℕ) → (refusal_of f).number ≡ 0 → ((layout_of f).number ≡ 0) × (arities_fit (arity_section f) (pool_section f) ≡ true)
unfolding refusal_of
early_facts f h = by (eqb (layout_of f).number 0) refl (arities_fit (arity_section f) (pool_section f)) h
  where
    by : (a : Bool) → eqb (layout_of f).number 0 ≡ a → (b : Bool)
        → (cond (not a) (verdict (layout_of f).number 0) (cond (not b) (verdict 3 0) (scan (arity_section f) (pool_section f) (records_from (record_section f) 0) 0 []))).number ≡ 0
        → ((layout_of f).number ≡ 0) × (b ≡ true)
    by true p true h = (eqb-true _ _ p, refl)
    by true p false h = absurd (omega arith)
    by false p b h = absurd (eqb-false _ _ p h)

-- ── What an accepted file has: its arity list, its tree's normal form, and an identity of 31 bytes
module _ (f : List ℕ) (a : Accepted f) where
  pub accepted-list : Listed (list_of f)
  unfolding list_of
  accepted-list = let (z, h) = early_facts f a.early in listed f z h

  pub accepted-identity : length (identity f) ≡ 31
  unfolding identity
  accepted-identity = omega (arith, length-take 31 (drop 28 f), length-drop 28 f, (layout-room f (early_facts f a.early).0).0)

  pub accepted-fits : Fits (args_in (list_of f)) (λ _. InList) 64 0 (tree_of f)
  unfolding list_of tree_of args_of described
  accepted-fits = let (g, e, h) = accepted-forest f a.early in rw e h

  -- so that `described none` does not happen
  pub accepted-tree-is : (g : Forest) × (forest_of f ≡ some g) × (tree_of f ≡ g)
  unfolding tree_of described
  accepted-tree-is = let (g, e, h) = accepted-forest f a.early in (g, e, rw e refl)

  pub accepted-sound : Sound (list_of f) (norm (tree_of f))
  unfolding is rank
  accepted-sound =
      let (n, d, s, r) = late_facts (norm (tree_of f)) a.late in
      record {
        fits = norm-fits (args_in (list_of f)) (λ _. InList) 64 0 (tree_of f) accepted-fits d r;
        normal = norm-normal (args_in (list_of f)) (λ _. InList) 64 0 (tree_of f) (λ i. tt) accepted-fits;
        roomy = r;
        few = n;
        size = s;
      }

  pub accepted-tree : Fits (args_in (list_of f)) (λ _. InList) 64 0 (norm (tree_of f)) × T (normal (norm (tree_of f))) × T (roomy (norm (tree_of f)))
  accepted-tree = let s = accepted-sound in (s.fits, s.normal, s.roomy)

-- ── Which is writable
pub sound-writable : (id : List ℕ) (l : List Arity) (g : Forest) → length id ≡ 31 → Listed l → Sound l g → Writable id l g
sound-writable id l g i h s =
    fits-writable id l (args_in l) (λ _. InList) 64 0 g i h.few s.few (sizes l h.each) s.fits
    (omega (arith, texts-short l h.each, h.few, (few-forest (args_in l) (λ _. InList) 64 0 g s.fits s.normal).texts, s.size))

pub accepted-writable : (f : List ℕ) → Accepted f → Writable (identity f) (list_of f) (norm (tree_of f))
accepted-writable f a = sound-writable (identity f) (list_of f) (norm (tree_of f)) (accepted-identity f a) (accepted-list f a) (accepted-sound f a)

-- ── What is written is read back, and the file is accepted
pub record Holds (f id : List ℕ) (l : List Arity) (g : Forest) : Type 0 where
  pub accepted : Accepted f
  pub identity : identity f ≡ id
  pub list : list_of f ≡ l
  pub tree : tree_of f ≡ g

pub sound-file : (id : List ℕ) (l : List Arity) (g : Forest) → length id ≡ 31 → Listed l → Sound l g → Holds (file_of id l g) id l g
unfolding list_of tree_of described
sound-file id l g i h s =
    let w = sound-writable id l g i h s in
    let t : tree_of (file_of id l g) ≡ g = rw (file-forest id l g w) refl in
    record {
      accepted = record {
        early = file-accepted id l g w h.each h.up s.fits;
        late = rw (t, norm_fixed g s.normal) (sound-late l g s);
      };
      identity = file-identity id l g w;
      list = file-arities id l g w;
      tree = t;
    }

-- a file of a normal forest is its own normal form
pub holds-normal : {id : List ℕ} {l : List Arity} {g : Forest} → T (normal g) → Holds (file_of id l g) id l g → normal_for (file_of id l g) ≡ file_of id l g
unfolding normal_for
holds-normal {g = g} n h = rw (h.identity, h.list, h.tree, norm_fixed g n) refl

module _ (f : List ℕ) (a : Accepted f) where
  normal-holds : Holds (normal_for f) (identity f) (list_of f) (norm (tree_of f))
  unfolding normal_for
  normal-holds = sound-file (identity f) (list_of f) (norm (tree_of f)) (accepted-identity f a) (accepted-list f a) (accepted-sound f a)

  pub normal-forest : tree_of (normal_for f) ≡ norm (tree_of f)
  normal-forest = normal-holds.tree

  pub normal-list : list_of (normal_for f) ≡ list_of f
  normal-list = normal-holds.list

  pub normal-identity : identity (normal_for f) ≡ identity f
  normal-identity = normal-holds.identity

  -- a normal form is accepted, is its own, and has the same table
  pub normal-accepted : Accepted (normal_for f)
  normal-accepted = normal-holds.accepted

  pub normal-again : normal_for (normal_for f) ≡ normal_for f
  unfolding normal_for
  normal-again = rw (normal-identity, normal-list, normal-forest, norm-norm (tree_of f)) refl

  pub normal-table : table_for (normal_for f) ≡ table_for f
  unfolding table_for table_of
  normal-table = rw (normal-identity, normal-forest, norm-norm (tree_of f)) refl

  -- encoding and normalising hand them over
  pub encode_accepted : (out : List ℕ) → encode_of f out ≡ handed (table_for f) out
  unfolding encode_of outcome_of table_for tree_of
  encode_accepted out = rw (a.early, a.late) refl

  pub normalise_accepted : (out : List ℕ) → normalise_of f out ≡ handed (normal_for f) out
  unfolding normalise_of outcome_of normal_for tree_of
  normalise_accepted out = rw (a.early, a.late) refl

-- One table, one normal form: accepted files with one arity list have the same table exactly if they have the same normal form; and a table
-- is read exactly if it is the table of an accepted file, whose normal form is what is read.
-- Document 01, "How strong the statements are" (Demand 3) and "Refusal numbers" (Reading).
-- Assumes nothing.
use Rattle.std.specs.Prelude.{◌≡◌, List, ◌⊎◌, ℕ, ◌+◌, ◌≤◌, ◌<◌, T, leb, ltb, drop}
use Rattle.std.proofs.Math.Path.{refl, sym, ap}
use Rattle.std.proofs.Common.{◌∙◌, inl, inr, arith, leb→le, length-drop}
use Rattle.std.proofs.Math.Option.{Option, none, some, none-ne-some, some-injective}
use Rattle.std.proofs.Math.ListN.{length}
use borrow.Author.Tests.{eq-eqb, le-leb, le-ltb}
use Rattle.octets.specs.Bytes.{every, is_byte, le_at}
use Rattle.octets.specs.Sum.{byte_sum}
use Rattle.octets.specs.Tests.{cond_case, cond_inv}
use Rattle.grammar.specs.Forest.{Forest, flatten}
use Rattle.tree.specs.Bytes.{bytes}
use Rattle.tree.specs.Normal.{norm}
use Rattle.tree.proofs.NormalLaws.{norm_fixed}
use Rattle.tree.specs.Read.{parse}
use Rattle.tree.proofs.ExactLaws.{parse-back, parse-only, bytes_injective}
use Rattle.term.specs.File.{identity}
use Rattle.arity.specs.Arity.{Arity, args_in}
use Rattle.normal.specs.File.{file_of}
use Rattle.encode.specs.Encode.{table_of, Outcome, refused_by, handed}
use Rattle.whole.specs.Whole.{list_of, tree_of, table_for, normal_for, Accepted, identity_of, tree_in, read_in, read_of, Plain, Framed, Gives}
use Rattle.whole.specs.ListLaws.{Listed, listed}
use Rattle.whole.specs.TableLaws.{table-length, table_contents, table-identity, table-sum, table_field, identity-length, table-back}
use Rattle.whole.specs.WholeLaws.{Sound, accepted-identity, accepted-sound, sound-file, holds-normal, normal-forest, normal-identity}

-- ── The table of a forest
module _ (id : List ℕ) (g : Forest) (i : length id ≡ 31) where
  pub table-size : length (table_of id g) ≡ 36 + length (bytes (norm g))
  unfolding table_of
  table-size = table-length id (bytes (norm g)) i

  pub table-terms : drop 36 (table_of id g) ≡ bytes (norm g)
  unfolding table_of
  table-terms = table_contents id (bytes (norm g)) i

  pub table_id : identity_of (table_of id g) ≡ id
  unfolding table_of
  table_id = table-identity id (bytes (norm g)) i

  pub table-sums : byte_sum (table_of id g) ≡ 0
  unfolding table_of
  table-sums = table-sum id (bytes (norm g)) i

  pub table_measures : 36 + length (bytes (norm g)) < 4294967296 → le_at 4 (table_of id g) 4 ≡ length (table_of id g)
  unfolding table_of
  table_measures h = table_field id (bytes (norm g)) i h

-- ── Demand 3, first sentence
module _ (f h : List ℕ) (a : Accepted f) (b : Accepted h) where
  -- one table with one arity list is of one normal forest
  pub same-forest : list_of f ≡ list_of h → table_for f ≡ table_for h → norm (tree_of f) ≡ norm (tree_of h)
  unfolding table_for
  same-forest l t =
      let s = accepted-sound f a in
      let r : Sound (list_of f) (norm (tree_of h)) = rw l (accepted-sound h b) in
      let e : bytes (norm (tree_of f)) ≡ bytes (norm (tree_of h)) =
      sym (table-terms (identity f) (tree_of f) (accepted-identity f a)) ∙ ap (drop 36) t ∙ table-terms (identity h) (tree_of h) (accepted-identity h b) in
      bytes_injective (args_in (list_of f)) (norm (tree_of f)) (norm (tree_of h)) s.fits s.normal s.roomy r.fits r.normal r.roomy e

  pub table-normal : list_of f ≡ list_of h → table_for f ≡ table_for h → normal_for f ≡ normal_for h
  unfolding normal_for table_for
  table-normal l t =
      let e : identity f ≡ identity h = sym (table_id (identity f) (tree_of f) (accepted-identity f a)) ∙ ap identity_of t ∙ table_id (identity h) (tree_of h) (accepted-identity h b) in
      rw (e, l, same-forest l t) refl

  pub normal-same : normal_for f ≡ normal_for h → table_for f ≡ table_for h
  unfolding table_for table_of
  normal-same n =
      let e : identity f ≡ identity h = sym (normal-identity f a) ∙ ap identity n ∙ normal-identity h b in
      let g : norm (tree_of f) ≡ norm (tree_of h) = sym (normal-forest f a) ∙ ap tree_of n ∙ normal-forest h b in
      rw (e, g) refl

  pub same-table : identity f ≡ identity h → list_of f ≡ list_of h → (table_for f ≡ table_for h → normal_for f ≡ normal_for h) × (normal_for f ≡ normal_for h → table_for f ≡ table_for h)
  same-table i l = (table-normal l, normal-same)

pub plain-listed : (a : List ℕ) → Plain a → Listed (list_of a)
unfolding list_of
plain-listed a p = listed a p.layout p.fit

-- the reading of a framed table is of its terms
read-framed : (a t out : List ℕ) → Plain a → Framed t → read_of a t out ≡ read_in (list_of a) t (tree_in (list_of a) t) out
unfolding read_of
read-framed a t out p h =
    rw (p.layout, p.none, p.fit, le-ltb (length t) 36 h.least, eq-eqb (le_at 4 t 4) (length t) h.own, le-ltb 268435455 (length t) h.most, eq-eqb (byte_sum t) 0 h.sum) refl

module _ (l : List Arity) (t : List ℕ) (g : Forest) where
  tree_in_lem : parse (args_in l) (drop 36 t) ≡ some g → length (flatten g) ≤ 65536 → tree_in l t ≡ some g
  unfolding tree_in
  tree_in_lem e n = rw (e, le-leb (length (flatten g)) 65536 n) refl

  tree_in_only : tree_in l t ≡ some g → (parse (args_in l) (drop 36 t) ≡ some g) × (length (flatten g) ≤ 65536)
  unfolding tree_in
  tree_in_only e = by (parse (args_in l) (drop 36 t)) refl
    where
      by : (o : Option Forest) → parse (args_in l) (drop 36 t) ≡ o → (parse (args_in l) (drop 36 t) ≡ some g) × (length (flatten g) ≤ 65536)
      by none p = absurd (none-ne-some g (rw p at e))
      by (some f) p =
          cond_inv (leb (length (flatten f)) 65536) (some f) none (rw p at e)
          (λ m k. (p ∙ k, rw (← (some-injective f g k)) (leb→le (length (flatten f)) 65536 m)))
          (λ m k. absurd (none-ne-some g k))

-- the table of an accepted file is read, and what is read is the file's normal form
module _ (a f : List ℕ) (p : Plain a) (h : Accepted f) (l : list_of f ≡ list_of a) where
  table-framed : Framed (table_for f)
  unfolding table_for
  table-framed =
      let i = accepted-identity f h in
      let s = accepted-sound f h in
      let n : length (table_of (identity f) (tree_of f)) ≡ 36 + length (bytes (norm (tree_of f))) = table-size (identity f) (tree_of f) i in
      record {
        least = omega arith;
        own = table_measures (identity f) (tree_of f) i (omega (arith, s.size));
        most = omega (arith, s.size);
        sum = table-sums (identity f) (tree_of f) i;
      }

  table-tree : tree_in (list_of a) (table_for f) ≡ some (norm (tree_of f))
  unfolding table_for
  table-tree =
      let s = accepted-sound f h in
      rw (← l) (tree_in_lem (list_of f) (table_for f) (norm (tree_of f)) (rw (table-terms (identity f) (tree_of f) (accepted-identity f h)) (parse-back (args_in (list_of f)) (norm (tree_of f)) s.fits s.normal s.roomy)) s.few)

  pub read_table : (out : List ℕ) → read_of a (table_for f) out ≡ handed (normal_for f) out
  unfolding table_for normal_for read_in
  read_table out = read-framed a (table_for f) out p table-framed ∙ rw (table-tree, table_id (identity f) (tree_of f) (accepted-identity f h), l) refl

module _ (a t : List ℕ) (g : Forest) (p : Plain a) (b : T (every is_byte t)) (h : Framed t) (e : tree_in (list_of a) t ≡ some g) where
  read-sound : Sound (list_of a) g × (drop 36 t ≡ bytes g)
  read-sound =
      let (q, n) = tree_in_only (list_of a) t g e in
      let (f, m, r, w) = parse-only (args_in (list_of a)) (drop 36 t) g q in
      (record { fits = f; normal = m; roomy = r; few = n; size = omega (arith, ap length w, length-drop 36 t, h.most, h.least) }, w)

  pub read_origin : Gives a (file_of (identity_of t) (list_of a) g) t × (normal_for (file_of (identity_of t) (list_of a) g) ≡ file_of (identity_of t) (list_of a) g)
  unfolding table_for table_of
  read_origin =
      let (s, w) = read-sound in
      let k = sound-file (identity_of t) (list_of a) g (identity-length t h.least) (plain-listed a p) s in (
        record {
          accepted = k.accepted;
          list = k.list;
          table = rw (k.identity, k.tree, norm_fixed g s.normal, ← w) (table-back t b h.least h.own h.sum);
        },
        holds-normal s.normal k,
      )

-- what is read of a table that a file gives is the file's normal forest
tree-given : (a f t : List ℕ) → Plain a → Gives a f t → tree_in (list_of a) t ≡ some (norm (tree_of f))
tree-given a f t p k = rw (← k.table) (table-tree a f p k.accepted k.list)

-- a table is read, as the normal form of a file that gives it; or it is refused with 22, and no file gives it
pub reading : (a t out : List ℕ) → Plain a → Framed t → T (every is_byte t)
    → ((f : List ℕ) × Gives a f t × (read_of a t out ≡ handed (normal_for f) out)) ⊎ (((f : List ℕ) → Gives a f t → ⊥) × (read_of a t out ≡ refused_by 22 0 out))
unfolding read_in
reading a t out p h b = by (tree_in (list_of a) t) refl
  where
    by : (o : Option Forest) → tree_in (list_of a) t ≡ o
        → ((f : List ℕ) × Gives a f t × (read_of a t out ≡ handed (normal_for f) out)) ⊎ (((f : List ℕ) → Gives a f t → ⊥) × (read_of a t out ≡ refused_by 22 0 out))
    by (some g) e =
        let (k, n) = read_origin a t g p b h e in
        inl (file_of (identity_of t) (list_of a) g, k, read-framed a t out p h ∙ rw (e, n) refl)
    by none e = inr ((λ f k. none-ne-some (norm (tree_of f)) (sym e ∙ tree-given a f t p k)), read-framed a t out p h ∙ rw e refl)

-- what is handed over is not refused with 22
pub handed_not_22 : (bs out : List ℕ) → (handed bs out).answer.number ≡ 22 → ⊥
unfolding handed refused_by
handed_not_22 bs out = cond_case (λ (o : Outcome). o.answer.number ≡ 22 → ⊥) (ltb (length out) (length bs)) _ _ (λ _ e. omega arith) (λ _ e. omega arith)

-- The records of a normal form, in one pass along a file's records: an EISA id becomes an integer, a UUID and a resource template become
-- buffers of their bytes, any other record stays. On the records of a forest this gives the records of its normal form.
-- Document 01, "Bytes" (Normal form). Assumes nothing.
use Rattle.std.specs.Prelude.{◌≡◌, Bool, ◌||◌, ℕ, zero, suc, ◌+◌, ◌≤◌, eqb, length}
use Rattle.std.proofs.Math.Path.{refl}
use Rattle.std.proofs.Math.Bool.{true, false, cond}
use mathlib.Core.List.{List, [], ◌∷◌, ◌++◌, append_assoc, append-nil}
use Rattle.std.proofs.Common.{arith, length-append}
use Rattle.ident.specs.Ident.{eisa_id, uuid_bytes}
use Rattle.descriptor.specs.Template.{end_tag}
use Rattle.grammar.specs.declared.Place.{Place}
use Rattle.grammar.specs.Forest as forests
use Rattle.grammar.specs.Forest.{Forest, nil, count, depth, Term, flatten}
use Rattle.tree.specs.Bytes.{bytes}
use Rattle.tree.specs.Fits.{Args, Fits}
use Rattle.tree.specs.Normal.{integer_term, buffer_term, norm}
use Rattle.tree.proofs.NormalLaws.{norm-count, norm-depth}
use Rattle.encode.specs.Walk.{Part, is_buffer, list, node, term, walk-forest}

-- the records of an integer, and of a buffer with its size
abbrev pub integer_records : ℕ → List Term
integer_records x = flatten (integer_term x nil)

abbrev pub buffer_records : List ℕ → List Term
buffer_records t = flatten (buffer_term t nil)

-- what a record becomes, by its kind, its text and the bytes of its children
unfoldable pub becomes : Term → List ℕ → List Term
becomes t bs =
    cond (eqb t.kind 0xE001) (integer_records (eisa_id t.fields.text))
    (cond (eqb t.kind 0xE002) (buffer_records (uuid_bytes t.fields.text))
    (cond (eqb t.kind 0xE003) (buffer_records (bs ++ end_tag))
    (t ∷ [])))

-- a record's children, at the front of the records after it
abbrev pub children_of : Term → List Term → Part
children_of t ts = list (term 64) t.kids ts

-- where the pass goes on: a record that stays keeps its children; what else it becomes takes the place of both
abbrev pub changes : ℕ → Bool
changes k = eqb k 0xE001 || is_buffer k

unfoldable pub onward : Term → List Term → List Term
onward t ts = cond (changes t.kind) (children_of t ts).rest ts

-- of at most n records
unfoldable pub normal_terms : ℕ → List Term → List Term
normal_terms zero ts = []
normal_terms (suc n) [] = []
normal_terms (suc n) (t ∷ ts) = becomes t (children_of t ts).bytes ++ normal_terms n (onward t ts)

-- ── The pass goes on: as many as there are records is enough
list-rest : (f : List Term → Part) → ((ts : List Term) → length (f ts).rest ≤ length ts) → (n : ℕ) (ts : List Term) → length (list f n ts).rest ≤ length ts
unfolding list
list-rest f h zero ts = omega arith
list-rest f h (suc n) ts = omega (arith, h ts, list-rest f h n (f ts).rest)

term-rest : (l : ℕ) (ts : List Term) → length (term l ts).rest ≤ length ts
unfolding term node
term-rest zero ts = omega arith
term-rest (suc l) [] = omega arith
term-rest (suc l) (t ∷ ts) = omega (arith, list-rest (term l) (term-rest l) t.kids ts)

pub onward-rest : (t : Term) (ts : List Term) → length (onward t ts) ≤ length ts
unfolding onward
onward-rest t ts = by (changes t.kind)
  where
    by : (b : Bool) → length (cond b (children_of t ts).rest ts) ≤ length ts
    by true = list-rest (term 64) (term-rest 64) t.kids ts
    by false = omega arith

pub normal_enough : (n m : ℕ) (ts : List Term) → length ts ≤ n → length ts ≤ m → normal_terms n ts ≡ normal_terms m ts
unfolding normal_terms
normal_enough zero zero ts h k = refl
normal_enough zero (suc m) [] h k = refl
normal_enough zero (suc m) (t ∷ ts) h k = absurd (omega arith)
normal_enough (suc n) zero [] h k = refl
normal_enough (suc n) zero (t ∷ ts) h k = absurd (omega arith)
normal_enough (suc n) (suc m) [] h k = refl
normal_enough (suc n) (suc m) (t ∷ ts) h k =
    rw (normal_enough n m (onward t ts) (omega (arith, onward-rest t ts)) (omega (arith, onward-rest t ts))) refl

-- ── Along the records of a forest: its normal form's, and then those of the records behind
-- a term, when its children and the terms after it are so
module _ (k : ℕ) (v : forests.Fields) (c s : Forest) (n m : ℕ) (ts : List Term) where
  normal-node : depth c ≤ 64 → normal_terms n (flatten c ++ (flatten s ++ ts)) ≡ flatten (norm c) ++ normal_terms n (flatten s ++ ts)
      → normal_terms n (flatten s ++ ts) ≡ flatten (norm s) ++ normal_terms m ts
      → normal_terms (suc n) (flatten (forests.node k v c s) ++ ts) ≡ flatten (norm (forests.node k v c s)) ++ normal_terms m ts
  unfolding flatten norm normal_terms count becomes onward
  normal-node d kids rest = rw (append_assoc (flatten c) (flatten s) ts, walk-forest c 64 (flatten s ++ ts) d) (by (eqb k 0xE001) (eqb k 0xE002) (eqb k 0xE003))
    where
      by : (a b e : Bool)
          → cond a (integer_records (eisa_id v.text)) (cond b (buffer_records (uuid_bytes v.text)) (cond e (buffer_records (bytes c ++ end_tag)) (record { kind = k; fields = v; kids = count c } ∷ [])))
          ++ normal_terms n (cond (a || (b || e)) (flatten s ++ ts) (flatten c ++ (flatten s ++ ts)))
          ≡ flatten (cond a (integer_term (eisa_id v.text) (norm s)) (cond b (buffer_term (uuid_bytes v.text) (norm s)) (cond e (buffer_term (bytes c ++ end_tag) (norm s)) (forests.node k v (norm c) (norm s)))))
          ++ normal_terms m ts
      by true b e = rw rest refl
      by false true e = rw rest refl
      by false false true = rw rest refl
      by false false false = rw (kids, rest, norm-count c, append_assoc (flatten (norm c)) (flatten (norm s)) (normal_terms m ts)) refl

pub normal-forest : (f : Forest) (n m : ℕ) (ts : List Term) → depth f ≤ 64 → length (flatten f) + length ts ≤ n → length ts ≤ m
    → normal_terms n (flatten f ++ ts) ≡ flatten (norm f) ++ normal_terms m ts
unfolding flatten norm depth
normal-forest nil n m ts d h k = normal_enough n m ts (omega arith) k
normal-forest (forests.node k v c s) zero m ts d h g = absurd (omega arith)
normal-forest (forests.node k v c s) (suc n) m ts d h g =
    let e = length-append (flatten c) (flatten s) in
    let q = length-append (flatten s) ts in
    normal-node k v c s n m ts (omega arith)
    (normal-forest c n n (flatten s ++ ts) (omega arith) (omega arith) (omega arith))
    (normal-forest s n m ts (omega arith) (omega arith) g)

-- the records of the normal form
pub normal_all : (f : Forest) → depth f ≤ 64 → (n : ℕ) → length (flatten f) ≤ n → normal_terms n (flatten f) ≡ flatten (norm f)
unfolding normal_terms
normal_all f d n h = rw (append-nil (flatten f), append-nil (flatten (norm f))) at (normal-forest f n 0 [] d (omega arith) (omega arith))

pub normal-terms : (args : Args) (place : ℕ → Place) (l j : ℕ) (f : Forest) → Fits args place l j f → l ≤ 64 → (n : ℕ) → length (flatten f) ≤ n → normal_terms n (flatten f) ≡ flatten (norm f)
normal-terms args place l j f h k = normal_all f (omega (arith, norm-depth args place l j f h))

-- The bytes of terms, walking along the records: a term and, one level down, its children; and how many records and levels they
-- have in normal form. Total: where the levels or the records run out, nothing is written and nothing is passed over.
-- On the records of a forest the walk gives the forest's bytes. Assumes nothing.
use Rattle.std.specs.Prelude.{◌≡◌, Bool, ◌||◌, List, [], ◌∷◌, ◌++◌, leb}
use Rattle.std.proofs.Math.Path.{refl}
use Rattle.std.proofs.Math.Bool.{true, false, not, cond}
use Rattle.std.proofs.Common.{append_assoc, append-nil, zero-add, suc-add}
use Prim.Native.Nat.{ℕ, zero, suc, ◌+◌, ◌-◌, ◌≤◌, max}
use native.Mathlib.Omega.{arith}
use Rattle.std.proofs.Math.Dec.{eqb, leb-suc-suc}
use Rattle.std.proofs.Math.ListN.{length, length-append}
use borrow.Author.Tests.{le-leb, lt-leb, leb-true, leb-false, ne_eqb}
use Rattle.ident.specs.Ident.{eisa_id, uuid_bytes}
use Rattle.descriptor.specs.Template.{end_tag}
use Rattle.grammar.specs.Kinds.{row_of, row_in}
use Rattle.grammar.specs.Forest as forests
use Rattle.grammar.specs.Forest.{Forest, nil, count, depth, Term, flatten}
use Rattle.grammar.specs.ForestLaws.{count_most}
use Rattle.tree.specs.Bytes.{term_bytes, bytes}
use Rattle.tree.specs.Normal.{integer_term, buffer_term, norm}

-- the bytes of some terms; the number of their records in normal form, and whether these go below the last level; the records behind them
pub record Part : Type 0 where
  pub bytes : List ℕ
  pub records : ℕ
  pub deep : Bool
  pub rest : List Term

abbrev pub nothing : List Term → Part
nothing ts = record { bytes = []; records = 0; deep = false; rest = ts }

unfoldable pub list : (List Term → Part) → ℕ → List Term → Part
list f zero ts = nothing ts
list f (suc n) ts = record {
  bytes = (f ts).bytes ++ (list f n (f ts).rest).bytes;
  records = (f ts).records + (list f n (f ts).rest).records;
  deep = (f ts).deep || (list f n (f ts).rest).deep;
  rest = (list f n (f ts).rest).rest;
}

-- an EISA id becomes an integer; a UUID and a template become a buffer with its size as a child
abbrev pub is_buffer : ℕ → Bool
is_buffer k = eqb k 0xE002 || eqb k 0xE003

unfoldable pub records_in : ℕ → ℕ → ℕ
records_in k n = cond (eqb k 0xE001) 1 (cond (is_buffer k) 2 (1 + n))

-- with l levels below the term's own
unfoldable pub deeper : ℕ → ℕ → Bool → Bool
deeper l k d = cond (eqb k 0xE001) false (cond (is_buffer k) (eqb l 0) d)

unfoldable pub node : ℕ → Term → Part → Part
node l t p = record {
  bytes = term_bytes (row_in (row_of t.kind)) t.fields t.kids p.bytes;
  records = records_in t.kind p.records;
  deep = deeper l t.kind p.deep;
  rest = p.rest;
}

unfoldable pub term : ℕ → List Term → Part
term zero ts = nothing ts
term (suc l) [] = nothing []
term (suc l) (t ∷ ts) = node l t (list (term l) t.kids ts)

-- ── Along the records of a forest
-- whether a forest has more than l levels
abbrev pub below : ℕ → Forest → Bool
below l f = not (leb (depth f) l)

below_max : (m n l : ℕ) → not (leb (max m n) l) ≡ not (leb m l) || not (leb n l)
below_max m n l = by (leb m l) (leb n l) refl refl
  where
    by : (a b : Bool) → leb m l ≡ a → leb n l ≡ b → not (leb (max m n) l) ≡ not a || not b
    by true true e f = rw (le-leb (max m n) l (omega (arith, leb-true m l e, leb-true n l f))) refl
    by true false e f = rw (lt-leb (max m n) l (omega (arith, leb-false n l f))) refl
    by false b e f = rw (lt-leb (max m n) l (omega (arith, leb-false m l e))) refl

module _ (k : ℕ) (v : forests.Fields) (c s : Forest) where
  normal-records : length (flatten (norm (forests.node k v c s))) ≡ records_in k (length (flatten (norm c))) + length (flatten (norm s))
  unfolding norm flatten records_in
  normal-records = by (eqb k 0xE001) (eqb k 0xE002) (eqb k 0xE003)
    where
      by : (a b d : Bool)
          → length (flatten (cond a (integer_term (eisa_id v.text) (norm s)) (cond b (buffer_term (uuid_bytes v.text) (norm s)) (cond d (buffer_term (bytes c ++ end_tag) (norm s)) (forests.node k v (norm c) (norm s))))))
          ≡ cond a 1 (cond (b || d) 2 (1 + length (flatten (norm c)))) + length (flatten (norm s))
      by true b d = omega arith
      by false true d = omega arith
      by false false true = omega arith
      by false false false = simp length-append (omega arith)

  normal-deep : (l : ℕ) → below (suc l) (norm (forests.node k v c s)) ≡ deeper l k (below l (norm c)) || below (suc l) (norm s)
  unfolding norm depth deeper
  normal-deep l = by (eqb k 0xE001) (eqb k 0xE002) (eqb k 0xE003)
    where
      two : not (leb 2 (suc l)) ≡ eqb l 0
      two = last l
        where
          last : (l : ℕ) → not (leb 2 (suc l)) ≡ eqb l 0
          last zero = refl
          last (suc l) = rw (le-leb 2 (suc (suc l)) (omega arith), ne_eqb (suc l) 0 (λ z. omega arith)) refl

      by : (a b d : Bool)
          → below (suc l) (cond a (integer_term (eisa_id v.text) (norm s)) (cond b (buffer_term (uuid_bytes v.text) (norm s)) (cond d (buffer_term (bytes c ++ end_tag) (norm s)) (forests.node k v (norm c) (norm s)))))
          ≡ cond a false (cond (b || d) (eqb l 0) (below l (norm c))) || below (suc l) (norm s)
      by true b d = rw (below_max 1 (depth (norm s)) (suc l), le-leb 1 (suc l) (omega arith)) refl
      by false true d = rw (below_max 2 (depth (norm s)) (suc l), two) refl
      by false false true = rw (below_max 2 (depth (norm s)) (suc l), two) refl
      by false false false = rw (below_max (suc (depth (norm c))) (depth (norm s)) (suc l), leb-suc-suc) refl

pub walk-forest : (f : Forest) (l : ℕ) (ts : List Term) → depth f ≤ l
    → list (term l) (count f) (flatten f ++ ts) ≡ record { bytes = bytes f; records = length (flatten (norm f)); deep = below l (norm f); rest = ts }
unfolding bytes flatten count depth list term node norm
walk-forest nil l ts h = rw (le-leb 0 l (omega arith)) refl
walk-forest (forests.node k v c s) zero ts h = absurd (omega arith)
walk-forest (forests.node k v c s) (suc l) ts h =
    rw (append_assoc (flatten c) (flatten s) ts, walk-forest c l (flatten s ++ ts) (omega arith), walk-forest s (suc l) ts (omega arith), normal-records k v c s, normal-deep k v c s l) refl

-- ── As many as there are records is enough
list-nil : (l n : ℕ) → list (term l) n [] ≡ nothing []
unfolding list term
list-nil l zero = refl
list-nil zero (suc n) = rw (list-nil zero n)
list-nil (suc l) (suc n) = rw (list-nil (suc l) n)

pub or_assoc : (a b c : Bool) → (a || b) || c ≡ a || (b || c)
or_assoc true b c = refl
or_assoc false b c = refl

pub or_false : (b : Bool) → b || false ≡ b
or_false true = refl
or_false false = refl

list_add : (f : List Term → Part) (m n : ℕ) (ts : List Term)
    → list f (m + n) ts ≡ record {
      bytes = (list f m ts).bytes ++ (list f n (list f m ts).rest).bytes;
      records = (list f m ts).records + (list f n (list f m ts).rest).records;
      deep = (list f m ts).deep || (list f n (list f m ts).rest).deep;
      rest = (list f n (list f m ts).rest).rest;
    }
unfolding list
list_add f zero n ts = rw (zero-add n, zero-add (list f n ts).records) refl
list_add f (suc m) n ts =
    let p = list f m (f ts).rest in
    let e : (f ts).records + p.records + (list f n p.rest).records ≡ (f ts).records + (p.records + (list f n p.rest).records) = omega arith in
    rw (suc-add m n, list_add f m n (f ts).rest, append_assoc, e, or_assoc (f ts).deep p.deep (list f n p.rest).deep) refl

pub walk_all : (f : Forest) (l : ℕ) → depth f ≤ l
    → list (term l) (length (flatten f)) (flatten f) ≡ record { bytes = bytes f; records = length (flatten (norm f)); deep = below l (norm f); rest = [] }
walk_all f l h =
    let w = rw append-nil at (walk-forest f l [] h) in
    let e : length (flatten f) ≡ count f + (length (flatten f) - count f) = omega (arith, count_most f) in
    rw (e, list_add (term l) (count f) _ (flatten f), w, list-nil, append-nil, or_false) (let z : length (flatten (norm f)) + 0 ≡ length (flatten (norm f)) = omega arith in rw z refl)

-- A forest that may stand has numbers that fit their fields, so few conditions are left for a file of it to be writable.
-- Assumes nothing.
use Rattle.std.specs.Prelude.{◌≡◌, refl, Bool, ◌&&◌, List, [], ◌∷◌, ◌++◌, ℕ, suc, ◌+◌, ◌-◌, ◌≤◌, ◌<◌, T, leb, length}
use Rattle.std.proofs.Math.Option.{Option, none, some}
use Rattle.std.proofs.Common.{arith, leb→le, length-append}
use Rattle.octets.specs.Tests.{and_left, and_right}
use Rattle.grammar.specs.declared.Place.{Place}
use Rattle.grammar.specs.declared.Row.{Row}
use Rattle.grammar.specs.Kinds.{normal_kinds, other_kinds, kinds, row_of, row_in, child_place}
use Rattle.grammar.specs.KindLaws.{every_row, row-kind, rule}
use Rattle.grammar.specs.Forest.{Fields, Forest, nil, node, count, flatten}
use Rattle.grammar.specs.ForestLaws.{count_most}
use Rattle.fields.specs.Fields.{numbers_fit, in_range}
use Rattle.tree.specs.Fits.{Args, fine, known, term_fits, Fits}
use Rattle.arity.specs.Arity.{Arity}
use Rattle.normal.specs.File.{term_texts, arity_texts}
use Rattle.normal.specs.Writable.{Every, TermSizes, AritySizes, Writable}

pub every_append : {A : Type 0} (P : A → Type 0) (l r : List A) → Every P l → Every P r → Every P (l ++ r)
unfolding Every
every_append P [] r h k = k
every_append P (a ∷ l) r h k = (h.0, every_append P l r h.1 k)

-- a rule of the table: kind and limits fit their fields
unfoldable sized : Row → Bool
sized r = leb r.kind 65535 && leb r.alimit 65535 && leb r.xlimit 18446744073709551615

sized_all : T (every_row sized kinds)
unfolding every_row kinds normal_kinds other_kinds sized
sized_all = tt

term-sizes : (args : Args) (p : Place) (l k : ℕ) (v : Fields) (n : ℕ) → n < 4294967296 → T (term_fits args p l k v n) → TermSizes (record { kind = k; fields = v; kids = n })
unfolding term_fits known fine in_range numbers_fit sized
term-sizes args p l k v n h t = by (row_of k) refl t
  where
    by : (o : Option Row) → row_of k ≡ o → T (known args o p l v n) → TermSizes (record { kind = k; fields = v; kids = n })
    by none e t = absurd t
    by (some r) e t =
        let s = rule sized sized_all k e in
        let s₁ : r.kind ≤ 65535 = leb→le r.kind 65535 (search (and_left, and_right) depth 10) in
        let s₂ : r.alimit ≤ 65535 = leb→le r.alimit 65535 (search (and_left, and_right) depth 10) in
        let s₃ : r.xlimit ≤ 18446744073709551615 = leb→le r.xlimit 18446744073709551615 (search (and_left, and_right) depth 10) in
        let a : v.a ≤ r.alimit = leb→le v.a r.alimit (search (and_left, and_right) depth 10) in
        let x : v.x ≤ r.xlimit = leb→le v.x r.xlimit (search (and_left, and_right) depth 10) in
        record { kind = omega (arith, row-kind k e); a = omega arith; kids = h; x = omega arith }

pub fits-sizes : (args : Args) (place : ℕ → Place) (l j : ℕ) (f : Forest) → length (flatten f) < 4294967296 → Fits args place l j f → Every TermSizes (flatten f)
unfolding Every Fits flatten
fits-sizes args place l j nil m h = tt
fits-sizes args place l j (node k v c s) m h =
    let e = length-append (flatten c) (flatten s) in (
      term-sizes args _ _ k v (count c) (omega (arith, count_most c)) h.0,
      every_append TermSizes (flatten c) (flatten s) (fits-sizes args (child_place (row_in (row_of k))) (l - 1) 0 c (omega arith) h.1) (fits-sizes args place l (suc j) s (omega arith) h.2),
    )

-- and so a file of a forest that may stand is writable if identity, counts, arities and pool are
pub fits-writable : (id : List ℕ) (ars : List Arity) (args : Args) (place : ℕ → Place) (l j : ℕ) (f : Forest) → length id ≡ 31 → length ars ≤ 4096 → length (flatten f) ≤ 65536
    → Every AritySizes ars → Fits args place l j f → length (arity_texts ars) + length (term_texts (flatten f)) < 4294967296 → Writable id ars f
fits-writable id ars args place l j f i la lt a h p =
    record { identity-length = i; few-arities = la; few-terms = lt; each_arity = a; each-term = fits-sizes args place l j f (omega arith) h; pool = p }

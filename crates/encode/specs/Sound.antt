-- What the measuring and writing functions ask of a file's records: each is of a known kind and its fields can be written. An accepted
-- file has it. Assumes nothing.
use Rattle.std.specs.Prelude.{◌≡◌, Bool, true, false, List, [], ◌∷◌, ℕ, ◌/◌, ◌<◌, ◌≤◌, leb, length}
use Rattle.std.proofs.Math.Path.{refl}
use Rattle.std.proofs.Common.{sym, ◌∙◌, ap, subst, arith, length-take, length-drop, leb-true, leb-false}
use Rattle.std.proofs.Math.Option.{some, none-ne-some, some-injective}
use Rattle.octets.specs.Filling.{Parts, Writing, writing_start}
use Rattle.grammar.specs.declared.Row.{Row}
use Rattle.grammar.specs.Kinds.{kinds, row_of, row_in}
use Rattle.grammar.specs.Packed.{position, row_at}
use Rattle.grammar.specs.KindLaws.{row-known, row_unknown}
use Rattle.written.specs.Fine.{Fine, fields_of}
use Rattle.term.specs.declared.Record.{Record}
use Rattle.term.specs.Record.{record_at, text_at}
use Rattle.checker.specs.Refusal.{text_of}
use Rattle.checker.specs.Described.{term_of}
use Rattle.tree.specs.Bytes.{behind, term_bytes}
use Rattle.encode.specs.Most.{row-slim}
use Rattle.encode.specs.Terms.{Told, body_of, takes_of, head_of, Able, takes-length, head-parts}
use Rattle.encode.specs.Walk.{term}
use Rattle.encode.specs.WalkLaws.{terms_from, kids_of, Small, Room, node-room}

-- its kind stands in the table, and its fields can be written
pub record FineRecord (pool : List ℕ) (r : Record) : Type 0 where
  pub known : position r.kind kinds < 67
  pub fine : Fine (row_at (position r.kind kinds)) (fields_of (text_at pool r.start r.len) r.a r.x)

pub record Sound (records pool : List ℕ) : Type 0 where
  pub small : Small records pool
  pub each : (i : ℕ) → i < length records / 24 → FineRecord pool (record_at records i)

-- a kind with a row stands in the table
listed : (k : ℕ) {row : Row} → row_of k ≡ some row → position k kinds < 67
listed k e = by (leb 67 (position k kinds)) refl
  where
    by : (b : Bool) → leb 67 (position k kinds) ≡ b → position k kinds < 67
    by true z = absurd (none-ne-some _ (sym (row_unknown k (position k kinds) refl (leb-true 67 (position k kinds) z)) ∙ e))
    by false z = leb-false 67 (position k kinds) z

pub record_fine : (pool : List ℕ) (r : Record) {row : Row} → row_of r.kind ≡ some row → Fine row (fields_of (text_at pool r.start r.len) r.a r.x) → FineRecord pool r
record_fine pool r e f =
    let q = some-injective _ _ (sym e ∙ row-known r.kind (position r.kind kinds) refl (listed r.kind e) refl) in
    record { known = listed r.kind e; fine = subst (λ w. Fine w (fields_of (text_at pool r.start r.len) r.a r.x)) q f }

pub row_known : {pool : List ℕ} {r : Record} → FineRecord pool r → row_of r.kind ≡ some (row_at (position r.kind kinds))
row_known {r = r} f = row-known r.kind (position r.kind kinds) refl f.known refl

-- record i has levels for itself and what is below it, and n children
pub record Parent (records : List ℕ) (levels i n : ℕ) : Type 0 where
  pub level : levels ≡ 0 → ⊥
  pub most : levels ≤ 64
  pub here : i < length records / 24
  pub kids : n ≡ (record_at records i).kids

pub parent_made : {records : List ℕ} {levels i : ℕ} {r : Record} → (levels ≡ 0 → ⊥) → levels ≤ 64 → i < length records / 24 → r ≡ record_at records i → Parent records levels i r.kids
parent_made l m h e = record { level = l; most = m; here = h; kids = ap (λ (r : Record). r.kids) e }

-- record i, which is r, with the place of its kind in the table
module _ {records pool : List ℕ} (s : Sound records pool) {i : ℕ} (h : i < length records / 24) {r : Record} (x : r ≡ record_at records i) {j : ℕ} (p : j ≡ position r.kind kinds) where
  fine-record : FineRecord pool r
  fine-record = subst (FineRecord pool) (sym x) (s.each i h)

  in_table : j < 67
  in_table = rw p fine-record.known

  row_here : row_of r.kind ≡ some (row_at j)
  row_here = row-known r.kind j p in_table refl

  -- and with its text t
  module _ {t : List ℕ} (et : t ≡ text_at pool r.start r.len) where
    -- it can be measured and written
    pub able-here : Able (row_at j) (fields_of t r.a r.x)
    unfolding text_at
    able-here = record {
      slender = row-slim r.kind row_here;
      fine = rw (p, et) fine-record.fine;
      short = rw et (simp (length-take, length-drop) (omega (arith, s.small.short)));
    }

    -- and is the term of the walk
    abbrev bytes_here : List ℕ → List ℕ
    bytes_here bs = term_bytes (row_in (row_of r.kind)) (term_of pool r).fields r.kids bs

    is-here : (bs : List ℕ) → term_bytes (row_at j) (fields_of t r.a r.x) r.kids bs ≡ bytes_here bs
    unfolding row_in term_of text_of
    is-here bs = rw (et, row_here) refl

    pub takes-here : (bs : List ℕ) {m n : ℕ} → m ≡ length bs → n ≡ takes_of (row_at j) (fields_of t r.a r.x) r.kids m → n ≡ length (bytes_here bs)
    takes-here bs k g = g ∙ takes-length (row_at j) (fields_of t r.a r.x) r.kids bs k ∙ ap length (is-here bs)

    module _ (bs : List ℕ) {m : ℕ} (k : Told (row_at j) bs m) where
      parts-here : Parts (bytes_here bs) (head_of (row_at j) (fields_of t r.a r.x) r.kids m ∷ bs ∷ behind (row_at j) (fields_of t r.a r.x) ∷ [])
      parts-here =
          subst (λ w. Parts w (head_of (row_at j) (fields_of t r.a r.x) r.kids m ∷ bs ∷ behind (row_at j) (fields_of t r.a r.x) ∷ [])) (is-here bs)
          (subst (λ w. Parts (term_bytes (row_at j) (fields_of t r.a r.x) r.kids bs) (w ∷ bs ∷ behind (row_at j) (fields_of t r.a r.x) ∷ [])) (sym (k.same (fields_of t r.a r.x) r.kids))
          (head-parts (row_at j) (fields_of t r.a r.x) r.kids bs refl))

      -- its body, and its children, are no longer than it is
      whole_here : body_of (row_at j) (fields_of t r.a r.x) r.kids (length bs) ≤ length (bytes_here bs)
      unfolding takes_of
      whole_here = omega (arith, takes-here bs refl refl)

      body-here : body_of (row_at j) (fields_of t r.a r.x) r.kids m ≤ length (bytes_here bs)
      body-here = omega (arith, k.least (fields_of t r.a r.x) r.kids, whole_here)

      kids-here : length bs ≤ length (bytes_here bs)
      unfolding body_of
      kids-here = omega (arith, whole_here)

    -- ── Its writing, into a part with room for it
    module _ {levels : ℕ} (l : levels ≡ 0 → ⊥) {m : ℕ} (k : Told (row_at j) (kids_of records pool levels i r).bytes m) {out : List ℕ} (room : Room (term levels (terms_from records pool i)) out) where
      fits-here : (length (bytes_here (kids_of records pool levels i r).bytes) ≤ length out) × (length (bytes_here (kids_of records pool levels i r).bytes) ≤ 268435419)
      fits-here = node-room records pool levels i l h x room

      pub start-here : Writing (bytes_here (kids_of records pool levels i r).bytes) (head_of (row_at j) (fields_of t r.a r.x) r.kids m ∷ (kids_of records pool levels i r).bytes ∷ behind (row_at j) (fields_of t r.a r.x) ∷ []) 0 out out
      start-here = writing_start out (parts-here (kids_of records pool levels i r).bytes k) fits-here.0

      pub body-few-here : body_of (row_at j) (fields_of t r.a r.x) r.kids m ≤ 268435455
      body-few-here = omega (arith, body-here (kids_of records pool levels i r).bytes k, fits-here.1)

      pub kids-few-here : length (kids_of records pool levels i r).bytes ≤ 268435419
      kids-few-here = omega (arith, kids-here (kids_of records pool levels i r).bytes k, fits-here.1)

-- How a walk over a term is made of walks over its parts: the children by their number, the body by its fields and children, the term by
-- its body.
-- Assumes nothing.
use Rattle.std.specs.Prelude.{◌≡◌, Bool, ◌||◌, cond, ℕ, suc, ◌+◌, ◌*◌, ◌≤◌, T, take, Option as Answer, Some, None}
use Rattle.std.proofs.Math.Path.{refl, sym, ap}
use Rattle.std.proofs.Common.{◌∙◌, arith, drop-drop, length-take-le, eqb-true}
use Rattle.std.proofs.Math.Bool.{true, false, not}
use Rattle.std.proofs.Math.Option.{Option, none, some}
use mathlib.Core.List.{List, ◌++◌, append_assoc, append-nil}
use Rattle.std.proofs.Math.Dec.{eqb}
use Rattle.std.proofs.Math.ListN.{length, drop, length-append, length-drop}
use Rattle.std.proofs.Math.Seq.{take-length}
use Rattle.octets.specs.Bytes.{Reader, ◌>>=◌, need}
use Rattle.grammar.specs.declared.Place.{Place}
use Rattle.grammar.specs.declared.Rest.{Rest}
use Rattle.grammar.specs.declared.Rest.TheVariants.{Nothing, Arity, Listed, Counted, Measured}
use Rattle.grammar.specs.declared.Row.{Row}
use Rattle.grammar.specs.Kinds.{child_place, counts, args_at, normal_kinds, find, row_of, row_in}
use Rattle.grammar.specs.Forest.{Fields, Forest, count, Term, flatten}
use Rattle.fields.specs.Fields.{in_range, spelled}
use Rattle.fields.specs.Written.{text_bytes, form_bytes, field_bytes}
use Rattle.fields.specs.Get.{get_fields}
use Rattle.fields.specs.WrittenLaws.{fields_exact, normal-readable}
use Rattle.tree.specs.Fits.{Args}
use Rattle.tree.specs.Read.{Body, Tree, get_many, get_kids, get_body, unbox, read}
use Rattle.tree.proofs.TableLaws.{normal-row, found-normal}
use Rattle.start.specs.Start.{Begins}
use Rattle.start.specs.StartLaws.{read_here}
use Rattle.start.specs.Box.{Opened}
use Rattle.normal.specs.File.{record_bytes, term_texts}
use Rattle.normal.specs.FewLaws.{text-most}
use Rattle.walk.specs.declared.Walk.{Walk}
use Rattle.walk.specs.Spots.{Sits, Left, left-node, left_wider, spliced}
use Rattle.walk.specs.Loop.{same_end}
use Rattle.walk.specs.Walk.{tree, body_of, forest, Walks, Spans, several, is_listed, get_number}

-- ── Children: by their number
pub listed-is : {t : Rest} {x : Bool} → t ≡ Listed → x ≡ true → x ≡ is_listed t
unfolding is_listed
listed-is e f = rw e f

pub listed-not : (t : Rest) {x : Bool} → (t ≡ Listed → ⊥) → x ≡ false → x ≡ is_listed t
unfolding is_listed
listed-not Nothing n f = f
listed-not Arity n f = f
listed-not Listed n f = absurd (n refl)
listed-not Counted n f = f
listed-not Measured n f = f

many_is : (g : Place → Reader Tree) (r : Row) (args : ℕ) (t : Rest) (bs : List ℕ)
    → get_many g r args t bs ≡ (get_number t r.operands args bs >>= λ n. several (is_listed t) g (child_place r) n.0 0 n.1)
unfolding get_many get_number several is_listed ◌>>=◌
many_is g r args Nothing bs = refl
many_is g r args Arity bs = refl
many_is g r args Listed bs = refl
many_is g r args Counted bs = refl
many_is g r args Measured bs = refl

module _ (g : Place → Reader Tree) (r : Row) (args : ℕ) (b : List ℕ) (at : ℕ) where
  -- no number
  pub kids-none : {i : ℕ} {first : List ℕ} → get_number r.rest r.operands args (drop at b) ≡ none → Walks forest (get_kids g r args (drop at b)) b at i first first None
  unfolding get_kids ◌>>=◌
  kids-none e = record { tells = rw (many_is g r args r.rest (drop at b), e) refl; same = refl }

  -- the children, if they are read and as many as the kind asks for
  module _ {n start : ℕ} (e : get_number r.rest r.operands args (drop at b) ≡ some (n, drop start b)) (l : at ≤ start) where
    abbrev Many : (i : ℕ) (first out : List ℕ) → Answer Walk → Type 0
    Many i first out o = Walks forest (several (is_listed r.rest) g (child_place r) n 0 (drop start b)) b start i first out o

    abbrev Kids : (i : ℕ) (first out : List ℕ) → Answer Walk → Type 0
    Kids i first out o = Walks forest (get_kids g r args (drop at b)) b at i first out o

    many : get_many g r args r.rest (drop at b) ≡ several (is_listed r.rest) g (child_place r) n 0 (drop start b)
    unfolding ◌>>=◌
    many = many_is g r args r.rest (drop at b) ∙ rw e refl

    pub kids-unread : {i : ℕ} {first out : List ℕ} → Many i first out None → Kids i first out None
    unfolding get_kids ◌>>=◌
    kids-unread k = record { tells = rw (many, k.tells) refl; same = k.same }

    module _ {i : ℕ} {first out : List ℕ} {w : Walk} (k : Many i first out (Some w)) {c : Bool} (q : c ≡ counts r.rest r.operands args w.kids) where
      counted : counts r.rest r.operands args (count k.tells.value) ≡ c
      counted = ap (counts r.rest r.operands args) (sym k.tells.kids) ∙ sym q

      pub kids_some : c ≡ true → Kids i first out (Some w)
      unfolding get_kids ◌>>=◌ need
      kids_some y =
          let f = k.tells in
          record {
            tells = record { value = f.value; is = rw (many, f.is, counted, y) refl; records = f.records; texts = f.texts; kids = f.kids; low = omega (arith, f.low); high = f.high; left = f.left };
            same = k.same;
          }

      pub kids_miscounted : c ≡ false → Kids i first out None
      unfolding get_kids ◌>>=◌ need
      kids_miscounted y = record { tells = rw (many, k.tells.is, counted, y) refl; same = k.same }

  pub kids_spans : {start : ℕ} {w : Walk} → at ≤ start → Spans start w → Spans at w
  kids_spans l s = record { few = omega (arith, s.few); short = omega (arith, s.short) }

-- ── A body: fields, and children
-- where the text of what was read stands
module _ {r : Row} (found : find r.kind normal_kinds ≡ some r) where
  fields-are : (b : List ℕ) (at next : ℕ) (v : Fields) → get_fields r (drop at b) ≡ some (v, drop next b)
      → (T (in_range r v.text v.a v.x) × T (spelled r v.text)) × (drop at b ≡ field_bytes r v ++ drop next b)
  fields-are b at next v e = (fields_exact r (normal-readable r.kind found)).only (drop at b) v (drop next b) e

  pub fields-sit : (b : List ℕ) (at next n : ℕ) (v : Fields) → at ≤ length b → get_fields r (drop at b) ≡ some (v, drop next b)
      → Sits b (record { term = record { kind = r.kind; fields = v; kids = n }; place = at })
  unfolding field_bytes row_in
  fields-sit b at next n v l e =
      let (g, q) = fields-are b at next v e in
      let w : row_in (row_of r.kind) ≡ r = rw (normal-row r.kind found) refl in
      record {
        normal = found-normal r.kind found;
        ranged = rw (normal-row r.kind found) g.0;
        spelled = rw (normal-row r.kind found) g.1;
        there = record { rest = form_bytes r.numbers v.a v.x ++ drop next b; is = rw (normal-row r.kind found) (q ∙ append_assoc (text_bytes r.text r.kind v) _ _); within = l };
      }

  pub fields-short : (b : List ℕ) (at next : ℕ) (v : Fields) → get_fields r (drop at b) ≡ some (v, drop next b) → length v.text ≤ 2 * length b
  unfolding field_bytes
  fields-short b at next v e =
      let (g, q) = fields-are b at next v e in
      let m = text-most r v g.0 g.1 (normal-readable r.kind found) in
      let n : length (drop at b) ≡ length (text_bytes r.text r.kind v) + length (form_bytes r.numbers v.a v.x) + length (drop next b) = ap length q ∙ simp length-append (omega arith) in
      omega (arith, length-drop at b)

-- the record of a term is put before those of its children
pub record Placed (t : Term) (p i : ℕ) (first out : List ℕ) : Type 0 where
  pub same : length out ≡ length first
  pub put : 24 * (i + 1) ≤ length first → out ≡ spliced (24 * i) (record_bytes t p) first

-- and what is told of it
unfoldable pub above : Walk → ℕ → ℕ → Walk
above w len next = record { records = w.records + 1; texts = w.texts + len; kids = 1; next = next }

body-placed : (r : Row) {m : Option (Body × List ℕ)} {b : List ℕ} {at i next p : ℕ} {first mid out : List ℕ} {v : Fields} {c : Forest} (w : Walk)
    → m ≡ some (record { fields = v; kids = c }, drop next b) → at ≤ next → next ≤ length b
    → w.records ≡ length (flatten c) → w.texts ≡ length (term_texts (flatten c)) → Left (flatten c) b (i + 1) first mid → length mid ≡ length first
    → Sits b (record { term = record { kind = r.kind; fields = v; kids = count c }; place = p })
    → Placed (record { kind = r.kind; fields = v; kids = count c }) p i mid out
    → Walks (body_of r) m b at i first out (Some (above w (length v.text) next))
unfolding flatten term_texts count above
body-placed r {b = b} {i = i} {v = v} {c = c} w e l h n t k s q d =
    record {
      tells = record {
        value = record { fields = v; kids = c };
        is = e;
        records = rw (append-nil (flatten c)) (omega (arith, n));
        texts = rw (append-nil (flatten c)) (omega (arith, t, length-append v.text (term_texts (flatten c))));
        kids = refl;
        low = l;
        high = h;
        left = rw (append-nil (flatten c)) (left-node _ k s q d.put);
      };
      same = d.same ∙ s;
    }

module _ (args : Args) (g : Place → Reader Tree) (p : Place) (r : Row) (b : List ℕ) (at i : ℕ) (first : List ℕ) where
  -- no fields, or no children: no body
  pub first-none : get_fields r (drop at b) ≡ none → Walks (body_of r) (get_body args g p r false (drop at b)) b at i first first None
  unfolding get_body ◌>>=◌
  first-none e = record { tells = rw e refl; same = refl }

  pub first-bad : {next : ℕ} {v : Fields} {out : List ℕ} → get_fields r (drop at b) ≡ some (v, drop next b)
      → Walks forest (get_kids g r (args_at p (args v.text)) (drop next b)) b next (i + 1) first out None
      → Walks (body_of r) (get_body args g p r false (drop at b)) b at i first out None
  unfolding get_body ◌>>=◌
  first-bad e k = record { tells = rw (e, k.tells) refl; same = k.same }

  pub last-bad : {out : List ℕ} → Walks forest (get_kids g r 0 (drop at b)) b at (i + 1) first out None → Walks (body_of r) (get_body args g p r true (drop at b)) b at i first out None
  unfolding get_body ◌>>=◌
  last-bad k = record { tells = rw k.tells refl; same = k.same }

  pub last_none : {out : List ℕ} {w : Walk} → Walks forest (get_kids g r 0 (drop at b)) b at (i + 1) first out (Some w) → get_fields r (drop w.next b) ≡ none
      → Walks (body_of r) (get_body args g p r true (drop at b)) b at i first out None
  unfolding get_body ◌>>=◌
  last_none k e = record { tells = rw (k.tells.is, e) refl; same = k.same }

  module _ (found : find r.kind normal_kinds ≡ some r) (l : at ≤ length b) where
    pub first_some : {next : ℕ} {v : Fields} {mid out : List ℕ} {w : Walk} → get_fields r (drop at b) ≡ some (v, drop next b) → at ≤ next
        → Walks forest (get_kids g r (args_at p (args v.text)) (drop next b)) b next (i + 1) first mid (Some w)
        → Placed (record { kind = r.kind; fields = v; kids = w.kids }) at i mid out
        → Walks (body_of r) (get_body args g p r false (drop at b)) b at i first out (Some (above w (length v.text) w.next))
    unfolding get_body ◌>>=◌
    first_some {next} {v} {mid} {out} {w} e u k d =
        let f = k.tells in
        body-placed r w (rw (e, f.is) refl) (omega (arith, f.low)) f.high f.records f.texts f.left k.same
        (fields-sit found b at next (count f.value) v l e) (rw (← f.kids) d)

    pub last_some : {next : ℕ} {v : Fields} {mid out : List ℕ} {w : Walk} → Walks forest (get_kids g r 0 (drop at b)) b at (i + 1) first mid (Some w)
        → get_fields r (drop w.next b) ≡ some (v, drop next b) → w.next ≤ next → next ≤ length b
        → Placed (record { kind = r.kind; fields = v; kids = w.kids }) w.next i mid out
        → Walks (body_of r) (get_body args g p r true (drop at b)) b at i first out (Some (above w (length v.text) next))
    unfolding get_body ◌>>=◌
    last_some {next} {v} {mid} {out} {w} k e u h d =
        let f = k.tells in
        body-placed r w (rw (f.is, e) refl) (omega (arith, f.low)) h f.records f.texts f.left k.same
        (fields-sit found b w.next next (count f.value) v f.high e) (rw (← f.kids) d)

-- ── A term: its body, which fills its box
-- exactly if nothing is left in it
fills : (x : Bool) (b : List ℕ) (end next : ℕ) → end ≤ length b → next ≤ end → not x || eqb (length (drop next (take end b))) 0 ≡ (not x || eqb next end)
fills x b end next h n =
    let q : length (take end b) ≡ end = length-take-le end b h in
    ap (λ c. not x || c) (same_end (take end b) next (omega arith) ∙ ap (eqb next) q)

-- and what follows begins where it ends
rest-is : (x : Bool) (b : List ℕ) (end next : ℕ) → (x ≡ false → end ≡ length b) → not x || eqb next end ≡ true → cond x (drop end b) (drop next (take end b)) ≡ drop next b
rest-is true b end next e y = ap (λ m. drop m b) (sym (eqb-true next end y))
rest-is false b end next e y = ap (drop next) (rw (e refl) (take-length b))

module _ (args : Args) (l : ℕ) (p : Place) {r : Row} (b : List ℕ) (at : ℕ) (h : Begins p (drop at b) r) where
  pub term_unopened : ((get : Reader Body) → unbox r.boxed get (drop (at + r.ops) b) ≡ none) → {i : ℕ} {first : List ℕ}
      → Walks tree (read args (suc l) p (drop at b)) b at i first first None
  unfolding ◌>>=◌
  term_unopened n =
      record { tells = read_here args l h ∙ rw (drop-drop r.ops at b, n (get_body args (read args l) p r r.last)) refl; same = refl }

  module _ {end start : ℕ} (o : Opened r.boxed b (at + r.ops) end start) where
    abbrev Within : (i : ℕ) (first out : List ℕ) → Answer Walk → Type 0
    Within i first out = Walks (body_of r) (get_body args (read args l) p r r.last (drop start (take end b))) (take end b) start i first out

    abbrev Whole : (i : ℕ) (first out : List ℕ) → Answer Walk → Type 0
    Whole i first out = Walks tree (read args (suc l) p (drop at b)) b at i first out

    term_is : {m : Option (Body × List ℕ)} → get_body args (read args l) p r r.last (drop start (take end b)) ≡ m → read args (suc l) p (drop at b)
        ≡ (◌>>=◌ {A = Body × List ℕ} (m >>= λ v. need (not r.boxed || eqb (length v.1) 0) (some (v.0, cond r.boxed (drop end b) v.1))) (λ v. some (record { kind = r.kind; body = v.0 }, v.1)))
    term_is e = read_here args l h ∙ rw (drop-drop r.ops at b, o.is (get_body args (read args l) p r r.last), e) refl

    pub term-unread : {i : ℕ} {first out : List ℕ} → Within i first out None → Whole i first out None
    unfolding ◌>>=◌
    term-unread k = record { tells = term_is k.tells; same = k.same }

    module _ {i : ℕ} {first out : List ℕ} {w : Walk} (k : Within i first out (Some w)) where
      inside : w.next ≤ end
      inside = omega (arith, k.tells.high, length-take-le end b o.high)

      filled : not r.boxed || eqb (length (drop w.next (take end b))) 0 ≡ (not r.boxed || eqb w.next end)
      filled = fills r.boxed b end w.next o.high inside

      pub term-opened : (not r.boxed || eqb w.next end) ≡ true → Whole i first out (Some w)
      unfolding ◌>>=◌ need
      term-opened z =
          let f = k.tells in
          record {
            tells = record {
              value = record { kind = r.kind; body = f.value };
              is = term_is f.is ∙ rw (filled ∙ z, rest-is r.boxed b end w.next o.whole z) refl;
              records = f.records;
              texts = f.texts;
              kids = f.kids;
              low = omega (arith, f.low, o.low);
              high = omega (arith, inside, o.high);
              left = left_wider b end o.high f.left;
            };
            same = k.same;
          }

      pub term-unfilled : (not r.boxed || eqb w.next end) ≡ false → Whole i first out None
      unfolding ◌>>=◌ need
      term-unfilled z = record { tells = term_is k.tells.is ∙ rw (filled ∙ z) refl; same = k.same }

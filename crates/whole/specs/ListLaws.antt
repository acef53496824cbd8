-- What an arity list that is not refused is: at most 4,096 paths in ascending order, each with 1 to 7 arguments; and how long its texts are.
-- Assumes nothing.
use Rattle.std.specs.Prelude.{◌≡◌, refl, Bool, true, false, not, cond, List, [], ◌∷◌, map, ℕ, zero, suc, ◌+◌, ◌-◌, ◌*◌, ◌/◌, ◌≤◌, T, leb, length, drop}
use Rattle.std.proofs.Common.{ap, arith, leb→le, eqb→eq, length-append, length-take}
use Rattle.octets.specs.Tests.{and_left, and_right, test_true, true_test}
use Rattle.path.specs.Path.{is_path}
use Rattle.path.specs.PathLaws.{path-text-length}
use Rattle.term.specs.File.{laid_out, few, touching, Layout, refused_by, layout_of, record_count, arity_count, arity_offset, pool_offset}
use Rattle.arity.specs.declared.Entry.{Entry}
use Rattle.arity.specs.Arity.{Arity, entries_of, entries_from, arity_in, arities_of, entry_fits, entries_fit, ascend, arities_fit}
use Rattle.arity.specs.ArityLaws.{ascending}
use Rattle.checker.specs.Refusal.{arity_section, pool_section}
use Rattle.normal.specs.File.{arity_texts}
use Rattle.normal.specs.Writable.{Every, Callable, AritySizes}

-- a list that a file may have
pub record Listed (l : List Arity) : Type 0 where
  pub few : length l ≤ 4096
  pub each : Every Callable l
  pub up : ascend l ≡ true

-- ── A path's text has at most 1,275 bytes
pub path-short : (t : List ℕ) → T (is_path t) → length t ≤ 1275
path-short t h = let m = path-text-length t h in omega (arith, m.text, m.root, m.most)

pub sizes : (l : List Arity) → Every Callable l → Every AritySizes l
unfolding Every
sizes [] h = tt
sizes (a ∷ l) h = (record { text = omega (arith, path-short a.text h.0.path); args = omega (arith, h.0.high) }, sizes l h.1)

pub texts-short : (l : List Arity) → Every Callable l → length (arity_texts l) ≤ 1275 * length l
unfolding Every arity_texts
texts-short [] h = omega arith
texts-short (a ∷ l) h = omega (arith, length-append a.text (arity_texts l), path-short a.text h.0.path, texts-short l h.1)

-- ── What refusal 3 tests
entry_callable : (pool : List ℕ) (e : Entry) → T (entry_fits pool e) → Callable (arity_in pool e)
unfolding entry_fits arity_in
entry_callable pool e h = record {
  path = search (and_left, and_right) depth 10;
  low = leb→le 1 e.args (search (and_left, and_right) depth 10);
  high = leb→le e.args 7 (search (and_left, and_right) depth 10);
}

entries_callable : (pool : List ℕ) (es : List Entry) → T (entries_fit pool es) → Every Callable (map (arity_in pool) es)
unfolding Every entries_fit
entries_callable pool [] h = tt
entries_callable pool (e ∷ es) h =
    (entry_callable pool e (and_left (entry_fits pool e) (entries_fit pool es) h), entries_callable pool es (and_right (entry_fits pool e) (entries_fit pool es) h))

pub arities_callable : (b pool : List ℕ) → arities_fit b pool ≡ true → Every Callable (arities_of b pool)
unfolding arities_fit arities_of
arities_callable b pool h =
    entries_callable pool (entries_from b 0) (and_left (entries_fit pool (entries_from b 0)) (ascend (arities_of b pool)) (true_test _ h))

entries_count : (b pool : List ℕ) (j n : ℕ) → length (map (arity_in pool) (entries_of b j n)) ≡ n
unfolding entries_of
entries_count b pool j zero = refl
entries_count b pool j (suc n) = ap suc (entries_count b pool (suc j) n)

pub arities-count : (b pool : List ℕ) → length (arities_of b pool) ≡ length b / 8
unfolding arities_of entries_from
arities-count b pool = omega (arith, entries_count b pool 0 (length b / 8 - 0))

-- ── What refusals 1 and 2 test
abbrev Room : List ℕ → Layout → Type 0
Room f l = (60 ≤ length f) × (l.pool - l.arities ≤ 32768)

laid-room : (f : List ℕ) → T (laid_out f) → T (few f) → Room f (record { number = 0; arities = arity_offset f; pool = pool_offset f })
unfolding laid_out touching few
laid-room f t u =
    let l : 60 ≤ length f = leb→le 60 (length f) (search (and_left, and_right) depth 10) in
    let g : pool_offset f ≡ arity_offset f + 8 * arity_count f = eqb→eq (pool_offset f) (arity_offset f + 8 * arity_count f) (search (and_left, and_right) depth 10) in
    let m : arity_count f ≤ 4096 = leb→le (arity_count f) 4096 (and_right (leb (record_count f) 65536) _ u) in
    (l, omega (arith, g, m))

pub layout-room : (f : List ℕ) → (layout_of f).number ≡ 0 → (60 ≤ length f) × ((layout_of f).pool - (layout_of f).arities ≤ 32768)
unfolding layout_of
layout-room f z = by (laid_out f) (few f) (record { number = 0; arities = arity_offset f; pool = pool_offset f }) (laid-room f) z
  where
    by : (a b : Bool) (l : Layout) → (T a → T b → Room f l) → (cond (not a) (refused_by 1) (cond (not b) (refused_by 2) l)).number ≡ 0 → Room f (cond (not a) (refused_by 1) (cond (not b) (refused_by 2) l))
    by true true l h z = h tt tt
    by true false l h z = absurd (omega arith)
    by false b l h z = absurd (omega arith)

pub listed : (f : List ℕ) → (layout_of f).number ≡ 0 → arities_fit (arity_section f) (pool_section f) ≡ true → Listed (arities_of (arity_section f) (pool_section f))
listed f z h = record {
  few = omega (arith, arities-count (arity_section f) (pool_section f), length-take ((layout_of f).pool - (layout_of f).arities) (drop (layout_of f).arities f), (layout-room f z).1);
  each = arities_callable (arity_section f) (pool_section f) h;
  up = test_true _ (ascending (arity_section f) (pool_section f) h);
}

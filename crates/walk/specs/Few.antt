-- A walk over terms that can be read has a byte of the table for each record at least, and at most two bytes of text for each byte.
-- Assumes nothing.
use Rattle.std.specs.Prelude.{◌≡◌, List, ℕ, ◌+◌, ◌≤◌, drop, IfSome, Option as Answer, Some, None}
use Rattle.std.proofs.Math.Path.{ap}
use Rattle.std.proofs.Math.Option.{some}
use Rattle.std.proofs.Common.{arith}
use Rattle.std.proofs.Math.ListN.{length, length-append, length-drop}
use Rattle.grammar.specs.declared.Place.{Place}
use Rattle.grammar.specs.Forest.{nil}
use Rattle.tree.specs.Fits.{Args}
use Rattle.tree.specs.Bytes.{bytes}
use Rattle.tree.specs.Read.{read, onto, Tree}
use Rattle.tree.specs.Good.{tree_bytes, Good}
use Rattle.tree.proofs.ExactLaws.{tree-forest, read_exact}
use Rattle.normal.specs.FewLaws.{Few, few-forest}
use Rattle.walk.specs.declared.Walk.{Walk}
use Rattle.walk.specs.Walk.{tree, Walks, Spans}

-- a term that is read from `at` to `next`
module _ (args : Args) (l : ℕ) (p : Place) (b : List ℕ) (at next : ℕ) (t : Tree) (h : read args l p (drop at b) ≡ some (t, drop next b)) (i : at ≤ length b) (n : next ≤ length b) where
  took-few : Few (onto t nil) × (length (bytes (onto t nil)) + at ≡ next)
  unfolding Good
  took-few =
      let (g, e) = (read_exact args l p).only (drop at b) t (drop next b) h in
      let w : length (bytes (onto t nil)) ≡ length (tree_bytes t) = ap length (tree-forest t) in
      (few-forest args (λ _. p) l 0 (onto t nil) g.0 g.1, omega (arith, ap length e, length-append (tree_bytes t) (drop next b), length-drop at b, length-drop next b))

-- what a walk over a term says of its size
pub term_spans : (args : Args) (l : ℕ) (p : Place) {b : List ℕ} {at i : ℕ} {first out : List ℕ} (o : Answer Walk) → at ≤ length b
    → Walks tree (read args l p (drop at b)) b at i first out o → IfSome o (Spans at)
term_spans args l p None h k = tt
term_spans args l p {b} {at} (Some w) h k =
    let r = k.tells in
    let (f, e) = took-few args l p b at w.next r.value r.is h r.high in
    record { few = omega (arith, f.records, r.records); short = omega (arith, f.texts, r.texts) }

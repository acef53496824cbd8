-- Both directions of paths on the code: `path_at` and `put_path_text` where the bytes of a path text stand, and what they read where they read something.
-- Assumes nothing.
use Rattle.std.specs.Prelude.{◌≡◌, refl, Some, List, ◌++◌, ℕ, ◌+◌, ◌-◌, ◌≤◌, T, drop}
use Rattle.std.specs.Prelude as rust
use Rattle.std.proofs.Common.{sym, ap, ◌∙◌, arith, length-drop, drop-drop}
use Rattle.std.proofs.Math.Option.{some, Option-elim}
use Rattle.std.proofs.Math.ListN.{length, length-append}
use Rattle.std.proofs.Math.Seq.{drop-append_seam}
use Rattle.octets.specs.Bytes.{◌>>=◌}
use Rattle.octets.specs.Tests.{took, gave}
use Rattle.octets.specs.Reading.{Reads, reads, reads_determined}
use Rattle.path.specs.Path.{is_path, path_bytes}
use Rattle.path.specs.Get.{get_path_text, get_path_length, path_text}
use Rattle.path.specs.PathLaws.{path-text_exact}

-- what is read is a path's text, and its length is the number that is answered
module _ (bs : List ℕ) (v : ℕ) (rest : List ℕ) (h : get_path_length bs ≡ some (v, rest)) where
  pub text-read : (get_path_text bs ≡ some (path_text bs, rest)) × (length (path_text bs) ≡ v)
  unfolding get_path_length path_text Option-elim
  text-read = took (get_path_text bs) _ h λ t r h₁ h₂. let (p, q) = gave h₂ in rw (h₁, q) (refl, p)

  pub path-read-only : T (is_path (path_text bs)) × (bs ≡ path_bytes (path_text bs) ++ rest)
  path-read-only = path-text_exact.only bs (path_text bs) rest text-read.0

-- the bytes of a path text are read as its length, wherever they stand, and its text is had back
module _ (b : List ℕ) (at : ℕ) (t rest : List ℕ) (g : T (is_path t)) (h : at ≤ length b) (e : drop at b ≡ path_bytes t ++ rest) where
  behind : drop (at + length (path_bytes t)) b ≡ rest
  behind = sym (drop-drop (length (path_bytes t)) at b) ∙ rw e (drop-append_seam (path_bytes t) rest)

  pub path-read-back : (r : rust.Option (ℕ × ℕ)) → Reads get_path_length b at r → r ≡ Some (length t, at + length (path_bytes t))
  unfolding get_path_length ◌>>=◌
  path-read-back r k =
      let l : length b - at ≡ length (path_bytes t) + length rest = sym (length-drop at b) ∙ ap length e ∙ length-append (path_bytes t) rest in
      reads_determined r _ k (reads (record { is = rw (e, behind, path-text_exact.back t rest g); low = omega arith; high = omega arith }))

  pub path-text-back : path_text (drop at b) ≡ t
  unfolding path_text Option-elim
  path-text-back = rw (e, path-text_exact.back t rest g)

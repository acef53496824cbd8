-- Both directions on the code of the leaves: where a reader's contract meets the bytes of its writer's contract, its answer is the value and
-- where that ends; and an answer that gives a value stands on that value's bytes. Each is one law of `Reads`, at a leaf's `Exact`.
-- Assumes nothing.
use Rattle.std.specs.Prelude.{◌≡◌, ℕ, ◌+◌, ◌^◌, ◌<◌, ◌≤◌, Bool, T, Option, Some, List, ◌++◌, length, drop}
use Rattle.std.proofs.Common.{refl}
use Rattle.octets.specs.Bytes.{Reader, le, get_le}
use Rattle.octets.specs.Laws.{le_exact}
use Rattle.octets.specs.Reading.{Reads, got, reads_of_put, put_of_reads}
use Rattle.number.specs.Integer.{integer}
use Rattle.number.specs.Get.{get_integer, get_pkg_length}
use Rattle.number.specs.IntegerLaws.{integer_exact}
use Rattle.number.specs.PkgLength.{create_pkg_length, largest}
use Rattle.number.proofs.PkgLengthExact.{pkg_length_exact}
use Rattle.path.specs.Path.{is_path, path_bytes}
use Rattle.path.specs.Get.{path_text, get_path_length}
use Rattle.path.specs.PathCode.{text-read, path-read-only, path-read-back, path-text-back}

-- what `put` writes for a good v is read by `get`, wherever it stands in b
abbrev pub ReadBack : (ℕ → List ℕ) → Reader ℕ → (ℕ → Type 0) → Type 0
ReadBack put get good =
    (b : List ℕ) (at v : ℕ) (rest : List ℕ) (r : Option (ℕ × ℕ)) → good v → at ≤ length b → drop at b ≡ put v ++ rest → Reads get b at r
    → r ≡ Some (v, at + length (put v))

-- what `get` reads is what `put` writes for it
abbrev pub ReadOnly : (ℕ → List ℕ) → Reader ℕ → (ℕ → Type 0) → Type 0
ReadOnly put get good = (b : List ℕ) (at v next : ℕ) → Reads get b at (Some (v, next)) → good v × (drop at b ≡ put v ++ drop next b)

-- `octets::put_le` and `le_at`, at each width
pub le-read-back : (n : ℕ) → ReadBack (le n) (get_le n) (λ x. x < 256 ^ n)
le-read-back n = reads_of_put (le_exact n)

pub le-read-only : (n : ℕ) → ReadOnly (le n) (get_le n) (λ x. x < 256 ^ n)
le-read-only n b at v next h = put_of_reads (le_exact n) h

-- `number::put_int` and `int_at`
pub int-read-back : ReadBack integer get_integer (λ x. x < 2 ^ 64)
int-read-back = reads_of_put integer_exact

pub int-read-only : ReadOnly integer get_integer (λ x. x < 2 ^ 64)
int-read-only b at v next h = put_of_reads integer_exact h

-- `number::create_pkg_length` and `pkg_length_at`, of a body and of a field entry
pub length-read-back : (self : Bool) → ReadBack (create_pkg_length self) (get_pkg_length self) (λ n. n ≤ largest self)
length-read-back self = reads_of_put (pkg_length_exact self)

pub length-read-only : (self : Bool) → ReadOnly (create_pkg_length self) (get_pkg_length self) (λ n. n ≤ largest self)
length-read-only self b at v next h = put_of_reads (pkg_length_exact self) h

-- `path::put_path`, `path_at` and `put_path_text`
pub path-back : (b : List ℕ) (at : ℕ) (t rest : List ℕ) (r : Option (ℕ × ℕ)) → T (is_path t) → at ≤ length b → drop at b ≡ path_bytes t ++ rest → Reads get_path_length b at r
    → (r ≡ Some (length t, at + length (path_bytes t))) × (path_text (drop at b) ≡ t)
path-back b at t rest r g h e k = (path-read-back b at t rest g h e r k, path-text-back b at t rest g h e)

pub path-only : (b : List ℕ) (at v next : ℕ) → Reads get_path_length b at (Some (v, next))
    → (length (path_text (drop at b)) ≡ v) × T (is_path (path_text (drop at b))) × (drop at b ≡ path_bytes (path_text (drop at b)) ++ drop next b)
path-only b at v next h =
    let e = (got refl h).is in
    let (g, f) = path-read-only (drop at b) v (drop next b) e in
    ((text-read (drop at b) v (drop next b) e).1, g, f)

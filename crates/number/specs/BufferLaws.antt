-- Laws of buffers: the bytes before a buffer's own, and how many they are.
-- For the proofs of this crate and for the writers of buffers. Assumes nothing.
use Rattle.std.specs.Prelude.{◌≡◌, refl, true, List, ◌++◌, ℕ, ◌+◌, ◌≤◌, length, set}
use Rattle.std.proofs.Common.{append_assoc, arith, length-append}
use Rattle.octets.specs.Filling.{Wrote, Filling, lent, returned, filling_start, filling_set, filling_fits, filling_lent}
use Rattle.number.specs.Integer.{integer}
use Rattle.number.specs.PkgLength.{following, pkg_length}
use Rattle.number.specs.Buffer.{boxed, buffer, buffer_front}
use Rattle.number.specs.IntegerLaws.{integer-most}
use Rattle.number.specs.PkgLengthLaws.{following-most, pkg_length-length}

pub buffer-front : (bs : List ℕ) → buffer bs ≡ buffer_front (length bs) ++ bs
unfolding boxed buffer buffer_front
buffer-front bs = rw (length-append, append_assoc) refl

pub buffer-front-length : (n : ℕ) → length (buffer_front n) ≡ following (length (integer n) + n) + length (integer n) + 2
unfolding buffer_front
buffer-front-length n = simp length-append (omega (arith, pkg_length-length true (length (integer n) + n)))

pub buffer-front-most : (n : ℕ) → length (buffer_front n) ≤ 14
buffer-front-most n = omega (arith, buffer-front-length n, following-most (length (integer n) + n), integer-most n)

-- ── Writing it: the opcode, then the length, then the size
module _ (n : ℕ) (first : List ℕ) (h : length (buffer_front n) ≤ length first) {w : ℕ} (e : w ≡ length (integer n)) where
  abbrev opened : List ℕ
  opened = set first 0 0x11

  start : Filling (buffer_front n) (pkg_length (w + n) ++ integer n) 1 first opened
  unfolding buffer_front
  start = filling_set (filling_start first (rw e refl) h)

  pub front_fits : length (pkg_length (w + n)) ≤ length (lent 1 opened)
  front_fits = filling_fits (pkg_length (w + n)) (integer n) start

  pub front_rest : {r : ℕ} {ys : List ℕ} → Wrote (pkg_length (w + n)) (lent 1 opened) ys r → Filling (buffer_front n) (integer n) (1 + r) first (returned 1 opened ys)
  front_rest d = filling_lent (pkg_length (w + n)) (integer n) start d

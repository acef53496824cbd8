-- `written::put_string` meets its contract: the text, then the byte 00. Assumes nothing.
use mathlib.Core.Path.{refl}
use native.Mathlib.Omega.{arith}
use Rattle.octets.specs.Bytes.{le}
use Rattle.octets.specs.Filling.{writing_fits, writing_next, writing_within, writing_same, writing_end}
use Rattle.written.specs.FineLaws.{two-start}
use Rattle.written.proofs.put_string.Goals as goal

pub put_le-at-requires : goal.put_le-at-requires
unfolding le
put_le-at-requires c =
    let h0 = two-start c.args.t.now (le 1 0) c.args.out.now refl c.requires in
    let h1 = writing_next h0 c.put_slice-at.ensures in
    writing_fits h1

pub returns : goal.returns
unfolding le
returns c =
    let h0 = two-start c.args.t.now (le 1 0) c.args.out.now refl c.requires in
    let h1 = writing_next h0 c.put_slice-at.ensures in
    let h2 = writing_next h1 c.put_le-at.ensures in
    writing_end h2

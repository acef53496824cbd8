-- `written::put_uuid_buffer` meets its contract: what stands before 16 bytes, then these. Assumes nothing.
use native.Mathlib.Omega.{arith}
use Rattle.octets.specs.Filling.{writing_fits, writing_next, writing_within, writing_same, writing_end}
use Rattle.number.specs.Buffer.{buffer_front}
use Rattle.ident.specs.Ident.{uuid_bytes}
use Rattle.ident.specs.IdentLaws.{uuid-length}
use Rattle.written.specs.FineLaws.{two-start, uuid-front}
use Rattle.written.proofs.put_uuid_buffer.Goals as goal

pub put_buffer_front-at-requires : goal.put_buffer_front-at-requires
put_buffer_front-at-requires c =
    let h0 = two-start (buffer_front 16) (uuid_bytes c.args.t.now) c.args.out.now (uuid-front c.args.t.now) c.requires.1 in
    (writing_fits h0, omega arith)

pub put_uuid-at-requires : goal.put_uuid-at-requires
put_uuid-at-requires c =
    let h0 = two-start (buffer_front 16) (uuid_bytes c.args.t.now) c.args.out.now (uuid-front c.args.t.now) c.requires.1 in
    let h1 = writing_next h0 c.put_buffer_front-at.ensures in
    (c.requires.0, omega (arith, writing_fits h1, uuid-length c.args.t.now))

pub returns : goal.returns
returns c =
    let h0 = two-start (buffer_front 16) (uuid_bytes c.args.t.now) c.args.out.now (uuid-front c.args.t.now) c.requires.1 in
    let h1 = writing_next h0 c.put_buffer_front-at.ensures in
    let h2 = writing_next h1 c.put_uuid-at.ensures in
    writing_end h2

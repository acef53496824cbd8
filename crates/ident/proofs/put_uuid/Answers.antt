-- `ident::put_uuid` meets its contract: the bytes of the places that are left fill the rest (`Filling`). Assumes nothing.
use Rattle.std.proofs.Common.{refl, ◌≡◌, arith}
use Rattle.octets.specs.Filling.{filling_start}
use Rattle.ident.specs.Ident.{uuid_places, uuid_bytes}
use Rattle.ident.specs.Parts.{pair_byte}
use Rattle.ident.specs.Each.{map_turn, map_end}
use Rattle.ident.specs.IdentLaws.{place-small, uuid-text-length, pair_at}
use Rattle.ident.proofs.put_uuid.Goals as goal

pub loop-k-init : goal.loop-k-init
unfolding uuid_bytes
loop-k-init c = filling_start _ refl c.requires.1

pub pair_byte-requires : goal.pair_byte-requires
unfolding uuid_bytes
pair_byte-requires c =
    let k = c.loop-k.k in
    (omega (arith, place-small k c.loop-k-test.true, uuid-text-length c.args.t.now c.requires.0), pair_at c.args.t.now c.requires.0 k c.loop-k-test.true)

pub loop-k-preserved : goal.loop-k-preserved
unfolding uuid_bytes
loop-k-preserved c = map_turn (pair_byte c.args.t.now) uuid_places c.loop-k-test.true c.pair_byte.ensures c.loop-k.invariant

pub returns : goal.returns
unfolding uuid_bytes
returns c =
    let e : c.loop-k.k ≡ 16 = omega arith in
    rw e at (map_end (pair_byte c.args.t.now) uuid_places c.loop-k.invariant c.loop-k-test.false)

-- `octets::get_u64` meets its contract: a byte, and seven times one digit more. Assumes nothing.
use Rattle.std.proofs.Common.{◌≡◌, ℕ, ◌<◌, arith}
use Rattle.octets.specs.Reading.{digits-one, digits-next}
use Rattle.octets.proofs.get_u64.Goals as goal

-- a byte that became a wider number
byte : {v x : ℕ} → v ≡ x → x < 256 → (v ≡ x) × (v < 256)
byte e l = (e, omega arith)

pub returns : goal.returns
returns c =
    let p = c.requires in
    let d1 = digits-one (omega arith) (byte c.from.ensures (omega arith)) in
    let d2 = digits-next 1 (omega arith) d1 (byte c.from-2.ensures (omega arith)) in
    let d3 = digits-next 2 (omega arith) d2 (byte c.from-3.ensures (omega arith)) in
    let d4 = digits-next 3 (omega arith) d3 (byte c.from-4.ensures (omega arith)) in
    let d5 = digits-next 4 (omega arith) d4 (byte c.from-5.ensures (omega arith)) in
    let d6 = digits-next 5 (omega arith) d5 (byte c.from-6.ensures (omega arith)) in
    let d7 = digits-next 6 (omega arith) d6 (byte c.from-7.ensures (omega arith)) in
    digits-next 7 (omega arith) d7 (byte c.from-8.ensures (omega arith))

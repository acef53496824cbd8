use Rattle.std.proofs.Common.{map, drop}
use Rattle.octets.specs.Filling.{Filling}
use Rattle.ident.specs.Ident.{uuid_places, uuid_bytes}
use Rattle.ident.specs.Parts.{pair_byte}
use Rattle.ident.proofs.put_uuid.Given as goal

abbrev pub invariant-loop-k : goal.invariant-loop-k
invariant-loop-k l = Filling (uuid_bytes l.t) (map (pair_byte l.t) (drop l.k uuid_places)) l.k l.initial.out l.out

-- `grammar::family` meets its contract: the static's entries are the families of the 256 bytes. Assumes nothing.
use Rattle.std.specs.Prelude.{refl}
use Rattle.octets.specs.Bytes.{value}
use Rattle.path.specs.Path.{lead_name}
use Rattle.path.specs.Get.{name_start}
use Rattle.grammar.specs.Kinds.{normal_kinds, stands, is, rank}
use Rattle.grammar.specs.Family.{family_of, family_in, starts, family_name, begins_text, begins_numbers, begins_integer}
use Rattle.grammar.proofs.PackedLaws.{listed, listed_at}
use Rattle.grammar.proofs.family.Goals as goal

pub returns : goal.returns
unfolding listed family_of family_in normal_kinds value starts stands is rank family_name begins_text name_start lead_name begins_numbers begins_integer
returns c = listed_at family_of 256 0 refl c.args.b c.ranges.b.fits

-- `taken::text_at` meets its contract, by the form of the text. Assumes nothing.
use Rattle.std.proofs.Common.{refl, ⊎_elim}
use Rattle.octets.specs.Bytes.{◌>>=◌}
use Rattle.octets.specs.Reading.{reads_none}
use Rattle.path.specs.Get.{get_path_length}
use Rattle.fields.specs.Get.{get_text}
use Rattle.taken.specs.Taken.{sized, get_text_length}
use Rattle.taken.specs.TakenLaws.{unused_found, rest-found}
use Rattle.taken.proofs.text_at.Goals as goal

pub returns-in-Unused : goal.returns-in-Unused
unfolding get_text_length sized get_text get_path_length ◌>>=◌
returns-in-Unused c = rw c.in-Unused.is (unused_found _ _ c.requires)

pub returns-in-PathText : goal.returns-in-PathText
unfolding get_text_length sized get_text get_path_length ◌>>=◌
returns-in-PathText c = rw c.in-PathText.is c.path_at.ensures

pub returns-in-SegmentText : goal.returns-in-SegmentText
unfolding get_text_length sized get_text get_path_length ◌>>=◌
returns-in-SegmentText c = rw c.in-SegmentText.is c.segment_at.ensures

pub returns-in-Ascii : goal.returns-in-Ascii
unfolding get_text_length sized get_text get_path_length ◌>>=◌
returns-in-Ascii c = rw c.in-Ascii.is c.string_at.ensures

pub returns-in-AnyBytes : goal.returns-in-AnyBytes
unfolding get_text_length sized get_text get_path_length ◌>>=◌
returns-in-AnyBytes c = rw c.in-AnyBytes.is (rest-found _ _ c.requires)

pub returns-in-EisaText : goal.returns-in-EisaText
unfolding get_text_length sized get_text get_path_length ◌>>=◌
returns-in-EisaText c =
    ⊎_elim (λ e. rw e (reads_none refl)) (λ d. ⊎_elim (λ e. rw e (reads_none refl)) (λ e. rw e (reads_none refl)) d) c.in-EisaText.is

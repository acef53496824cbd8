-- Where a text that was read stands in the bytes, for whoever copies it: as it is, from the position on, or as a path's bytes.
-- Assumes nothing.
use Rattle.std.specs.Prelude.{◌≡◌, refl, Bool, true, false, List, [], ◌∷◌, ◌++◌, ℕ, T, length, take, drop}
use Rattle.std.proofs.Common.{ap, append_assoc, arith, eqb→eq}
use Rattle.std.proofs.Math.Option.{Option-elim}
use Rattle.std.proofs.Math.Seq.{take-append_seam}
use Rattle.octets.specs.Bytes.{begins}
use Rattle.octets.specs.Tests.{and_left, and_right, took, gave}
use Rattle.octets.specs.Laws.{begins-back}
use Rattle.path.specs.Get.{path_text}
use Rattle.grammar.specs.declared.Text.{Text}
use Rattle.grammar.specs.declared.Text.TheVariants.{Unused, PathText, SegmentText, Ascii, AnyBytes, EisaText, UuidText, DescriptorText}
use Rattle.grammar.specs.declared.Row.{Row}
use Rattle.grammar.specs.Forest.{Fields}
use Rattle.fields.specs.Fields.{text_fits, in_range, spelled}
use Rattle.fields.specs.Written.{text_bytes, field_bytes}
use Rattle.fields.specs.Get.{get_text, get_form, get_fields}
use Rattle.fields.specs.WrittenLaws.{readable, fields_exact}
use Rattle.taken.specs.Taken.{Took}

-- the bytes from `at` on are those of text and numbers, the text's first; and both are as the row's kind has them
pub record Stands (row : Row) (b : List ℕ) (at next : ℕ) (v : Fields) : Type 0 where
  pub ranged : T (in_range row v.text v.a v.x)
  pub spelt : T (spelled row v.text)
  pub bytes : drop at b ≡ field_bytes row v ++ drop next b
  pub first : T (begins (text_bytes row.text row.kind v) (drop at b))

-- the texts that are copied as they stand
unfoldable pub verbatim : Text → Bool
verbatim Unused = true
verbatim PathText = false
verbatim SegmentText = true
verbatim Ascii = true
verbatim AnyBytes = true
verbatim EisaText = false
verbatim UuidText = false
verbatim DescriptorText = false

text_copied : (f : Text) (kind : ℕ) (v : Fields) (rest : List ℕ) → T (verbatim f) → T (text_fits f kind v.text v.a v.x)
    → take (length v.text) (text_bytes f kind v ++ rest) ≡ v.text
unfolding verbatim text_fits text_bytes
text_copied Unused kind v rest w h = none_of v.text (eqb→eq (length v.text) 0 h)
  where
    none_of : (t : List ℕ) → length t ≡ 0 → take (length t) rest ≡ t
    none_of [] e = refl
    none_of (c ∷ t) e = absurd (omega arith)
text_copied PathText kind v rest w h = absurd w
text_copied SegmentText kind v rest w h = take-append_seam v.text rest
text_copied Ascii kind v rest w h = rw append_assoc (take-append_seam v.text ((0 ∷ []) ++ rest))
text_copied AnyBytes kind v rest w h = take-append_seam v.text rest
text_copied EisaText kind v rest w h = absurd w
text_copied UuidText kind v rest w h = absurd w
text_copied DescriptorText kind v rest w h = absurd w

module _ {row : Row} {b : List ℕ} {at len a x next : ℕ} (h : Took row b at len a x next) where
  abbrev pub took_fields : Fields
  took_fields = record { text = h.text; a = a; x = x }

  pub took-stands : T (readable row) → Stands row b at next took_fields
  unfolding field_bytes
  took-stands w =
      let ((g, s), e) = (fields_exact row w).only (drop at b) took_fields (drop next b) h.is in
      record { ranged = g; spelt = s; bytes = e; first = rw (e, append_assoc) (begins-back (text_bytes row.text row.kind took_fields) _) }

  pub took-verbatim : T (readable row) → T (verbatim row.text) → take len (drop at b) ≡ h.text
  unfolding field_bytes in_range
  took-verbatim w t =
      let s = took-stands w in
      let g = s.ranged in
      rw (h.size, s.bytes, append_assoc) (text_copied row.text row.kind took_fields _ t (search (and_left, and_right)))

  -- a path's text is what its bytes spell
  pub took-path : row.text ≡ PathText → path_text (drop at b) ≡ h.text
  unfolding get_fields get_text path_text Option-elim
  took-path e =
      took (get_text row.text (drop at b)) _ h.is λ t y h₁ h₂.
      took (get_form row.numbers row.alimit row.xlimit y) _ h₂ λ u z h₃ h₄.
      let (p, q) = gave h₄ in
      rw (rw e at h₁) (ap (λ (v : Fields). v.text) p)

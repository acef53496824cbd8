-- Worked examples: terms, their bytes, and the same bytes read back. Document 01, "Kinds", "Bytes" and "Bytes to check against".
-- Assumes nothing.
use Rattle.std.specs.Prelude.{◌≡◌, refl, ℕ}
use Rattle.std.proofs.Math.Option.{none, some, Option-elim}
use mathlib.Core.List.{List, [], ◌∷◌, map, flatten}
use Rattle.octets.specs.Bytes.{◌>>=◌, need, every, cut, begins, le, value, get_le}
use Rattle.number.specs.Integer.{integer, width, prefix}
use Rattle.number.specs.Get.{announced, get_integer, get_pkg_length, get_length, shortest}
use Rattle.number.specs.PkgLength.{create_pkg_length, following, length_bytes}
use Rattle.path.specs.Path.{lead_name, name_char, segment, root_of, unroot, parts_of, path_of, count_bytes, bytes_of, path_bytes}
use Rattle.path.specs.Get.{joined, text_of, get_count, get_parts, get_path, get_path_text, name_start}
use Rattle.grammar.specs.Kinds.{rank, is, stands, child_place, counts, args_at, opcode, normal_kinds, kinds, find, row_of, row_in}
use Rattle.grammar.specs.Family.{begins_integer, begins_text, begins_numbers, starts, family_name, family_in, family_of}
use Rattle.grammar.specs.Forest.{Fields, Forest, nil, node, count}
use Rattle.fields.specs.Fields.{flags_fit}
use Rattle.fields.specs.Written.{text_bytes, form_bytes, field_bytes}
use Rattle.fields.specs.Get.{get_string, get_segment, get_text, get_form, get_fields}
use Rattle.tree.specs.Bytes.{front, back, before, behind, body, box, term_bytes, bytes}
use Rattle.tree.specs.Normal.{integer_term, buffer_term}
use Rattle.tree.specs.Read.{twofold, kind_in, entry_in, kind_at, literal, times, list, get_many, get_kids, get_body, unbox, read, parse}

abbrev foo : List ℕ
foo = 0x46 ∷ 0x4F ∷ 0x4F ∷ 0x5F ∷ []

abbrev fields : List ℕ → ℕ → ℕ → Fields
fields t a x = record { text = t; a = a; x = x }

abbrev term : ℕ → Fields → Forest → Forest
term k v c = node k v c nil

abbrev local : ℕ → Forest → Forest
local a s = node 0x60 (fields [] a 0) nil s

-- Name with an integer, with an empty package, with a buffer; If; Field with a named entry and a reserved one; Method; CreateField; a call;
-- Name with a package of a name. Every path takes two arguments
abbrev examples : List (Forest × List ℕ)
examples =
    (term 0x08 (fields foo 0 0) (integer_term 1 nil), 0x08 ∷ 0x46 ∷ 0x4F ∷ 0x4F ∷ 0x5F ∷ 0x01 ∷ [])
    ∷ (term 0x08 (fields foo 0 0) (term 0x12 (fields [] 0 0) nil), 0x08 ∷ 0x46 ∷ 0x4F ∷ 0x4F ∷ 0x5F ∷ 0x12 ∷ 0x02 ∷ 0x00 ∷ [])
    ∷ (term 0x08 (fields foo 0 0) (buffer_term (7 ∷ 8 ∷ []) nil), 0x08 ∷ 0x46 ∷ 0x4F ∷ 0x4F ∷ 0x5F ∷ 0x11 ∷ 0x05 ∷ 0x0A ∷ 0x02 ∷ 0x07 ∷ 0x08 ∷ [])
    ∷ (term 0xA0 (fields [] 0 0) (local 2 (term 0xA4 (fields [] 0 0) (integer_term 0 nil))), 0xA0 ∷ 0x04 ∷ 0x62 ∷ 0xA4 ∷ 0x00 ∷ [])
    ∷ (
      term 0x5B81 (fields foo 0x11 0) (node 0xF001 (fields foo 0 8) nil (term 0xF000 (fields [] 0 63) nil)),
      0x5B ∷ 0x81 ∷ 0x0E ∷ 0x46 ∷ 0x4F ∷ 0x4F ∷ 0x5F ∷ 0x11 ∷ 0x46 ∷ 0x4F ∷ 0x4F ∷ 0x5F ∷ 0x08 ∷ 0x00 ∷ 0x4F ∷ 0x03 ∷ [],
    )
    ∷ (term 0x14 (fields foo 2 1) nil, 0x14 ∷ 0x06 ∷ 0x46 ∷ 0x4F ∷ 0x4F ∷ 0x5F ∷ 0x0A ∷ [])
    ∷ (term 0x5B13 (fields foo 0 0) (local 0 (integer_term 1 (integer_term 8 nil))), 0x5B ∷ 0x13 ∷ 0x60 ∷ 0x01 ∷ 0x0A ∷ 0x08 ∷ 0x46 ∷ 0x4F ∷ 0x4F ∷ 0x5F ∷ [])
    ∷ (term 0x2E (fields foo 0 0) (local 1 (term 0xFF (fields [] 0 0) nil)), 0x46 ∷ 0x4F ∷ 0x4F ∷ 0x5F ∷ 0x61 ∷ 0xFF ∷ [])
    ∷ (term 0x08 (fields foo 0 0) (term 0x12 (fields [] 0 0) (term 0x2E (fields foo 0 0) nil)), 0x08 ∷ 0x46 ∷ 0x4F ∷ 0x4F ∷ 0x5F ∷ 0x12 ∷ 0x06 ∷ 0x01 ∷ 0x46 ∷ 0x4F ∷ 0x4F ∷ 0x5F ∷ [])
    ∷ []

pub examples-written : map (λ (e : Forest × List ℕ). bytes e.0) examples ≡ map (λ (e : Forest × List ℕ). e.1) examples
unfolding bytes term_bytes box body before behind front back opcode le value row_in row_of find kinds normal_kinds count field_bytes text_bytes form_bytes path_bytes Option-elim path_of parts_of unroot need ◌>>=◌ segment lead_name name_char every bytes_of root_of count_bytes integer width prefix create_pkg_length following length_bytes flatten
examples-written = refl

pub examples-read : map (λ (e : Forest × List ℕ). parse (λ t. 2) e.1) examples ≡ map (λ (e : Forest × List ℕ). some e.0) examples
unfolding parse list read find normal_kinds kind_at is rank kind_in entry_in twofold family_of family_in starts stands family_name begins_text name_start begins_numbers begins_integer need ◌>>=◌ literal begins opcode le unbox get_body get_fields get_text get_form get_path_text get_path get_count get_parts unroot cut segment lead_name name_char every text_of root_of joined get_le value get_integer announced width get_kids get_many times counts args_at child_place count get_pkg_length get_length shortest following get_string get_segment flags_fit
examples-read = refl

-- an integer not in its shortest form, and none; a package that does not fill its body, and one whose body is short; a list's term as data;
-- an opcode without its second byte; a call with an argument too few
abbrev refused : List (List ℕ)
refused =
    (0x08 ∷ 0x46 ∷ 0x4F ∷ 0x4F ∷ 0x5F ∷ 0x0A ∷ 0x01 ∷ [])
    ∷ (0x08 ∷ 0x46 ∷ 0x4F ∷ 0x4F ∷ 0x5F ∷ [])
    ∷ (0x08 ∷ 0x46 ∷ 0x4F ∷ 0x4F ∷ 0x5F ∷ 0x12 ∷ 0x03 ∷ 0x00 ∷ 0x00 ∷ [])
    ∷ (0x08 ∷ 0x46 ∷ 0x4F ∷ 0x4F ∷ 0x5F ∷ 0x12 ∷ 0x02 ∷ 0x01 ∷ 0x00 ∷ [])
    ∷ (0x08 ∷ 0x46 ∷ 0x4F ∷ 0x4F ∷ 0x5F ∷ 0xA1 ∷ 0x01 ∷ [])
    ∷ (0x5B ∷ [])
    ∷ (0x46 ∷ 0x4F ∷ 0x4F ∷ 0x5F ∷ 0x61 ∷ [])
    ∷ []

pub examples-refused : map (parse (λ t. 2)) refused ≡ map (λ (bs : List ℕ). none) refused
unfolding parse list read find normal_kinds kind_at is rank kind_in entry_in twofold family_of family_in starts stands family_name begins_text name_start begins_numbers begins_integer need ◌>>=◌ literal begins opcode le unbox get_body get_fields get_text get_form get_path_text get_path get_count get_parts unroot cut segment lead_name name_char every text_of root_of joined get_le value get_integer announced width get_kids get_many times counts args_at child_place count get_pkg_length get_length shortest following get_string get_segment flags_fit
examples-refused = refl

-- What computing shows of document 01's examples: the table of those marked +, the whole file and table, the same table by edits; and of
-- a table that no file gives. For Theorems.
use mathlib.Core.Path.{◌≡◌, refl}
use mathlib.Core.Option.{Option-elim}
use mathlib.Core.List.{List, map}
use mathlib.Core.List as lists
use Prim.Native.Nat.{ℕ}
use native.Mathlib.Omega.{arith}
use lib.Dec.{T}
use Rattle.octets.specs.Bytes.{◌>>=◌, need, every, is_byte, begins, le, value, le_at}
use Rattle.octets.specs.Sum.{byte_sum, negated, total}
use Rattle.number.specs.Integer.{integer, width, prefix}
use Rattle.number.specs.PkgLength.{following, length_bytes, create_pkg_length}
use Rattle.ident.specs.Ident.{eisa_id, eisa_bits, swap_bytes, hex_digit}
use Rattle.path.specs.Path.{is_path, path_of, parts_of, unroot, segment, lead_name, name_char, path_bytes, bytes_of, root_of, count_bytes}
use Rattle.path.specs.Get.{name_start}
use Rattle.grammar.specs.Kinds.{counts, args_at, is, rank, stands, child_place, row_of, find, kinds, normal_kinds, other_kinds, row_in, opcode}
use Rattle.grammar.specs.Family.{family_of, family_in, starts, family_name, begins_text, begins_numbers, begins_integer}
use Rattle.grammar.specs.Forest.{build, split, count, depth, flatten}
use Rattle.fields.specs.Fields.{in_range, numbers_fit, form_fits, text_fits, spelled, text_spelled}
use Rattle.fields.specs.Written.{field_bytes, text_bytes, form_bytes}
use Rattle.tree.specs.Bytes.{bytes, term_bytes, body, before, behind, front, back, box}
use Rattle.tree.specs.Normal.{norm, roomy, body_fits}
use Rattle.tree.specs.Read.{parse, list, read, kind_at, kind_in, twofold}
use Rattle.term.specs.File.{identity, layout_of, laid_out, touching, few}
use Rattle.term.specs.Record.{records_from, records_of, record_at, text_at}
use Rattle.arity.specs.Arity.{arities_fit, entries_fit, entries_from, entries_of, ascend, arities_of, arity_in, args_of, args_in}
use Rattle.checker.specs.Refusal.{verdict, refusal_of, scan, fault_of, fault_as, fault, place_fault, in_pool, text_of, kids_of, owe, next, later}
use Rattle.checker.specs.Described.{term_of, forest_of}
use Rattle.normal.specs.File.{file_of, header_bytes, records_bytes, record_bytes, start_of, term_texts, arities_bytes, arity_texts}
use Rattle.sdt.specs.Table.{opened, measured, sealed, new_table, appended, overwritten}
use Rattle.sdt.specs.Edit.{new_of, append_of, write_of, sized, accepted, sound, writable}
use Rattle.encode.specs.Encode.{table_of, late_number, refused_by, described}
use Rattle.whole.specs.Whole.{list_of, tree_of, table_for, normal_for, read_of, read_in, tree_in, Plain, Framed}
use Rattle.demands.specs.Examples.{Input, encoded, examples, whole_file, whole_table, no_records, stray_table, begun, grown, written}

-- ── The examples marked +
pub examples_hold : map (λ (e : Input × List ℕ). encoded e.0) examples ≡ map (λ (e : Input × List ℕ). e.1) examples
unfolding examples encoded integer width prefix le value following length_bytes create_pkg_length eisa_id eisa_bits swap_bytes hex_digit norm bytes count
    term_bytes opcode box body before front behind back field_bytes text_bytes form_bytes row_of row_in find kinds normal_kinds
examples_hold = refl

-- ── The whole example
pub whole-early : refusal_of whole_file ≡ verdict 0 0
unfolding refusal_of layout_of laid_out begins touching le_at value few arities_fit entries_fit entries_from entries_of ascend arities_of records_from
    records_of record_at text_of text_at scan fault_of fault_as fault place_fault in_pool in_range numbers_fit form_fits text_fits spelled text_spelled
    is_path path_of parts_of unroot segment lead_name name_char every row_of find kinds normal_kinds other_kinds row_in need ◌>>=◌ Option-elim counts
    args_at is rank stands child_place kids_of owe next later args_of args_in
whole-early = refl

pub whole-late : late_number (norm (tree_of whole_file)) ≡ 0
unfolding late_number norm flatten depth roomy body_fits bytes term_bytes body before behind front back box opcode le field_bytes text_bytes
    form_bytes path_bytes bytes_of root_of count_bytes lists.flatten integer width prefix tree_of described forest_of build split term_of count
    records_from records_of record_at text_of text_at layout_of laid_out begins touching le_at value few row_of find kinds normal_kinds other_kinds
    row_in need ◌>>=◌ Option-elim path_of parts_of unroot segment lead_name name_char every
whole-late = refl

pub whole-table : table_for whole_file ≡ whole_table
unfolding table_for table_of identity norm sealed measured opened byte_sum negated total bytes term_bytes body before behind front back box
    opcode le field_bytes text_bytes form_bytes path_bytes bytes_of root_of count_bytes lists.flatten integer width prefix tree_of described
    forest_of build split term_of count records_from records_of record_at text_of text_at layout_of laid_out begins touching le_at value few row_of
    find kinds normal_kinds other_kinds row_in need ◌>>=◌ Option-elim path_of parts_of unroot segment lead_name name_char every
whole-table = refl

pub whole-list : list_of whole_file ≡ list_of no_records
unfolding list_of layout_of laid_out begins touching le_at value few arities_of arity_in text_at entries_from entries_of
whole-list = refl

pub whole-normal : normal_for whole_file ≡ whole_file
unfolding normal_for file_of header_bytes records_bytes record_bytes start_of term_texts arities_bytes arity_texts le flatten list_of arities_of
    entries_from entries_of identity norm tree_of described forest_of build split term_of count records_from records_of record_at text_of text_at
    layout_of laid_out begins touching le_at value few need ◌>>=◌
whole-normal = refl

-- ── Reading
pub no_records-plain : Plain no_records
unfolding layout_of laid_out begins touching le_at value few arities_fit entries_fit entries_from entries_of ascend arities_of
no_records-plain = record { layout = refl; none = refl; fit = refl }

pub stray_framed : Framed stray_table
unfolding le_at value byte_sum total
stray_framed = record { least = omega arith; own = refl; most = omega arith; sum = refl }

pub stray_bytes : T (every is_byte stray_table)
unfolding every
stray_bytes = tt

pub stray_refused : (out : List ℕ) → read_of no_records stray_table out ≡ refused_by 22 0 out
unfolding read_of read_in tree_in refused_by layout_of laid_out begins touching le_at value few arities_fit entries_fit entries_from entries_of ascend
    arities_of list_of byte_sum total parse list read kind_at is rank kind_in twofold family_of family_in starts stands family_name begins_text
    name_start lead_name begins_numbers begins_integer find normal_kinds need ◌>>=◌
stray_refused out = refl

-- ── The whole table by edits
pub begun-number : begun.number ≡ 0
unfolding new_of sized accepted
begun-number = refl

pub grown-number : grown.number ≡ 0
unfolding append_of sound new_of new_table sized accepted identity le le_at value sealed measured opened byte_sum negated total
grown-number = refl

pub written-number : written.number ≡ 0
unfolding write_of writable append_of appended sound new_of new_table sized accepted identity le le_at value sealed measured opened byte_sum negated total
written-number = refl

pub written-whole : written.buffer ≡ whole_table
unfolding write_of writable overwritten append_of appended sound new_of new_table sized accepted identity le le_at value sealed measured opened
    byte_sum negated total
written-whole = refl

-- `descriptor::put_descriptor` meets its contract: four writers in a row. Assumes nothing.
use Rattle.std.proofs.Common.{◌≡◌, ℕ, ◌+◌, ◌*◌, ◌≤◌, List, [], ◌∷◌, length, arith}
use Rattle.octets.specs.Bytes.{le}
use Rattle.octets.specs.Filling.{Writing, writing_start, writing_fits, writing_next, writing_within, writing_same, writing_end}
use Rattle.descriptor.specs.declared.Columns.{Columns}
use Rattle.descriptor.specs.Descriptor.{row_of, range_length, descriptor}
use Rattle.descriptor.specs.Columns.{columns_of}
use Rattle.descriptor.specs.DescriptorLaws.{Valid, space-most, head-most, range_known, four-parts}
use Rattle.descriptor.proofs.put_descriptor.Goals as goal

-- before the first of the four
begun : (kind : ℕ) {c : Columns} → c ≡ columns_of (row_of kind) → {text : List ℕ} {a x : ℕ} → Valid (row_of kind) text a x
    → {n : ℕ} → n ≡ range_length c.space text → {first : List ℕ} → length (descriptor (row_of kind) text a x) ≤ length first
    → Writing (descriptor (row_of kind) text a x) (le c.width (c.head + c.unit * a) ∷ le c.tail x ∷ text ∷ le c.space n ∷ []) 0 first first
begun kind e v en {first} room = writing_start first (four-parts kind e v en) room

pub range_length-n-requires : goal.range_length-n-requires
range_length-n-requires c = ((space-most c.args.kind c.columns_of-c.ensures).0, range_known c.args.kind c.columns_of-c.ensures c.requires.0)

pub overflow_mul-c : goal.overflow_mul-c
overflow_mul-c c = omega (arith, head-most c.args.kind c.columns_of-c.ensures c.requires.0)

pub overflow_add-c : goal.overflow_add-c
overflow_add-c c = omega (arith, head-most c.args.kind c.columns_of-c.ensures c.requires.0)

pub put_le-at-requires : goal.put_le-at-requires
put_le-at-requires c =
    let h0 = begun c.args.kind c.columns_of-c.ensures c.requires.0 c.range_length-n.ensures c.requires.1 in
    writing_fits h0

pub put_le-at-requires-2 : goal.put_le-at-requires-2
put_le-at-requires-2 c =
    let h0 = begun c.args.kind c.columns_of-c.ensures c.requires.0 c.range_length-n.ensures c.requires.1 in
    let h1 = writing_next h0 c.put_le-at.ensures in
    writing_fits h1

pub put_slice-at-requires : goal.put_slice-at-requires
put_slice-at-requires c =
    let h0 = begun c.args.kind c.columns_of-c.ensures c.requires.0 c.range_length-n.ensures c.requires.1 in
    let h1 = writing_next h0 c.put_le-at.ensures in
    let h2 = writing_next h1 c.put_le-at-2.ensures in
    writing_fits h2

pub put_le-at-requires-3 : goal.put_le-at-requires-3
put_le-at-requires-3 c =
    let h0 = begun c.args.kind c.columns_of-c.ensures c.requires.0 c.range_length-n.ensures c.requires.1 in
    let h1 = writing_next h0 c.put_le-at.ensures in
    let h2 = writing_next h1 c.put_le-at-2.ensures in
    let h3 = writing_next h2 c.put_slice-at.ensures in
    writing_fits h3

pub returns : goal.returns
returns c =
    let h0 = begun c.args.kind c.columns_of-c.ensures c.requires.0 c.range_length-n.ensures c.requires.1 in
    let h1 = writing_next h0 c.put_le-at.ensures in
    let h2 = writing_next h1 c.put_le-at-2.ensures in
    let h3 = writing_next h2 c.put_slice-at.ensures in
    let h4 = writing_next h3 c.put_le-at-3.ensures in
    writing_end h4

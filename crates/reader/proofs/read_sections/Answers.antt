-- `reader::read_sections` meets its contract: refused, or the file. Assumes nothing.
use Rattle.std.proofs.Common.{arith}
use Rattle.reader.specs.ReaderLaws.{walk-held, sections-none, sections-many, sections-short, sections-room, sections-size, sections-done}
use Rattle.reader.proofs.read_sections.Goals as goal

pub returns-in_default : goal.returns-in_default
returns-in_default c = rw c.into.ensures (sections-none _ _ _ c.args.out.now c.in_default.ensures)

pub returns-then-w-gt65536 : goal.returns-then-w-gt65536
returns-then-w-gt65536 c = rw c.into-then-w-gt65536.ensures (sections-many _ _ _ c.args.out.now c.in-Some.ensures c.if-w-gt65536.true)

pub overflow_add-size-3 : goal.overflow_add-size-3
overflow_add-size-3 c =
    let h = walk-held _ _ _ c.in-Some.ensures c.requires.framed.most (omega arith) in
    omega (arith, sections-size _ _ _ c.args.out.now c.requires h c.texts_len-names.ensures)

pub overflow_add-size-4 : goal.overflow_add-size-4
overflow_add-size-4 c =
    let h = walk-held _ _ _ c.in-Some.ensures c.requires.framed.most (omega arith) in
    omega (arith, sections-size _ _ _ c.args.out.now c.requires h c.texts_len-names.ensures)

pub returns-then-out-size : goal.returns-then-out-size
returns-then-out-size c =
    let h = walk-held _ _ _ c.in-Some.ensures c.requires.framed.most (omega arith) in
    rw c.into-then-out-size.ensures (sections-short _ _ _ _ c.requires h c.texts_len-names.ensures c.if-out-size.true)

pub put_file-requires : goal.put_file-requires
put_file-requires c =
    let h = walk-held _ _ _ c.in-Some.ensures c.requires.framed.most (omega arith) in
    (c.requires, sections-room _ _ _ _ c.requires h c.texts_len-names.ensures c.if-out-size.false)

pub returns : goal.returns
returns c =
    let h = walk-held _ _ _ c.in-Some.ensures c.requires.framed.most (omega arith) in
    sections-done _ _ _ _ c.requires h c.texts_len-names.ensures c.if-out-size.false c.put_file.ensures

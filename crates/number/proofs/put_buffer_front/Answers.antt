-- `number::put_buffer_front` meets its contract: the opcode, the length, the size, one after the other. Assumes nothing.
use Rattle.std.proofs.Common.{arith, length-set}
use Rattle.octets.specs.Filling.{last_fits, last-wrote, last-same}
use Rattle.number.specs.IntegerLaws.{integer-most}
use Rattle.number.specs.BufferLaws.{buffer-front-length, front_fits, front_rest}
use Rattle.number.proofs.put_buffer_front.Goals as goal

pub overflow_add-body : goal.overflow_add-body
overflow_add-body c = omega (arith, c.int_len.ensures, integer-most c.args.n, c.requires.1)

pub bounds-out-0 : goal.bounds-out-0
bounds-out-0 c = omega (arith, c.requires.0, buffer-front-length c.args.n)

pub slice_bounds-create_pkg_length-count : goal.slice_bounds-create_pkg_length-count
slice_bounds-create_pkg_length-count c = rw length-set (omega (arith, c.requires.0, buffer-front-length c.args.n))

pub slice_bounds-create_pkg_length-start : goal.slice_bounds-create_pkg_length-start
slice_bounds-create_pkg_length-start c = rw length-set (omega (arith, c.requires.0, buffer-front-length c.args.n))

pub create_pkg_length-at-requires : goal.create_pkg_length-at-requires
create_pkg_length-at-requires c =
    (front_fits c.args.n c.args.out.now c.requires.0 c.int_len.ensures, omega (arith, c.int_len.ensures, integer-most c.args.n, c.requires.1))

pub slice_bounds-put_int-count : goal.slice_bounds-put_int-count
slice_bounds-put_int-count c =
    let h = front_rest c.args.n c.args.out.now c.requires.0 c.int_len.ensures c.create_pkg_length-at.ensures in omega (arith, h.within)

pub slice_bounds-put_int-start : goal.slice_bounds-put_int-start
slice_bounds-put_int-start c =
    let h = front_rest c.args.n c.args.out.now c.requires.0 c.int_len.ensures c.create_pkg_length-at.ensures in omega (arith, h.within)

pub put_int-requires : goal.put_int-requires
put_int-requires c = last_fits (front_rest c.args.n c.args.out.now c.requires.0 c.int_len.ensures c.create_pkg_length-at.ensures)

pub overflow_add-result : goal.overflow_add-result
overflow_add-result c =
    let h = front_rest c.args.n c.args.out.now c.requires.0 c.int_len.ensures c.create_pkg_length-at.ensures in omega (arith, (last-wrote h c.put_int.ensures).count, h.room)

pub returns : goal.returns
returns c = last-wrote (front_rest c.args.n c.args.out.now c.requires.0 c.int_len.ensures c.create_pkg_length-at.ensures) c.put_int.ensures

-- `encode_main::answer` meets its contract: input that is too long, a table, and a refusal's line.
use Rattle.std.proofs.Common.{arith}
use Rattle.octets.specs.Filling.{wrote_as}
use Rattle.encode_main.specs.ProgramLaws.{line_room, program_long, tried_of, program_accepted, program_room, program_refused}
use Rattle.encode_main.proofs.answer.Goals as goal

pub put_line-requires : goal.put_line-requires
put_line-requires c = line_room _ _ c.args.out.now c.requires

pub returns-then-input-gt65536 : goal.returns-then-input-gt65536
returns-then-input-gt65536 c = wrote_as (program_long _ (omega arith)) (rw c.into.ensures at c.put_line.ensures)

pub returns-in-Ok : goal.returns-in-Ok
returns-in-Ok c =
    program_accepted (tried_of c.args.input.now c.args.out.now (omega arith) c.requires c.in-Ok.ensures)

pub put_line-requires-in-Err : goal.put_line-requires-in-Err
put_line-requires-in-Err c =
    program_room (tried_of c.args.input.now c.args.out.now (omega arith) c.requires c.in-Err.ensures)

pub returns-in-Err : goal.returns-in-Err
returns-in-Err c =
    program_refused (tried_of c.args.input.now c.args.out.now (omega arith) c.requires c.in-Err.ensures) c.put_line-in-Err.ensures

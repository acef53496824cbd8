-- `encode_main::main` meets its contract: it writes no more than the output has.
use Rattle.std.proofs.Common.{arith, length-take}
use Rattle.encode_main.specs.ProgramLaws.{program_within}
use Rattle.encode_main.proofs.main.Goals as goal

pub slice_bounds-write_all-end : goal.slice_bounds-write_all-end
slice_bounds-write_all-end c = rw length-take (omega (arith, program_within _ c.answer-k.ensures c.large_buffer-out.ensures))

-- `start::is_opcode` meets its contract: the bytes are too few, or are compared as one number. Assumes nothing.
use Rattle.start.specs.StartLaws.{opcode-short, opcode-is}
use Rattle.start.proofs.is_opcode.Goals as goal

pub returns-then-n-b : goal.returns-then-n-b
returns-then-n-b c = opcode-is _ _ _ _ c.if-n-b.true c.requires.1 c.get_le.ensures

pub returns-else-n-b : goal.returns-else-n-b
returns-else-n-b c = opcode-short _ _ _ _ c.if-n-b.false

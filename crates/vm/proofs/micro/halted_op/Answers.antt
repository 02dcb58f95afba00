-- The fault and the text are what the calls answer.
-- Assumes nothing.
use Rattle.vm.proofs.micro.halted_op.Goals as goal

pub returns : goal.returns
returns c = rw (c.from_bytes-text.ensures, c.has_fault-faulted.ensures)

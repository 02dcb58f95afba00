-- The texts are what the calls answer.
-- Assumes nothing.
use Rattle.vm.proofs.step.halted_texts.Goals as goal

pub returns : goal.returns
returns c = rw (c.from_bytes.ensures, c.from_bytes-none.ensures)

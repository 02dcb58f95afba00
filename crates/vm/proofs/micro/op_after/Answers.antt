-- The phase is what the call answers.
-- Assumes nothing.
use Rattle.vm.proofs.micro.op_after.Goals as goal

pub returns : goal.returns
returns c = rw c.phase_of-phase.ensures

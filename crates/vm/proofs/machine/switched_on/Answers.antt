-- The code makes the machine that the contract names.
-- Assumes nothing.
use mathlib.Core.Path.{refl}
use Rattle.vm.specs.Calls.{restarted}
use Rattle.vm.proofs.machine.switched_on.Goals as goal

pub returns : goal.returns
unfolding restarted
returns c = refl

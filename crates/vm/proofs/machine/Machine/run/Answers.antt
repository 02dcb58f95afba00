-- What a run leaves is a machine.
-- Assumes nothing.
use Rattle.vm.specs.Calls.{parts_of}
use Rattle.vm.proofs.Fits.{lasts}
use Rattle.vm.proofs.machine.Machine.run.Goals as goal

pub returns-clause-lasting : goal.returns-clause-lasting
returns-clause-lasting c = rw c.set_core.ensures (λ k. lasts (parts_of c.args.self.now) _ _ k c.run_parts-r.ensures.2)

-- Of the stops one spends the budget.
-- Assumes nothing.
use borrow.Author.Tests.{eq-eqb, ne_eqb}
use Rattle.vm.proofs.run.closed_core.Goals as goal

pub returns-then-stop-ne3 : goal.returns-then-stop-ne3
returns-then-stop-ne3 c = rw (ne_eqb c.args.stop 3 c.if-stop-ne3.true)

pub returns : goal.returns
returns c = rw (eq-eqb c.args.stop 3 c.if-stop-ne3.false)

-- Assumes nothing.
use Rattle.plan.specs.Plan.{execute_text}
use Rattle.plan.proofs.plan.branch_text.Goals as goal

pub returns-then-taken : goal.returns-then-taken
unfolding execute_text
returns-then-taken c = rw c.if-taken.true c.jump_text.ensures

pub returns-else-taken : goal.returns-else-taken
unfolding execute_text
returns-else-taken c = rw c.if-taken.false c.untaken_text.ensures

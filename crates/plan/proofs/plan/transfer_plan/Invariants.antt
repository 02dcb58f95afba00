-- The invariant: the texts of the ticks so far are in their places.
-- Assumes nothing.
use mathlib.Core.Path.{◌≡◌}
use Rattle.plan.proofs.Plans.{planned}
use Rattle.plan.proofs.plan.transfer_plan.Given as goal

abbrev pub invariant-loop-tick : goal.invariant-loop-tick
invariant-loop-tick l = l.texts ≡ planned l.tick l.word

-- The answer by the two tests.
-- Assumes nothing.
use borrow.Author.Tests.{eq-eqb, ne_eqb}
use Rattle.vm.proofs.readings.position_of.Goals as goal

pub returns-then-tick-eq0 : goal.returns-then-tick-eq0
returns-then-tick-eq0 c = rw (c.if-halted.false, eq-eqb _ _ c.if-tick-eq0.true)

pub returns : goal.returns
returns c = rw (c.if-halted.false, ne_eqb _ _ c.if-tick-eq0.false)

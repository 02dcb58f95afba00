-- What the machine that was ticked made.
use mathlib.Core.Path.{ap}
use Rattle.massey_bench.specs.Machine.{made_by, ticks_count}
use Rattle.massey_bench.proofs.machine.massey_ticks.Goals as goal

pub returns : goal.returns
unfolding ticks_count
returns c = ap made_by c.ticked-m.ensures.0

-- The machine that was started, but for its number of records.
-- Assumes nothing.
use mathlib.Core.Path.{ap}
use Rattle.vm.specs.Calls.{with_history}
use Rattle.massey_bench.proofs.undo.started_with.Goals as goal

pub returns : goal.returns
returns c = ap (with_history c.args.count) c.started-m.ensures

-- The three pieces lie one behind the other.
-- Assumes nothing.
use native.Mathlib.Omega.{arith}
use Rattle.guard.specs.Stops.{stop_number}
use Rattle.marks.specs.Owners.{hidden_from}
use Rattle.secret.proofs.Traces.{run-over}
use Rattle.report.proofs.whole.put_run.Goals as goal

pub returns : goal.returns
returns c =
    let a = c.args in
    let r = a.run.now in (
      omega arith,
      rw (c.put_last.ensures, c.put_cells.ensures, c.put_trace.ensures, c.requires.2)
          (run-over (hidden_from a.clearance) r.machine c.requires.1 (stop_number r.stop) r.marks.mdr r.marks.registers r.marks.memory a.out.now a.at c.requires.0),
    )

-- The invariant: what is left of the guarded run is what the whole answers, and the total is the count of the marks. A turn stops or goes on by the verdict.
-- Assumes nothing.
use Prim.Native.Nat.{◌≤◌, ◌<◌, ◌-◌}
use mathlib.Core.Path.{◌≡◌}
use Rattle.marks.specs.Owners.{hidden_from}
use Rattle.marks.specs.Total.{IsCount}
use Rattle.vm.specs.View.{parts}
use Rattle.vm.specs.Guard.{guarded_run}
use Rattle.vm.specs.Forms.{Fit, guarded_on}
use Rattle.vm.proofs.guarded.guarded_parts.Given as goal

abbrev pub invariant-loop-stop : goal.invariant-loop-stop
invariant-loop-stop l =
    (guarded_run (hidden_from l.clearance) l.breakpoints l.begun (l.limit - l.begun) (guarded_on (parts l.s l.memory l.registers l.touched l.columns l.numbers l.lengths) l.marks l.register_marks l.mdr)
    ≡ guarded_run (hidden_from l.clearance) l.breakpoints 0 l.limit (guarded_on (parts l.initial.s l.initial.memory l.initial.registers l.initial.touched l.initial.columns l.initial.numbers l.initial.lengths) l.initial.marks l.initial.register_marks 0))
    × (l.begun ≤ l.limit)
    × (l.limit < 18446744073709551616)
    × Fit (parts l.s l.memory l.registers l.touched l.columns l.numbers l.lengths)
    × IsCount (hidden_from l.clearance) l.marks l.total

abbrev pub decreases-loop-stop : goal.decreases-loop-stop
decreases-loop-stop l = l.limit - l.begun

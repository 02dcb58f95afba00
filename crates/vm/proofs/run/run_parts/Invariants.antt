-- The invariant: what is left of the run is what the whole answers. A turn stops or goes on by the verdict.
-- Assumes nothing.
use Prim.Native.Nat.{◌≤◌, ◌<◌, ◌-◌}
use mathlib.Core.Path.{◌≡◌}
use Rattle.vm.specs.Run.{run}
use Rattle.vm.specs.View.{parts, view}
use Rattle.vm.specs.Forms.{Fit}
use Rattle.vm.proofs.run.run_parts.Given as goal

abbrev pub invariant-loop-stop : goal.invariant-loop-stop
invariant-loop-stop l =
    (run l.breakpoints l.begun (l.limit - l.begun) (view (parts l.s l.memory l.registers l.touched l.columns l.numbers l.lengths)) ≡ run l.breakpoints 0 l.limit (view (parts l.initial.s l.initial.memory l.initial.registers l.initial.touched l.initial.columns l.initial.numbers l.initial.lengths)))
    × (l.begun ≤ l.limit)
    × (l.limit < 18446744073709551616)
    × Fit (parts l.s l.memory l.registers l.touched l.columns l.numbers l.lengths)
    × (l.begun ≡ 0 → parts l.s l.memory l.registers l.touched l.columns l.numbers l.lengths ≡ parts l.initial.s l.initial.memory l.initial.registers l.initial.touched l.initial.columns l.initial.numbers l.initial.lengths)

abbrev pub decreases-loop-stop : goal.decreases-loop-stop
decreases-loop-stop l = l.limit - l.begun

use Prim.Native.Nat.{◌≤◌, ◌<◌, ◌+◌}
use mathlib.Core.Path.{◌≡◌}
use mathlib.Core.Bool.{false}
use Rattle.vm.specs.Instruction.{nothing, steps}
use Rattle.vm.specs.View.{parts, view}
use Rattle.vm.specs.Forms.{Fit}
use Rattle.vm.proofs.TickTurns.{at}
use Rattle.vm.proofs.instruction.instruction_parts.Given as goal

abbrev pub invariant-loop-s : goal.invariant-loop-s
invariant-loop-s l =
    (steps l.left (at (view (parts l.s l.memory l.registers l.touched l.columns l.numbers l.lengths)) l.made nothing) ≡ steps l.initial.left (at (view (parts l.initial.s l.initial.memory l.initial.registers l.initial.touched l.initial.columns l.initial.numbers l.initial.lengths)) 0 nothing))
    × (1 ≤ l.left)
    × (l.made + l.left ≤ l.initial.left)
    × (l.initial.left < 18446744073709551616)
    × (l.s.state.control.halted ≡ false)
    × Fit (parts l.s l.memory l.registers l.touched l.columns l.numbers l.lengths)

abbrev pub decreases-loop-s : goal.decreases-loop-s
decreases-loop-s l = l.left

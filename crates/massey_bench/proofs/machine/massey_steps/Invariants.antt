-- The invariant: what is left to be done of the machine that is there.
use mathlib.Core.Path.{◌≡◌}
use mathlib.Core.Bool.{true}
use Rattle.vm.specs.Machine.{Machine}
use Rattle.vm.specs.Instruction.{step_instruction}
use Rattle.vm.specs.Calls.{view_of, is_machine}
use Rattle.massey_bench.specs.Machine.{moving}
use Rattle.massey_bench.proofs.Loops.{Going}
use Rattle.massey_bench.proofs.machine.massey_steps.Given as goal

abbrev pub move : Machine → Machine
move = moving (λ v. (step_instruction v).machine)

abbrev pub invariant-loop : goal.invariant-loop
invariant-loop l = Going move l.n l.counter (view_of l.initial.m) (view_of l.m) × (is_machine l.m ≡ true)

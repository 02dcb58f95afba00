-- A run (01, section 4, and section 1, refusal 9; vm.rs, `run`): before each instruction the breakpoint, the budget, and the counters.
-- Assumes nothing.
use Rattle.std.specs.Prelude.{ℕ, zero, suc, ◌+◌, true, cond, List, eqb, Some, Result, Ok}
use Rattle.encoding.specs.declared.refusal.Refusal.{Refusal}
use Rattle.control.specs.declared.control.Control.{Control}
use Rattle.control.specs.declared.control.State.{State}
use Rattle.control.specs.declared.control.Fault.TheVariants.{StepBudgetExhausted}
use Rattle.control.specs.Control.{with_halted, with_fault, with_control}
use Rattle.control.specs.Count.{over_counted}
use Rattle.guard.specs.declared.stops.RunStop.{RunStop}
use Rattle.guard.specs.declared.stops.RunStop.TheVariants.{Budget}
use Rattle.guard.specs.Stops.{Verdict, reached, verdict_if, after, run_code, number_in}
use Rattle.vm.specs.Machine.{Machine}
use Rattle.vm.specs.Instruction.{step_instruction}

-- breakpoints, instructions begun, budget left
abbrev pub verdict : List ℕ → ℕ → ℕ → Machine → Verdict (Result RunStop Refusal)
verdict breaks k n m = verdict_if m.state.control.halted (reached breaks k m.state.control.pc) (eqb n 0) (over_counted m.counters) m.state

pub record RunEnd : Type 0 where
  pub stop : Result RunStop Refusal
  pub executed : ℕ
  pub machine : Machine

-- a machine whose budget is spent is halted by a fault, word IR, address PC
abbrev pub spent_control : Control → Control
spent_control c = with_halted true c

abbrev pub spent_state : State → State
spent_state s =
    with_fault (Some (StepBudgetExhausted s.control.ir s.control.pc)) (with_control (spent_control s.control) s)

-- of the stops, by their numbers, only a spent budget, 3, changes the machine
abbrev pub closed_state : ℕ → State → State
closed_state stop s = cond (eqb stop 3) (spent_state s) s

abbrev pub closed : ℕ → Machine → Machine
closed stop m = record {
  state = closed_state stop m.state;
  counters = m.counters;
  memory = m.memory;
  registers = m.registers;
  trace = m.trace;
  touched = m.touched;
}

-- the number of a run's stop, 0 beside a refusal
abbrev pub run_number : Result RunStop Refusal → ℕ
run_number c = number_in (run_code c)

abbrev pub run_end : ℕ → Machine → Result RunStop Refusal → RunEnd
run_end k m c = record { stop = c; executed = k; machine = closed (run_number c) m }

-- breakpoints, instructions begun, budget left
unfoldable pub run : List ℕ → ℕ → ℕ → Machine → RunEnd
run breaks k zero m = after (verdict breaks k zero m) (run_end k m) (λ u. run_end k m (Ok Budget))
run breaks k (suc n) m = after (verdict breaks k (suc n) m) (run_end k m) (λ u. run breaks (k + 1) n (step_instruction m).machine)

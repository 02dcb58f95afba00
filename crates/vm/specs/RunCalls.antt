-- `run` (01, sections 1 and 4; vm.rs): what it answers, and the machine that it leaves.
-- Assumes nothing.
use Rattle.std.specs.Prelude.{ℕ, Bool, cond, List, Ok, Err}
use Rattle.encoding.specs.declared.refusal.Refusal.TheVariants.{NoMachine}
use Rattle.vm.specs.declared.machine.Machine.{Machine as Code}
use Rattle.vm.specs.declared.run.Ran.{Ran}
use Rattle.guard.specs.declared.stops.RunStop.TheVariants.{AlreadyHalted}
use Rattle.vm.specs.Machine.{Machine}
use Rattle.vm.specs.Run.{RunEnd, closed_state, run}

-- whether it is a machine, breakpoints, budget
unfoldable pub run_call : Bool → List ℕ → ℕ → Machine → RunEnd
run_call ok breaks n m =
    cond ok
    (cond m.state.control.halted (record { stop = Ok AlreadyHalted; executed = 0; machine = m }) (run breaks 0 n m))
    (record { stop = Err NoMachine; executed = 0; machine = m })

-- the struct that the call answers, with the machine that it leaves
abbrev pub ran : Ran → Machine → RunEnd
ran r m = record { stop = r.stop; executed = r.executed.0; machine = m }

-- the struct after a run that began nothing: as it came, dead places and all, but for the halt by a spent budget
abbrev pub closed_code : ℕ → Code → Code
closed_code stop m = record {
  memory = m.memory;
  registers = m.registers;
  state = closed_state stop m.state;
  counters = m.counters;
  columns = m.columns;
  numbers = m.numbers;
  lengths = m.lengths;
  trace_start = m.trace_start;
  trace_len = m.trace_len;
  touched = m.touched;
  touched_len = m.touched_len;
  image = m.image;
  image_len = m.image_len;
  history_len = m.history_len;
}

-- The direct engine (02, Change 11): a whole instruction as one change of state, without phases, and runs of such. What a word does is in `direct`,
-- in `Work` and `Light`.
-- Assumes nothing.
use Rattle.std.specs.Prelude.{ℕ, zero, suc, ◌+◌, not, List, Option, Ok}
use Rattle.isa.specs.declared.opcode.Opcode.{Opcode}
use Rattle.isa.specs.Word.{decode_word}
use Rattle.control.specs.Last.{last_sent}
use Rattle.guard.specs.declared.stops.RunStop.TheVariants.{Budget}
use Rattle.guard.specs.Stops.{after}
use Rattle.trace.specs.declared.records.TraceRecord.{TraceRecord}
use Rattle.trace.specs.Lines.{logged}
use Rattle.trace.specs.Cells.{registers_after, memory_after}
use Rattle.trace.specs.Touched.{touched_by}
use Rattle.direct.specs.declared.work.Work.{Work}
use Rattle.direct.specs.Work.{counts, state_by, count_whole}
use Rattle.direct.specs.Light.{Light, word_at, work_of, records_of}
use Rattle.vm.specs.declared.parts.Done.{Done}
use Rattle.vm.specs.Machine.{Machine}
use Rattle.vm.specs.Run.{RunEnd, verdict, run_end}

-- what the next instruction reads of a running machine that stands between two; all else of the state it sets anew, and the trace it only adds to
abbrev pub light_of : Machine → Light
light_of m = record {
  pc = m.state.control.pc;
  fault = m.state.fault;
  alu = m.state.last_alu;
  counters = m.counters;
  memory = m.memory;
  registers = m.registers;
  touched = m.touched;
}

-- the machine after the word w, decoded, and its work, with the trace t
abbrev pub whole_by : Option Opcode → ℕ → Light → List TraceRecord → Work → Machine
whole_by d w l t k = record {
  state = state_by d w l.pc l.fault k;
  counters = count_whole d k.bus l.counters;
  memory = memory_after k.bus l.memory;
  registers = registers_after k.write l.registers;
  trace = t;
  touched = touched_by k.bus l.touched;
}

-- from a light machine and the trace before the instruction
unfoldable pub direct_on : Light → List TraceRecord → Machine
direct_on l t = let w = word_at l in let d = decode_word w in whole_by d w l (logged (records_of l) t) (work_of d w l)

-- a whole instruction
abbrev pub direct : Machine → Machine
direct m = direct_on (light_of m) m.trace

-- what its last tick did beside that
abbrev pub last_done : Option Opcode → Work → Done
last_done d k = record { bus = last_sent k.bus; write = k.write; faulted = not (counts d) }

-- a run of whole instructions: breakpoints, instructions begun, budget left
unfoldable pub direct_run : List ℕ → ℕ → ℕ → Machine → RunEnd
direct_run breaks k zero m = after (verdict breaks k zero m) (run_end k m) (λ u. run_end k m (Ok Budget))
direct_run breaks k (suc n) m = after (verdict breaks k (suc n) m) (run_end k m) (λ u. direct_run breaks (k + 1) n (direct m))

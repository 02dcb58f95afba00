-- The machine that the code's parts make: the small part by value, the arrays lent.
-- Assumes nothing.
use Rattle.std.specs.Prelude.{ℕ, List, take}
use Rattle.trace.specs.declared.records.TraceRecord.{TraceRecord}
use Rattle.vm.specs.declared.parts.Core.{Core}
use Rattle.trace.specs.Trace.{live_in}
use Rattle.vm.specs.Machine.{Machine}

pub record Parts : Type 0 where
  pub core : Core
  pub memory : List ℕ
  pub registers : List ℕ
  pub touched : List ℕ
  pub columns : List ℕ
  pub numbers : List ℕ
  pub lengths : List ℕ

abbrev pub parts : Core → List ℕ → List ℕ → List ℕ → List ℕ → List ℕ → List ℕ → Parts
parts c m r t k i l = record { core = c; memory = m; registers = r; touched = t; columns = k; numbers = i; lengths = l }

abbrev pub trace_of : Parts → List TraceRecord
trace_of q = live_in q.core.trace_start q.core.trace_len q.columns q.numbers q.lengths

-- the ring and the slots past the counts do not show
abbrev pub view : Parts → Machine
view q = record {
  state = q.core.state;
  counters = q.core.counters;
  memory = q.memory;
  registers = q.registers;
  trace = trace_of q;
  touched = take q.core.touched_len q.touched;
}

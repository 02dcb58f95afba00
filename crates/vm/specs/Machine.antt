-- One tick of a running machine (01, section 3; vm.rs, `micro_step`): `tick_of` says what it does to the control unit, and what it sends to the arrays.
-- Assumes nothing.
use Rattle.std.specs.Prelude.{ℕ, not, ◌&&◌, List, eqb, get_or}
use Rattle.isa.specs.Text.{Text}
use Rattle.isa.specs.Text.{text}
use Rattle.isa.specs.Word.{digit_x, digit_y, digit_z}
use Rattle.plan.specs.Plan.{tick_text}
use Rattle.control.specs.declared.control.State.{State}
use Rattle.control.specs.declared.control.Operands.{Operands}
use Rattle.control.specs.declared.control.Tick.{Tick}
use Rattle.control.specs.declared.counters.Counters.{Counters}
use Rattle.tick.specs.Tick.{tick_of}
use Rattle.control.specs.Count.{count_tick}
use Rattle.trace.specs.declared.records.TraceRecord.{TraceRecord}
use Rattle.vm.specs.declared.parts.Done.{Done}
use Rattle.trace.specs.Trace.{pushed, tick_phase}
use Rattle.trace.specs.Cells.{registers_after, memory_after}
use Rattle.trace.specs.Touched.{touched_by}

-- all that a tick reads or writes
pub record Machine : Type 0 where
  pub state : State
  pub counters : Counters
  pub memory : List ℕ
  pub registers : List ℕ
  pub trace : List TraceRecord
  pub touched : List ℕ

-- the words that a tick may read: the word at MAR, and registers x, y, z and 0
abbrev pub operands_of : State → List ℕ → List ℕ → Operands
operands_of s m r =
    let w = s.control.ir in
    record { cell = get_or m s.control.mar 0; x = get_or r (digit_x w) 0; y = get_or r (digit_y w) 0; z = get_or r (digit_z w) 0; zero = get_or r 0 0 }

-- the next tick, and its text
abbrev pub next_tick : Machine → Tick
next_tick m = tick_of m.state.control.tick m.state (operands_of m.state m.memory m.registers)

abbrev pub next_text_on : State → Operands → Text
next_text_on s o = text (tick_text s.control.tick (eqb o.x o.zero) s.control.ir)

unfoldable pub next_text : Machine → Text
next_text m = next_text_on m.state (operands_of m.state m.memory m.registers)

-- the machine after the tick t with the text x: one micro operation more, and then its record
abbrev pub after_tick : Machine → Text → Tick → Machine
after_tick m x t =
    let k = count_tick t.bus t.completed m.counters in
    record {
      state = t.state;
      counters = k;
      memory = memory_after t.bus m.memory;
      registers = registers_after t.write m.registers;
      trace = pushed (record {
        number = k.micro_operations;
        address = t.state.control.instruction_address;
        phase = tick_phase m.state.control.tick;
        text = x;
      }) m.trace;
      touched = touched_by t.bus m.touched;
    }

unfoldable pub micro_step : Machine → Machine
micro_step m = after_tick m (next_text m) (next_tick m)

-- what the tick did beside that; it faulted where it halted and completed nothing
abbrev pub done_by : Tick → Done
done_by t = record { bus = t.bus; write = t.write; faulted = t.state.control.halted && not t.completed }

unfoldable pub next_done : Machine → Done
next_done m = done_by (next_tick m)

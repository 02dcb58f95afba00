-- A whole instruction with its records, as the code holds it (02, Change 11): what is small by value, the arrays lent. A reader need not believe it: the
-- proofs of `vm` show that it is the instruction's ticks.
-- Assumes nothing.
use Rattle.std.specs.Prelude.{ℕ, ◌+◌, ◌%◌, ◌^◌, Bool, not, List, Option}
use Rattle.isa.specs.Word.{decode_word}
use Rattle.plan.specs.Plan.{execute_ticks_of}
use Rattle.control.specs.declared.control.BusTransfer.{BusTransfer}
use Rattle.control.specs.declared.control.RegisterWrite.{RegisterWrite}
use Rattle.control.specs.declared.control.State.{State}
use Rattle.control.specs.declared.counters.Counters.{Counters}
use Rattle.control.specs.Last.{last_sent}
use Rattle.trace.specs.Trace.{Arrays, arrays_of}
use Rattle.trace.specs.Lines.{lines}
use Rattle.trace.specs.Cells.{memory_after}
use Rattle.trace.specs.Forms.{Lent, logged_in, Places, places_of, touch_in, registers_by}
use Rattle.direct.specs.declared.whole.Small.{Small}
use Rattle.direct.specs.declared.whole.Whole.{Whole}
use Rattle.direct.specs.Work.{operands, worked, counts, state_by, count_whole}
use Rattle.direct.specs.Light.{taken_by}

pub record Held : Type 0 where
  pub state : State
  pub counters : Counters
  pub memory : List ℕ
  pub registers : List ℕ
  pub places : Places
  pub arrays : Arrays

abbrev pub held_of : Small → List ℕ → List ℕ → List ℕ → List ℕ → List ℕ → List ℕ → Held
held_of s m r t k i l = record {
  state = s.state;
  counters = s.counters;
  memory = m;
  registers = r;
  places = places_of s.touched_len t;
  arrays = arrays_of s.ring k i l;
}

-- what came to a call, and what it leaves
abbrev pub held_at_first : Small → Lent → Lent → Lent → Lent → Lent → Lent → Held
held_at_first s m r t k i l = held_of s m.entry.now r.entry.now t.entry.now k.entry.now i.entry.now l.entry.now

abbrev pub held_at_last : Small → Lent → Lent → Lent → Lent → Lent → Lent → Held
held_at_last s m r t k i l = held_of s m.exit.now r.exit.now t.exit.now k.exit.now i.exit.now l.exit.now

-- what the instruction leaves, how many ticks it stands for, and what the last of them did
pub record Wholly : Type 0 where
  pub held : Held
  pub ticks : ℕ
  pub bus : Option BusTransfer
  pub write : Option RegisterWrite
  pub faulted : Bool

abbrev pub wholly_of : Whole → Held → Wholly
wholly_of r h = record { held = h; ticks = r.ticks; bus = r.bus; write = r.write; faulted = r.faulted }

unfoldable pub whole_on : ℕ → Held → Wholly
whole_on w h =
    let d = decode_word w in
    let pc = h.state.control.pc in
    let k = worked d w ((pc + 1) % 2 ^ 8) h.state.last_alu (operands w h.memory h.registers) in
    record {
      held = record {
        state = state_by d w pc h.state.fault k;
        counters = count_whole d k.bus h.counters;
        memory = memory_after k.bus h.memory;
        registers = registers_by k.write h.registers;
        places = touch_in k.bus h.places;
        arrays = logged_in (lines (4 + execute_ticks_of d) 0 h.counters.micro_operations pc (taken_by w h.registers) w) h.arrays;
      };
      ticks = 4 + execute_ticks_of d;
      bus = last_sent k.bus;
      write = k.write;
      faulted = not (counts d);
    }

-- One way to play a list of calls: a struct that each call may leave, and so a past of every list (02, Change 5). A reader need not believe it: `Holds` proves
-- that it is a past.
-- Assumes nothing.
use Rattle.std.specs.Prelude.{ℕ, List, [], ◌∷◌, ◌++◌, map, length}
use Rattle.isa.specs.Sizes.{memory_words}
use Rattle.isa.specs.Text.{padded}
use Rattle.trace.specs.declared.records.TraceRecord.{TraceRecord}
use Rattle.trace.specs.Trace.{addresses_at, trace_limit}
use Rattle.vm.specs.declared.machine.Machine.{Machine as Code}
use Rattle.vm.specs.Machine.{Machine}
use Rattle.vm.specs.History.{saved, undone}
use Rattle.past.specs.Past.{Call, tick, step, run, push, undo, made, left}

-- texts one behind the other
unfoldable pub texts : List TraceRecord → List ℕ
texts [] = []
texts (r ∷ l) = r.text.bytes ++ texts l

-- a struct that holds a machine: its trace from the first slot on, and zeros in dead places; image and history are another's
unfoldable pub holding : Machine → Code → Code
holding m c =
    let column : (TraceRecord → ℕ) → List ℕ = λ f. padded trace_limit (map f m.trace) in
    record {
      memory = m.memory;
      registers = m.registers;
      state = m.state;
      counters = m.counters;
      columns = padded addresses_at (texts m.trace) ++ (column (λ r. r.address) ++ column (λ r. r.phase));
      numbers = column (λ r. r.number);
      lengths = column (λ r. r.text.len);
      trace_start = 0;
      trace_len = length m.trace;
      touched = padded memory_words m.touched;
      touched_len = length m.touched;
      image = c.image;
      image_len = c.image_len;
      history_len = c.history_len;
    }

unfoldable pub after : Call → Code → Code
after tick m = holding (left tick m) m
after step m = holding (left step m) m
after (run b n) m = holding (left (run b n) m) m
after (push d) m = (saved (length d) m).machine
after (undo d) m = (undone d m).machine

-- the struct after a list of calls, and the ticks that they make
unfoldable pub played : List Call → Code → Code
played [] m = m
played (c ∷ l) m = played l (after c m)

unfoldable pub ticks_of : List Call → Code → List Machine
ticks_of [] m = []
ticks_of (c ∷ l) m = made c m ++ ticks_of l (after c m)

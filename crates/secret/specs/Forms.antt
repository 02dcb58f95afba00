-- What the code's helper functions compute and ask; a reader need not believe it: `proofs/Traces.antt`, `Wholes.antt` and `Calls.antt` show that `specs/Report.antt` is what comes of it.
-- The trace as the machine's struct holds it, in arrays, the structs of which a report can be written, and the parts that the code hands on.
-- Assumes nothing.
use Rattle.std.specs.Prelude.{ℕ, ◌+◌, ◌*◌, ◌%◌, ◌≤◌, ◌≡◌, List, ◌++◌, length, take, drop, get_or}
use Rattle.trace.specs.Trace.{columns_length, trace_limit, addresses_at, phases_at}
use Rattle.isa.specs.Sizes.{memory_words, text_width}
use Rattle.encoding.specs.Bytes.{each_from}
use Rattle.isa.specs.Text.{padded, text_of}
use Rattle.marks.specs.Owners.{hidden_from}
use Rattle.vm.specs.declared.machine.Machine.{Machine as Code}
use Rattle.guard.specs.declared.stops.GuardedStop.{GuardedStop}
use Rattle.vm.specs.Calls.{view_of, image_words}
use Rattle.vm.specs.Guard.{GuardedEnd}
use Rattle.guard.specs.Input.{Input}
use Rattle.secret.specs.Report.{head_of, start_records, break_record, each_record, trace_bytes, no_record}

-- the record in slot j: columns of bytes (address and phase each in its own), numbers
abbrev pub slot_bytes : List ℕ → List ℕ → ℕ → List ℕ
slot_bytes k i j = trace_bytes (get_or i j 0) (get_or k (addresses_at + j) 0) (get_or k (phases_at + j) 0) (take text_width (drop (j * text_width) k))

-- n records, the oldest in slot start modulo 512
unfoldable pub slot_records : ℕ → ℕ → List ℕ → List ℕ → List ℕ
slot_records start n k i = each_from (λ j. slot_bytes k i ((start % trace_limit + j) % trace_limit)) 0 n

-- its arrays are of their sizes, its counts within them, and each text has zeros behind its live bytes
pub record Reportable (m : Code) : Type 0 where
  pub columns : length m.columns ≡ columns_length
  pub places : length m.touched ≡ memory_words
  pub trace : m.trace_len ≤ trace_limit
  pub touched : m.touched_len ≤ memory_words
  pub texts : (i : ℕ) → padded text_width (text_of (get_or (view_of m).trace i no_record).text) ≡ (get_or (view_of m).trace i no_record).text.bytes

-- the records of the input, kinds 09, 02 and 03
abbrev pub input_records : Input → List ℕ
input_records i = head_of i ++ (start_records (hidden_from i.clearance) (image_words i.image) i.marks ++ each_record break_record i.breaks)

-- how a run ended, of the parts that the code has: stop, machine, the marks of registers, of memory and of MDR
abbrev pub end_from : GuardedStop → Code → List ℕ → List ℕ → ℕ → GuardedEnd
end_from stop m registers memory mdr = record { stop = stop; executed = 0; guarded = record { machine = view_of m; marks = record { memory = memory; registers = registers; mdr = mdr } } }

-- The report of a guarded run (01, section 6; 02, Changes 6 and 7), as a list of bytes. `hid` says which marks hide a value: those with an owner outside the
-- reader's clearance (`report_on`). A mark's own field has the whole owner byte, of a shown value too.
-- Assumes nothing.
use Rattle.std.specs.Prelude.{ℕ, Bool, cond, List, [], ◌∷◌, ◌++◌, length, get_or}
use Rattle.isa.specs.Sizes.{memory_words, register_count, text_width}
use Rattle.encoding.specs.Bytes.{big_endian, each_from}
use Rattle.isa.specs.Text.{padded, text, text_of}
use Rattle.disasm.specs.Disassembly.{disassemble_text}
use Rattle.control.specs.declared.control.State.{State}
use Rattle.control.specs.declared.counters.Counters.{Counters}
use Rattle.control.specs.Codes.{fault_bytes}
use Rattle.trace.specs.declared.records.TraceRecord.{TraceRecord}
use Rattle.vm.specs.Machine.{Machine}
use Rattle.vm.specs.Calls.{image_words}
use Rattle.marks.specs.Owners.{hidden_from}
use Rattle.marks.specs.Marks.{Marks, shown}
use Rattle.marks.specs.Total.{hidden_count}
use Rattle.vm.specs.Guard.{GuardedEnd, guarded_of}
use Rattle.guard.specs.Input.{Input}
use Rattle.guard.specs.Stops.{stop_number}
use Rattle.control.specs.Address.{address_width}
use Rattle.secret.specs.Widths.{count_width, number_width, index_width, value_width}

-- an address of memory that LOAD and STORE reach, in kinds 02, 06 and 07 and as MAR
abbrev pub address_bytes : ℕ → List ℕ
address_bytes = big_endian address_width

-- a register's index, in kind 05
abbrev pub index_bytes : ℕ → List ℕ
index_bytes = big_endian index_width

-- kind 09, the head: image length, budget, breakpoint count, clearance
unfoldable pub head_record : ℕ → ℕ → ℕ → ℕ → List ℕ
head_record len budget count clearance = 9 ∷ (big_endian count_width len ++ (big_endian number_width budget ++ (big_endian count_width count ++ (clearance ∷ []))))

-- of an input
abbrev pub head_of : Input → List ℕ
head_of i = head_record (length i.image) i.budget (length i.breaks) i.clearance

module _ (hid : ℕ → Bool) where
  -- the disassembly in 32 bytes, zero padded, all zero if hidden: mark, word
  unfoldable pub shown_text : ℕ → ℕ → List ℕ
  shown_text m w = padded text_width (cond (hid m) [] (disassemble_text w))

  -- kind, the bytes of an index, mark, value
  unfoldable pub value_record : ℕ → List ℕ → ℕ → ℕ → List ℕ
  value_record kind index m v = kind ∷ (index ++ (m ∷ big_endian value_width (shown hid m v)))

  -- kind 02, a starting word: address, mark, value, disassembly
  unfoldable pub start_record : ℕ → ℕ → ℕ → List ℕ
  start_record a m w = value_record 2 (address_bytes a) m w ++ shown_text m w

  -- one for each word of memory: the words, their marks
  unfoldable pub start_records : List ℕ → List ℕ → List ℕ
  start_records words marks = each_from (λ a. start_record a (get_or marks a 0) (get_or words a 0)) 0 memory_words

-- kind 03, a breakpoint
abbrev pub break_record : ℕ → List ℕ
break_record b = 3 ∷ b ∷ []

-- kind 07, a touched address
abbrev pub touched_record : ℕ → List ℕ
touched_record a = 7 ∷ address_bytes a

-- one for each of a list, in its order: breakpoints as given, repeats kept; touched addresses in order of first writing
unfoldable pub each_record : (ℕ → List ℕ) → List ℕ → List ℕ
each_record f l = each_from (λ i. f (get_or l i 0)) 0 (length l)

-- number, address, phase, a text's 32 bytes
unfoldable pub trace_bytes : ℕ → ℕ → ℕ → List ℕ → List ℕ
trace_bytes number address phase bytes = 4 ∷ (big_endian number_width number ++ (address ∷ phase ∷ bytes))

-- kind 04, a trace record: the text is zero padded
unfoldable pub trace_record : TraceRecord → List ℕ
trace_record r = trace_bytes r.number r.address r.phase (padded text_width (text_of r.text))

-- what stands for one past the end
abbrev pub no_record : TraceRecord
no_record = record { number = 0; address = 0; phase = 0; text = text [] }

-- the oldest first
unfoldable pub trace_records : List TraceRecord → List ℕ
trace_records trace = each_from (λ i. trace_record (get_or trace i no_record)) 0 (length trace)

-- kinds 05 and 06, registers by index and final words by address: kind, an index's bytes, how many, the values, their marks
unfoldable pub value_records : (ℕ → Bool) → ℕ → (ℕ → List ℕ) → ℕ → List ℕ → List ℕ → List ℕ
value_records hid kind bytes n values marks = each_from (λ i. value_record hid kind (bytes i) (get_or marks i 0) (get_or values i 0)) 0 n

-- the four counts: instructions, micro operations, bus reads, bus writes
unfoldable pub count_bytes : Counters → List ℕ
count_bytes k =
    big_endian number_width k.instructions
    ++ (big_endian number_width k.micro_operations ++ (big_endian number_width k.bus_reads ++ big_endian number_width k.bus_writes))

-- the registers of the control unit: PC, IR, MAR, MDR's mark, MDR as it is shown
unfoldable pub control_bytes : ℕ → ℕ → ℕ → ℕ → ℕ → List ℕ
control_bytes pc ir mar mark mdr = pc ∷ (big_endian value_width ir ++ (address_bytes mar ++ (mark ∷ big_endian value_width mdr)))

-- kind 0A, how many words are hidden from the reader
unfoldable pub hidden_record : ℕ → List ℕ
hidden_record n = 0x0A ∷ big_endian count_width n

module _ (hid : ℕ → Bool) where
  -- kind 08, the end: stop, registers of the control unit, counts, fault
  unfoldable pub end_record : ℕ → State → Counters → ℕ → List ℕ
  end_record stop s k mark =
      let c = s.control in
      8 ∷ stop ∷ (control_bytes c.pc c.ir c.mar mark (shown hid mark c.mdr) ++ (count_bytes k ++ fault_bytes s.fault))

  -- how the run ended, kinds 04 to 08 and 0A: the stop's number, machine, marks, of which those of memory are counted
  unfoldable pub end_records : ℕ → Machine → Marks → List ℕ
  end_records stop m k =
      trace_records m.trace
      ++ (value_records hid 5 index_bytes register_count m.registers k.registers
      ++ (value_records hid 6 address_bytes memory_words m.memory k.memory
      ++ (each_record touched_record m.touched
      ++ (end_record stop m.state m.counters k.mdr ++ hidden_record (hidden_count hid k.memory)))))

  unfoldable pub end_bytes : GuardedEnd → List ℕ
  end_bytes e = end_records (stop_number e.stop) e.guarded.machine e.guarded.marks

-- all the records in their order: the input, how its run ended
unfoldable pub report_on : Input → GuardedEnd → List ℕ
report_on i e =
    let hid = hidden_from i.clearance in
    head_of i ++ (start_records hid (image_words i.image) i.marks ++ (each_record break_record i.breaks ++ end_bytes hid e))

unfoldable pub report_bytes : Input → List ℕ
report_bytes i = report_on i (guarded_of i)

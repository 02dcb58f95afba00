-- Worked examples (01, section 9, 1* to 13*; 02, Changes 2, 6 and 7). Each row has the number of the example or of the change, a machine and the number of ticks that
-- it makes, or the input of a guarded run, and what is then seen. One theorem says that the definitions give each row.
-- Assumes nothing.
use Rattle.std.specs.Prelude.{ℕ, zero, suc, ◌-◌, Bool, true, false, ◌≡◌, refl, List, [], ◌∷◌, ◌++◌, map, length, get_or, replicate, Option, Some, None}
use Prim.Native.String.{String}
use Rattle.isa.specs.Sizes.{memory_words, register_count}
use Rattle.isa.specs.Text.{Text}
use Rattle.isa.specs.Text.{ascii, text}
use Rattle.isa.specs.Opcode.{digits, decode_nibble}
use Rattle.isa.specs.Format.{fill}
use Rattle.plan.specs.Plan.{fetch_text, load_text, store_text, execute_text, tick_template, tick_text}
use Rattle.control.specs.declared.control.Fault.{Fault}
use Rattle.control.specs.declared.control.Fault.TheVariants.{UnknownInstruction}
use Rattle.control.specs.declared.control.State.{State}
use Rattle.control.specs.Control.{with_pc, with_control}
use Rattle.control.specs.Count.{count_tick}
use Rattle.tick.specs.Tick.{decode_tick, right16, left16, execute_tick, tick_of}
use Rattle.encoding.specs.Bytes.{member}
use Rattle.marks.specs.Owners.{hidden_from}
use Rattle.marks.specs.Marks.{instruction_marks}
use Rattle.marks.specs.Total.{hidden_count}
use Rattle.guard.specs.Stops.{stop_number}
use Rattle.guard.specs.Input.{Input}
use Rattle.trace.specs.declared.records.TraceRecord.{TraceRecord}
use Rattle.trace.specs.Trace.{pushed, slots, live_trace, take_last}
use Rattle.vm.specs.Machine.{Machine, next_text, micro_step}
use Rattle.vm.specs.Instruction.{ticked, steps, step_instruction}
use Rattle.trace.specs.Touched.{noted}
use Rattle.vm.specs.Calls.{view_of, restarted, image_words}
use Rattle.vm.specs.Guard.{guarded_start, guarded_run, guarded_of}
use Rattle.vm.specs.Total.{Counted, counted, counted_step}

-- a state that goes on at an address
abbrev pub going_on : ℕ → State → State
going_on p s = with_control (with_pc p s.control) s

-- a new machine with an image, with words in its first registers, at an address
unfoldable pub machine_with : List ℕ → List ℕ → ℕ → Machine
machine_with image words p =
    let m = view_of (restarted (image_words image) (length image) 0) in
    record {
      state = going_on p m.state;
      counters = m.counters;
      memory = m.memory;
      registers = words ++ replicate (register_count - length words) 0;
      trace = m.trace;
      touched = m.touched;
    }

unfoldable pub micro_steps : ℕ → Machine → Machine
micro_steps zero m = m
micro_steps (suc n) m = micro_steps n (micro_step m)

-- image, registers, PC and ticks; or a guarded run
pub data Given : Type 0 where
  ticks : List ℕ → List ℕ → ℕ → ℕ → Given
  guarded : Input → Given

-- of a guarded run the number of the stop, the marks of R1 and of words 11 and 12, and the totals of hidden words that it carries, at the start and after
-- each instruction; the newest text of the trace, R1, PC, the four counts, halted, the fault
pub record Seen : Type 0 where
  pub stop : List ℕ
  pub marks : List ℕ
  pub totals : List ℕ
  pub texts : List Text
  pub r1 : ℕ
  pub pc : ℕ
  pub instructions : ℕ
  pub operations : ℕ
  pub reads : ℕ
  pub writes : ℕ
  pub halted : Bool
  pub fault : Option Fault

abbrev pub seen_of : List ℕ → List ℕ → List ℕ → Machine → Seen
seen_of s k t m = record {
  stop = s;
  marks = k;
  totals = t;
  texts = map (λ (r : TraceRecord). r.text) (take_last 1 m.trace);
  r1 = get_or m.registers 1 0;
  pc = m.state.control.pc;
  instructions = m.counters.instructions;
  operations = m.counters.micro_operations;
  reads = m.counters.bus_reads;
  writes = m.counters.bus_writes;
  halted = m.state.control.halted;
  fault = m.state.fault;
}

-- which marks hide; now, and after each of n instructions
unfoldable pub totals_in : (ℕ → Bool) → ℕ → Counted → List ℕ
totals_in hid zero c = c.total ∷ []
totals_in hid (suc n) c = c.total ∷ totals_in hid n (counted_step hid c)

unfoldable pub seen : Given → Seen
seen (ticks image words p n) = seen_of [] [] [] (micro_steps n (machine_with image words p))
seen (guarded i) =
    let e = guarded_of i in
    let k = e.guarded.marks in
    let hid = hidden_from i.clearance in
    seen_of (stop_number e.stop ∷ []) (get_or k.registers 1 0 ∷ get_or k.memory 0x11 0 ∷ get_or k.memory 0x12 0 ∷ [])
    (totals_in hid e.executed (counted hid (guarded_start i.image i.marks))) e.guarded.machine

-- document 01's example, or document 02's change, of that number
pub data Source : Type 0 where
  example : ℕ → Source
  change : ℕ → Source

pub record Row : Type 0 where
  pub source : Source
  pub given : Given
  pub answer : Seen

-- the example; image, registers, PC, ticks; text, R1, PC, instructions, halted, fault. All of them fetch once and write nothing
abbrev pub row : ℕ → List ℕ → List ℕ → ℕ → ℕ → String → ℕ → ℕ → ℕ → Bool → Option Fault → Row
row e image words p n x v q k h f = record {
  source = example e;
  given = ticks image words p n;
  answer = record {
    stop = [];
    marks = [];
    totals = [];
    texts = text (ascii x) ∷ [];
    r1 = v;
    pc = q;
    instructions = k;
    operations = n;
    reads = 1;
    writes = 0;
    halted = h;
    fault = f;
  };
}

-- a program, and in word 10 a value. That word is marked: it has owner byte 01, and the clearance is 00
abbrev pub hiding : List ℕ → ℕ → Input
hiding program value = record {
  image = program ++ (replicate (0x10 - length program) 0 ++ (value ∷ []));
  marks = replicate 0x10 0 ++ (1 ∷ replicate (memory_words - 0x11) 0);
  budget = 9;
  breaks = [];
  clearance = 0;
}

-- the source; the input of a guarded run; the stop, the marks of R1 and of words 11 and 12, the totals, text, R1, PC, instructions, ticks, reads, writes, halted, fault
abbrev pub guarded_row : Source → Input → ℕ → List ℕ → List ℕ → String → ℕ → ℕ → ℕ → ℕ → ℕ → ℕ → Bool → Option Fault → Row
guarded_row e i s g t x v q k n a b h f = record {
  source = e;
  given = guarded i;
  answer = record {
    stop = s ∷ [];
    marks = g;
    totals = t;
    texts = text (ascii x) ∷ [];
    r1 = v;
    pc = q;
    instructions = k;
    operations = n;
    reads = a;
    writes = b;
    halted = h;
    fault = f;
  };
}

-- 10*: a breakpoint before the first instruction
abbrev pub breaking : Input
breaking = record { image = 0xE000 ∷ []; marks = replicate memory_words 0; budget = 1; breaks = 0 ∷ []; clearance = 0 }

-- Change 2: R1 from word 10, the word w, a jump on R1, and HALT either way
abbrev pub jumping_behind : ℕ → Input
jumping_behind w = hiding (0x3110 ∷ w ∷ 0xD105 ∷ 0xE000 ∷ 0 ∷ 0xE000 ∷ []) 0x1234

-- the word cleared R1: the jump is taken
abbrev pub cleared : ℕ → Row
cleared w = guarded_row (change 2) (jumping_behind w) 0 (0 ∷ 0 ∷ 0 ∷ []) (replicate 5 1) "PC + 1 -> PC" 0 6 4 21 5 0 true None

-- it did not: stop 5 at the jump, with the word's text and R1
abbrev pub uncleared : ℕ → String → ℕ → Row
uncleared w x v = guarded_row (change 2) (jumping_behind w) 5 (1 ∷ 0 ∷ 0 ∷ []) (replicate 3 1) x v 2 2 12 3 0 false None

-- Change 6: R1 from word 10, and stored at 11 and 12, and at 12 once more; then R1 open, and stored at 10 and 11
abbrev pub storing : Input
storing = hiding (0x3110 ∷ 0x4111 ∷ 0x4112 ∷ 0x4112 ∷ 0x1105 ∷ 0x4110 ∷ 0x4111 ∷ 0xE000 ∷ []) 0x1234

-- Change 7: R1 from word 10 and R2 from word 13, with the owner bytes 05 and 06; their sum is stored at 11 and R2 at 12; then a jump on R1, and HALT: the
-- clearance
abbrev pub joining : ℕ → Input
joining c = record {
  image = (0x3110 ∷ 0x3213 ∷ 0x6112 ∷ 0x4111 ∷ 0x4212 ∷ 0xD106 ∷ 0xE000 ∷ []) ++ (replicate 9 0 ++ (0x1234 ∷ []));
  marks = replicate 0x10 0 ++ (5 ∷ 0 ∷ 0 ∷ 6 ∷ replicate (memory_words - 0x14) 0);
  budget = 9;
  breaks = [];
  clearance = c;
}

-- it covers all three owners, which stay in the marks: the jump is asked, and not taken
abbrev pub covered : ℕ → Row
covered c = guarded_row (change 7) (joining c) 0 (7 ∷ 7 ∷ 6 ∷ []) (replicate 8 0) "PC + 1 -> PC" 0x1234 7 7 42 9 2 true None

-- it does not: stop 5 at the jump, with the totals
abbrev pub uncovered : ℕ → List ℕ → Row
uncovered c t = guarded_row (change 7) (joining c) 5 (7 ∷ 7 ∷ 6 ∷ []) t "MDR -> M[MAR]" 0x1234 5 5 33 7 2 false None

-- a HALT whose owner byte is 80
abbrev pub owning : ℕ → Input
owning c = record { image = 0x1105 ∷ 0xE000 ∷ []; marks = 0 ∷ 0x80 ∷ replicate (memory_words - 2) 0; budget = 9; breaks = []; clearance = c }

-- 2* has three rows; 9* has its jump untaken, and then taken
unfoldable pub rows : List Row
rows =
    row 1 (0x6123 ∷ []) (0 ∷ 0 ∷ 0xFFFF ∷ 1 ∷ []) 0 5 "R2 + R3 -> R1" 0 1 1 false None
    ∷ row 2 (0x7010 ∷ []) (0 ∷ 1 ∷ []) 0 5 "~R1 + 1 -> R1" 0xFFFF 1 1 false None
    ∷ row 2 (0x7010 ∷ []) (0 ∷ 0x8000 ∷ []) 0 5 "~R1 + 1 -> R1" 0x8000 1 1 false None
    ∷ row 2 (0x7010 ∷ []) (0 ∷ 0 ∷ []) 0 5 "~R1 + 1 -> R1" 0 1 1 false None
    ∷ row 3 (0x810F ∷ []) (0 ∷ 0xFFFF ∷ []) 0 5 "R1 >> 0F -> R1" 1 1 1 false None
    ∷ row 4 (0x8110 ∷ []) (0 ∷ 0xFFFF ∷ []) 0 5 "R1 >> 10 -> R1" 0 1 1 false None
    ∷ row 5 (0x910F ∷ []) (0 ∷ 0xFFFF ∷ []) 0 5 "R1 << 0F -> R1" 0x8000 1 1 false None
    ∷ row 6 (0xE000 ∷ []) [] 0 4 "PC + 1 -> PC" 0 1 1 true None
    ∷ row 7 (0x5000 ∷ []) [] 0 4 "PC + 1 -> PC" 0 1 0 true (Some (UnknownInstruction 0x5000 0))
    ∷ row 8 (replicate 255 0 ++ (0x1105 ∷ [])) [] 255 4 "PC + 1 -> PC" 0 0 0 false None
    ∷ row 9 (0xD120 ∷ []) (0 ∷ 1 ∷ []) 0 5 "if R1 = R0: 20 -> PC (not taken)" 1 1 1 false None
    ∷ row 9 (0xD120 ∷ []) (7 ∷ 7 ∷ []) 0 5 "if R1 = R0: 20 -> PC" 7 0x20 1 false None
    ∷ guarded_row (example 10) breaking 0 (0 ∷ 0 ∷ 0 ∷ []) (0 ∷ 0 ∷ []) "PC + 1 -> PC" 0 1 1 4 1 0 true None
    ∷ guarded_row (example 11) (hiding (0x3110 ∷ 0x4111 ∷ 0x1105 ∷ 0x4112 ∷ 0xE000 ∷ []) 0x1234) 0 (0 ∷ 1 ∷ 0 ∷ []) (1 ∷ 1 ∷ 2 ∷ 2 ∷ 2 ∷ 2 ∷ []) "PC + 1 -> PC" 5 5 5 30 6 2 true None
    ∷ guarded_row (example 12) (hiding (0x3110 ∷ 0xD105 ∷ []) 0x1234) 5 (1 ∷ 0 ∷ 0 ∷ []) (1 ∷ 1 ∷ []) "MDR -> R1" 0x1234 1 1 7 2 0 false None
    ∷ guarded_row (example 13) (hiding (0x3010 ∷ 0xD005 ∷ []) 0x1234) 2 (0 ∷ 0 ∷ 0 ∷ []) (1 ∷ 1 ∷ 1 ∷ 1 ∷ []) "PC + 1 -> PC" 0 6 2 16 4 0 true (Some (UnknownInstruction 0 5))
    ∷ cleared 0xC111
    ∷ cleared 0xC122
    ∷ uncleared 0xC112 "R1 XOR R2 -> R1" 0x1234
    ∷ uncleared 0xA111 "R1 AND R1 -> R1" 0x1234
    ∷ cleared 0x8110
    ∷ uncleared 0x810F "R1 >> 0F -> R1" 0
    ∷ cleared 0x9110
    ∷ uncleared 0x910F "R1 << 0F -> R1" 0
    ∷ guarded_row (change 6) storing 0 (0 ∷ 0 ∷ 1 ∷ []) (1 ∷ 1 ∷ 2 ∷ 3 ∷ 3 ∷ 3 ∷ 2 ∷ 1 ∷ 1 ∷ []) "PC + 1 -> PC" 5 8 8 51 9 5 true None
    ∷ covered 7
    ∷ covered 0xFF
    ∷ uncovered 6 (1 ∷ 1 ∷ 1 ∷ 1 ∷ 2 ∷ 2 ∷ [])
    ∷ uncovered 5 (1 ∷ 1 ∷ 1 ∷ 1 ∷ 2 ∷ 3 ∷ [])
    ∷ uncovered 0 (2 ∷ 2 ∷ 2 ∷ 2 ∷ 3 ∷ 4 ∷ [])
    ∷ guarded_row (change 7) (owning 0x80) 0 (0 ∷ 0 ∷ 0 ∷ []) (replicate 3 0) "PC + 1 -> PC" 5 2 2 9 2 0 true None
    ∷ guarded_row (change 7) (owning 0x7F) 4 (0 ∷ 0 ∷ 0 ∷ []) (replicate 2 1) "05 -> R1" 5 1 1 5 1 0 false None
    ∷ []

pub rows_hold : map (λ (r : Row). seen r.given) rows ≡ map (λ (r : Row). r.answer) rows
unfolding rows seen totals_in hidden_count micro_steps machine_with restarted image_words live_trace slots pushed micro_step next_text count_tick tick_of decode_tick execute_tick right16 left16 tick_text tick_template execute_text fetch_text decode_nibble digits fill guarded_of guarded_run guarded_start step_instruction steps ticked instruction_marks noted member load_text store_text
rows_hold = refl

-- Whole instructions without their records (02, Change 11): what the next instruction reads of a running machine that stands between two.
-- Assumes nothing.
use Rattle.std.specs.Prelude.{◌≡◌, ℕ, zero, suc, ◌+◌, ◌%◌, ◌^◌, ◌<◌, Bool, false, List, [], ◌++◌, ◌==◌, slice_index, Option}
use Rattle.isa.specs.declared.opcode.Opcode.{Opcode}
use Rattle.isa.specs.Word.{decode_word, digit_x}
use Rattle.plan.specs.Plan.{execute_ticks_of}
use Rattle.control.specs.declared.control.Fault.{Fault}
use Rattle.control.specs.declared.control.AluRecord.{AluRecord}
use Rattle.control.specs.declared.counters.Counters.{Counters}
use Rattle.control.specs.Count.{over_counted}
use Rattle.marks.specs.Marks.{Marks, instruction_marks}
use Rattle.guard.specs.Stops.{reached, hidden_jump}
use Rattle.trace.specs.declared.records.TraceRecord.{TraceRecord}
use Rattle.trace.specs.Lines.{lines}
use Rattle.trace.specs.Touched.{touched_by}
use Rattle.trace.specs.Cells.{registers_after, memory_after}
use Rattle.direct.specs.declared.work.Work.{Work}
use Rattle.direct.specs.Work.{operands, worked, fault_by, halts, count_whole}

-- all else of the state an instruction sets anew, and the trace it only adds to
pub record Light : Type 0 where
  pub pc : ℕ
  pub fault : Option Fault
  pub alu : Option AluRecord
  pub counters : Counters
  pub memory : List ℕ
  pub registers : List ℕ
  pub touched : List ℕ

-- the word that is fetched
abbrev pub word_at : Light → ℕ
word_at l = slice_index l.memory l.pc

abbrev pub work_of : Option Opcode → ℕ → Light → Work
work_of d w l = worked d w ((l.pc + 1) % 2 ^ 8) l.alu (operands w l.memory l.registers)

-- after the word w, decoded, and its work
abbrev pub light_by : Option Opcode → ℕ → Light → Work → Light
light_by d w l k = record {
  pc = k.pc;
  fault = fault_by d w l.pc l.fault;
  alu = k.alu;
  counters = count_whole d k.bus l.counters;
  memory = memory_after k.bus l.memory;
  registers = registers_after k.write l.registers;
  touched = touched_by k.bus l.touched;
}

unfoldable pub light_step : Light → Light
light_step l = let w = word_at l in let d = decode_word w in light_by d w l (work_of d w l)

unfoldable pub light_steps : ℕ → Light → Light
light_steps zero l = l
light_steps (suc k) l = light_step (light_steps k l)

-- ---- the records

-- whether Rx = R0, which the text of a jump tells
abbrev pub taken_by : ℕ → List ℕ → Bool
taken_by w r = slice_index r (digit_x w) == slice_index r 0

-- of the next instruction
unfoldable pub records_of : Light → List TraceRecord
records_of l = let w = word_at l in lines (4 + execute_ticks_of (decode_word w)) 0 l.counters.micro_operations l.pc (taken_by w l.registers) w

-- of k instructions
unfoldable pub records_in : ℕ → Light → List TraceRecord
records_in zero l = []
records_in (suc k) l = records_in k l ++ records_of (light_steps k l)

-- ---- the marks beside a light machine

unfoldable pub marks_steps : ℕ → Light → Marks → Marks
marks_steps zero l q = q
marks_steps (suc k) l q = instruction_marks (word_at (light_steps k l)) (marks_steps k l q)

-- all that a run and a guarded run test before an instruction, but for their budgets, and that the instruction does not halt: breakpoints, instructions begun
pub record Fast (hid : ℕ → Bool) (b : List ℕ) (k : ℕ) (l : Light) (q : Marks) : Type 0 where
  pub unbroken : reached b k l.pc ≡ false
  pub counted : over_counted l.counters ≡ false
  pub word : hid (slice_index q.memory l.pc) ≡ false
  pub jump : hidden_jump hid (word_at l) q.registers ≡ false
  pub lasts : halts (decode_word (word_at l)) ≡ false

-- so before each of j
abbrev pub FastFor : (ℕ → Bool) → List ℕ → ℕ → ℕ → Light → Marks → Type 0
FastFor hid b k j l q = (i : ℕ) → i < j → Fast hid b (k + i) (light_steps i l) (marks_steps i l q)

-- The code's loop over instructions without records (02, Change 11): what is small by value, the arrays lent, marks beside the words. A reader need not
-- believe it: `proofs/Stretches.antt` shows that it stands where `light_steps` and `marks_steps` of `Light` lead.
-- Assumes nothing.
use Rattle.std.specs.Prelude.{ℕ, zero, suc, ◌+◌, ◌-◌, ◌*◌, ◌/◌, ◌%◌, ◌^◌, Bool, true, false, cond, ◌&&◌, List, take, ◌==◌, nat_le, slice_index, None, Option, Some}
use Rattle.std.specs.Option.{option_map_or}
use Rattle.isa.specs.declared.opcode.Opcode.{Opcode}
use Rattle.isa.specs.declared.opcode.Opcode.TheVariants.{Halt}
use Rattle.isa.specs.Word.{decode_word}
use Rattle.control.specs.declared.control.Fault.{Fault}
use Rattle.marks.specs.Marks.{Marks, marks_of, executed_marks}
use Rattle.marks.specs.Forms.{total_by}
use Rattle.control.specs.declared.counters.Counters.{Counters}
use Rattle.control.specs.Count.{counter_limit}
use Rattle.guard.specs.Stops.{hidden_jump}
use Rattle.guard.specs.Forms.{passes}
use Rattle.trace.specs.Cells.{memory_after}
use Rattle.trace.specs.Forms.{Lent, registers_by}
use Rattle.direct.specs.declared.work.Work.{Work}
use Rattle.direct.specs.declared.light.Lane.{Lane}
use Rattle.direct.specs.declared.light.Made.{Made}
use Rattle.direct.specs.Work.{operands, worked, count_whole}
use Rattle.direct.specs.Light.{Light}
use Rattle.direct.specs.Table.{Noted, noted_of, table_of, touch_seen}

-- what is small, memory, registers, the touched addresses with their table, the marks of words and registers
pub record Slots : Type 0 where
  pub lane : Lane
  pub memory : List ℕ
  pub registers : List ℕ
  pub touched : List ℕ
  pub seen : List ℕ
  pub marks : List ℕ
  pub register_marks : List ℕ

abbrev pub slots_of : Lane → List ℕ → List ℕ → List ℕ → List ℕ → List ℕ → List ℕ → Slots
slots_of s m r t n x y = record { lane = s; memory = m; registers = r; touched = t; seen = n; marks = x; register_marks = y }

-- the slots that came to a call, and those that it leaves
abbrev pub came : Lane → Lent → Lent → Lent → Lent → Lent → Lent → Slots
came s m r t n x y = slots_of s m.entry.now r.entry.now t.entry.now n.entry.now x.entry.now y.entry.now

abbrev pub left : Lane → Lent → Lent → Lent → Lent → Lent → Lent → Slots
left s m r t n x y = slots_of s m.exit.now r.exit.now t.exit.now n.exit.now x.exit.now y.exit.now

-- ---- one instruction

-- after the work k of a word, with the addresses n noted, the marks q and the total t
abbrev pub slots_by : Option Opcode → Slots → Work → Noted → Marks → ℕ → Slots
slots_by d s k n q t = record {
  lane = record { counters = count_whole d k.bus s.lane.counters; touched_len = n.places.count; alu = k.alu; hidden_total = t; pc = k.pc };
  memory = memory_after k.bus s.memory;
  registers = registers_by k.write s.registers;
  touched = n.places.items;
  seen = n.seen;
  marks = q.memory;
  register_marks = q.registers;
}

-- the word w, decoded; `hid` says which marks hide a value, from here on
unfoldable pub slot_step : (ℕ → Bool) → Option Opcode → ℕ → Slots → Slots
slot_step hid d w s =
    let k = worked d w ((s.lane.pc + 1) % 2 ^ 8) s.lane.alu (operands w s.memory s.registers) in
    slots_by d s k (touch_seen k.bus (noted_of s.lane.touched_len s.touched s.seen)) (executed_marks d w (marks_of s.marks s.register_marks 0))
    (total_by hid d w s.marks s.register_marks s.lane.hidden_total)

-- the same by the opcode; HALT, which never passes, moves nothing
abbrev pub slot_next : (ℕ → Bool) → Opcode → ℕ → Slots → Slots
slot_next hid Halt w s = s
slot_next hid o w s = slot_step hid (Some o) w s

-- ---- a stretch of them

-- what a word decodes to where the run goes on behind it: HALT ends a run, as a word without an opcode does
abbrev pub lasting_of : Option Opcode → Option Opcode
lasting_of (Some Halt) = None
lasting_of d = d

-- how many were made, and the slots after them
pub record Stretch : Type 0 where
  pub made : ℕ
  pub slots : Slots

abbrev pub stretched : ℕ → Slots → Stretch
stretched k s = record { made = k; slots = s }

-- the second value where the test holds; it waits to be asked for
abbrev pub only_if : {A : Type 0} → Bool → A → (Unit {0} → A) → A
only_if false a f = a
only_if true a f = f tt

abbrev pub slot_word : Slots → ℕ
slot_word s = slice_index s.memory s.lane.pc

-- the opcode of the next one, where it passes, is no hidden jump, and the run goes on behind it: the table of breakpoints at its address, its mark,
-- the word, the marks of the registers
abbrev pub next_opcode : (ℕ → Bool) → ℕ → ℕ → ℕ → List ℕ → Option Opcode
next_opcode hid b m w r = cond (passes hid true b m) (cond (hidden_jump hid w r) None (lasting_of (decode_word w))) None

abbrev pub opcode_at : (ℕ → Bool) → List ℕ → Slots → Option Opcode
opcode_at hid b s = let pc = s.lane.pc in next_opcode hid (slice_index b pc) (slice_index s.marks pc) (slot_word s) s.register_marks

-- as long as there is one, at most n more where k were made
unfoldable pub stretch : (ℕ → Bool) → List ℕ → ℕ → ℕ → Slots → Stretch
stretch hid b zero k s = stretched k s
stretch hid b (suc n) k s = option_map_or (λ o. stretch hid b n (k + 1) (slot_next hid o (slot_word s) s)) (opcode_at hid b s) (stretched k s)

-- ---- stretch after stretch, each made whole: what is kept stays one behind

abbrev pub stretch_length : ℕ
stretch_length = 256

-- no counter is near its end before any instruction of a stretch, none of which counts more than 7
abbrev pub roomy : ℕ → Bool
roomy n = nat_le n (counter_limit - 7 * stretch_length)

-- how long the next stretch may be: none where a counter comes near its end in it
abbrev pub length_for : Counters → ℕ
length_for k = cond (roomy k.instructions && (roomy k.micro_operations && (roomy k.bus_reads && roomy k.bus_writes))) stretch_length 0

-- what a call leaves: the table of touched addresses is its own
pub record Ahead : Type 0 where
  pub made : ℕ
  pub lane : Lane
  pub memory : List ℕ
  pub registers : List ℕ
  pub touched : List ℕ
  pub marks : List ℕ
  pub register_marks : List ℕ

abbrev pub ahead : ℕ → Slots → Ahead
ahead k s = record {
  made = k;
  lane = s.lane;
  memory = s.memory;
  registers = s.registers;
  touched = s.touched;
  marks = s.marks;
  register_marks = s.register_marks;
}

abbrev pub ahead_of : Made → List ℕ → List ℕ → List ℕ → List ℕ → List ℕ → Ahead
ahead_of r m w t x y = record { made = r.made.0; lane = r.lane; memory = m; registers = w; touched = t; marks = x; register_marks = y }

-- what a call leaves of its arrays
abbrev pub ahead_at_last : Made → Lent → Lent → Lent → Lent → Lent → Ahead
ahead_at_last r m w t x y = ahead_of r m.exit.now w.exit.now t.exit.now x.exit.now y.exit.now

-- at most n stretches more, where k instructions were made: the table of breakpoints
unfoldable pub leads : (ℕ → Bool) → List ℕ → ℕ → Ahead → ℕ → Slots → Ahead
leads hid b zero kept k s = kept
leads hid b (suc n) kept k s =
    let t = stretch hid b (length_for s.lane.counters) 0 s in
    only_if (t.made == stretch_length) kept (λ u. leads hid b n (ahead k s) (k + stretch_length) t.slots)

-- at most n instructions, with these breakpoints
unfoldable pub forward : (ℕ → Bool) → List ℕ → ℕ → Lane → List ℕ → List ℕ → List ℕ → List ℕ → List ℕ → Ahead
forward hid b n s m r t x y =
    let start = slots_of s m r t (table_of (take s.touched_len t)) x y in
    leads hid (table_of b) (n / stretch_length) (ahead 0 start) 0 start

-- the same on the arrays that came to a call
abbrev pub forward_from : (ℕ → Bool) → List ℕ → ℕ → Lane → Lent → Lent → Lent → Lent → Lent → Ahead
forward_from hid b n s m r t x y = forward hid b n s m.entry.now r.entry.now t.entry.now x.entry.now y.entry.now

-- ---- the light machine, with the fault that it has, and its marks

abbrev pub light_in : Option Fault → Slots → Light
light_in f s = record {
  pc = s.lane.pc;
  fault = f;
  alu = s.lane.alu;
  counters = s.lane.counters;
  memory = s.memory;
  registers = s.registers;
  touched = take s.lane.touched_len s.touched;
}

abbrev pub marks_in : Slots → Marks
marks_in s = marks_of s.marks s.register_marks 0

-- A record: one snapshot in 576 bytes (01, section 7). The fields in the Rust's order, numbers high byte first.
-- Assumes nothing.
use Rattle.std.specs.Prelude.{ℕ, ◌+◌, ◌*◌, ◌^◌, ◌<◌, ◌≡◌, Bool, cond, ◌&&◌, List, ◌++◌, eqb, leb, length, drop, get_or, Option, Some, None}
use Rattle.std.specs.Int.{from_bool}
use Rattle.isa.specs.Sizes.{memory_words, register_count}
use Rattle.encoding.specs.Bytes.{big_endian, big_endians, number, numbers}
use Rattle.control.specs.Address.{address_width}
use Rattle.control.specs.Control.{fresh_control, with_pc, with_ir, with_mar, with_mdr, with_address, to_tick, with_execute_ticks, with_halted}
use Rattle.control.specs.Lawful.{lawful}
use Rattle.control.specs.Codes.{fault_code, fault_bytes, fault_of}
use Rattle.control.specs.declared.control.Control.{Control}
use Rattle.control.specs.declared.control.Fault.{Fault}
use Rattle.history.specs.declared.snapshot.Snapshot.{Snapshot}

-- ---- how many bytes a field has

-- PC, instruction address, tick, execute ticks, halted, a fault's kind and address
abbrev pub byte_width : ℕ
byte_width = 1

-- IR, MDR, a register, a fault's word, a word of memory
abbrev pub word_width : ℕ
word_width = 2

-- instructions, micro operations
abbrev pub counter_width : ℕ
counter_width = 8

-- the zero bytes at the end
abbrev pub padding_width : ℕ
padding_width = 2

-- ---- where each begins: behind the one before it

abbrev pub pc_at : ℕ
pc_at = 0

abbrev pub ir_at : ℕ
ir_at = pc_at + byte_width

abbrev pub registers_at : ℕ
registers_at = ir_at + word_width

abbrev pub mar_at : ℕ
mar_at = registers_at + word_width * register_count

abbrev pub mdr_at : ℕ
mdr_at = mar_at + address_width

abbrev pub instruction_address_at : ℕ
instruction_address_at = mdr_at + word_width

abbrev pub tick_at : ℕ
tick_at = instruction_address_at + byte_width

abbrev pub execute_ticks_at : ℕ
execute_ticks_at = tick_at + byte_width

abbrev pub halted_at : ℕ
halted_at = execute_ticks_at + byte_width

-- the fault: its kind, its word, its address
abbrev pub fault_kind_at : ℕ
fault_kind_at = halted_at + byte_width

abbrev pub fault_word_at : ℕ
fault_word_at = fault_kind_at + byte_width

abbrev pub fault_address_at : ℕ
fault_address_at = fault_word_at + word_width

abbrev pub instructions_at : ℕ
instructions_at = fault_address_at + byte_width

abbrev pub micro_operations_at : ℕ
micro_operations_at = instructions_at + counter_width

abbrev pub memory_at : ℕ
memory_at = micro_operations_at + counter_width

abbrev pub padding_at : ℕ
padding_at = memory_at + word_width * memory_words

-- 576
abbrev pub record_length : ℕ
record_length = padding_at + padding_width

-- ---- written

-- from PC on: PC, IR, the registers
unfoldable pub front_bytes : ℕ → ℕ → List ℕ → List ℕ
front_bytes pc ir registers = big_endian byte_width pc ++ (big_endian word_width ir ++ big_endians word_width registers)

-- from MAR on: MAR, MDR, instruction address, tick, execute ticks, halted
unfoldable pub state_bytes : Control → List ℕ
state_bytes c =
    big_endian address_width c.mar
    ++ (big_endian word_width c.mdr
    ++ (big_endian byte_width c.instruction_address
    ++ (big_endian byte_width c.tick
    ++ (big_endian byte_width c.execute_ticks ++ big_endian byte_width (from_bool c.halted)))))

-- from the fault on: its kind, word and address, instructions, micro operations
unfoldable pub count_bytes : Option Fault → ℕ → ℕ → List ℕ
count_bytes f instructions operations = fault_bytes f ++ (big_endian counter_width instructions ++ big_endian counter_width operations)

-- from memory on: memory, two zero bytes
unfoldable pub memory_bytes : List ℕ → List ℕ
memory_bytes memory = big_endians word_width memory ++ big_endian padding_width 0

-- the four one behind the other
unfoldable pub record_bytes : Snapshot → List ℕ
record_bytes s =
    front_bytes s.control.pc s.control.ir s.registers
    ++ (state_bytes s.control
    ++ (count_bytes s.fault s.instructions s.micro_operations ++ memory_bytes s.memory))

-- ---- read

unfoldable pub control_in : List ℕ → Control
control_in l =
    with_pc (number byte_width (drop pc_at l))
    (with_ir (number word_width (drop ir_at l))
    (with_mar (number address_width (drop mar_at l))
    (with_mdr (number word_width (drop mdr_at l))
    (with_address (number byte_width (drop instruction_address_at l))
    (to_tick (number byte_width (drop tick_at l))
    (with_execute_ticks (number byte_width (drop execute_ticks_at l))
    (with_halted (eqb (number byte_width (drop halted_at l)) 1) fresh_control)))))))

unfoldable pub fault_in : List ℕ → Option Fault
fault_in l = fault_of (number byte_width (drop fault_kind_at l)) (number word_width (drop fault_word_at l)) (number byte_width (drop fault_address_at l))

-- the bytes behind memory are not read
unfoldable pub snapshot_in : List ℕ → Snapshot
snapshot_in l = record {
  registers = numbers word_width register_count (drop registers_at l);
  memory = numbers word_width memory_words (drop memory_at l);
  control = control_in l;
  fault = fault_in l;
  instructions = number counter_width (drop instructions_at l);
  micro_operations = number counter_width (drop micro_operations_at l);
}

-- whether the bytes are a record's: a halted byte and a fault's kind that are known, and a tick that is not refused 8
unfoldable pub is_record : List ℕ → Bool
is_record l = leb (number byte_width (drop halted_at l)) 1 && (leb (number byte_width (drop fault_kind_at l)) 2 && lawful (control_in l))

-- the snapshot in the bytes, where they are a record's: what `undo` finds
unfoldable pub record_in : List ℕ → Option Snapshot
record_in l = cond (is_record l) (Some (snapshot_in l)) None

-- ---- the snapshots that come back

-- the numbers fit their fields, as those of every value of the type do
pub record Fits (s : Snapshot) : Type 0 where
  pub pc : s.control.pc < 256
  pub ir : s.control.ir < 65536
  pub sixteen : length s.registers ≡ register_count
  pub registers : (i : ℕ) → get_or s.registers i 0 < 65536
  pub mar : s.control.mar < 256 ^ address_width
  pub mdr : s.control.mdr < 65536
  pub address : s.control.instruction_address < 256
  pub tick : s.control.tick < 256
  pub ticks : s.control.execute_ticks < 256
  pub fault-word : (fault_code s.fault).word < 65536
  pub fault-address : (fault_code s.fault).address < 256
  pub instructions : s.instructions < 2 ^ 64
  pub operations : s.micro_operations < 2 ^ 64
  pub many : length s.memory ≡ memory_words
  pub memory : (i : ℕ) → get_or s.memory i 0 < 65536

-- and `undo` takes it: its tick is not refused 8
abbrev pub is_good : Snapshot → Bool
is_good s = lawful s.control

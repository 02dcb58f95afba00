-- One tick on small values (01, section 3; vm.rs, `micro_step`): the state after it, and what it does to the arrays.
-- Assumes nothing.
use Rattle.std.specs.Prelude.{ℕ, zero, suc, ◌+◌, ◌-◌, ◌*◌, ◌/◌, ◌%◌, ◌^◌, Bool, true, false, cond, ◌==◌, bit_and, bit_or, bit_xor, nat_le, nat_lt, None, Option, Some, unwrap_or}
use Rattle.isa.specs.declared.opcode.Opcode.{Opcode}
use Rattle.isa.specs.declared.opcode.Opcode.TheVariants.{LoadImmediate, LoadRegister, LoadMemory, StoreMemory, Add, Negate, ShiftRight, ShiftLeft, And, Or, Xor, Jump, Halt}
use Rattle.isa.specs.Word.{decode_word, digit_x, digit_y, byte_yz}
use Rattle.plan.specs.Plan.{execute_ticks_of}
use Rattle.control.specs.declared.control.Fault.TheVariants.{UnknownInstruction}
use Rattle.control.specs.declared.control.BusTransfer.TheVariants.{Read, Write}
use Rattle.control.specs.declared.control.AluOperation.{AluOperation}
use Rattle.control.specs.declared.control.AluOperation.TheVariants.{Add as ADD, Negate as NEGATE, Shr as SHR, Shl as SHL, And as AND, Or as OR, Xor as XOR}
use Rattle.control.specs.declared.control.AluRecord.{AluRecord}
use Rattle.control.specs.declared.control.Control.{Control}
use Rattle.control.specs.declared.control.State.{State}
use Rattle.control.specs.declared.control.Operands.{Operands}
use Rattle.control.specs.declared.control.Tick.{Tick}
use Rattle.control.specs.Address.{reached_address}
use Rattle.control.specs.Control.{with_pc, with_ir, with_mar, with_mdr, with_address, to_tick, with_execute_ticks, with_halted, with_control, with_fault, with_transfer, with_alu}

-- a tick that reaches no array, and one that writes a register
abbrev pub plain : State → Tick
plain s = record { state = s; bus = None; write = None; completed = false }

abbrev pub writing : State → ℕ → ℕ → Tick
writing s r v = record { state = s; bus = None; write = Some (record { register = r; value = v }); completed = false }

-- ---- the fetch ticks

abbrev pub fetch_address : State → Tick
fetch_address s = let c = s.control in plain (with_control (to_tick 1 (with_mar c.pc (with_address c.pc c))) s)

-- a bus read of the value v to MDR, and the tick that follows
abbrev pub read_word : State → ℕ → ℕ → Tick
read_word s v t =
    let c = s.control in
    record {
      state = with_transfer (Some (Read c.mar v)) (with_control (to_tick t (with_mdr v c)) s);
      bus = Some (Read c.mar v);
      write = None;
      completed = false;
    }

abbrev pub fetch_instruction : State → Tick
fetch_instruction s = let c = s.control in plain (with_control (to_tick 3 (with_ir c.mdr c)) s)

-- the fourth tick: PC + 1, 255 going to 0, and the execute ticks of the word
abbrev pub next_pc : ℕ → Control → Control
next_pc n c = with_pc ((c.pc + 1) % 2 ^ 8) (with_execute_ticks n c)

abbrev pub stopped : Control → Control
stopped c = to_tick 0 (with_halted true c)

-- a word without an opcode ends its instruction there: halted, with a fault, and it does not count
abbrev pub faulted_tick : State → Control → Tick
faulted_tick s c = plain (with_fault (Some (UnknownInstruction c.ir c.instruction_address)) (with_control (stopped c) s))

-- HALT ends there too, and counts
abbrev pub halting_tick : State → Control → Tick
halting_tick s c = record { state = with_control (stopped c) s; bus = None; write = None; completed = true }

abbrev pub is_halt : Opcode → Bool
is_halt Halt = true
is_halt _ = false

abbrev pub decode_to : Option Opcode → State → Control → Tick
decode_to (Some o) s c = cond (is_halt o) (halting_tick s c) (plain (with_control (to_tick 4 c) s))
decode_to None s c = faulted_tick s c

abbrev pub decode_as : Option Opcode → State → Tick
decode_as d s = decode_to d s (next_pc (execute_ticks_of d) s.control)

unfoldable pub decode_tick : State → Tick
decode_tick s = decode_as (decode_word s.control.ir) s

abbrev pub fetch_tick : ℕ → State → ℕ → Tick
fetch_tick zero s v = fetch_address s
fetch_tick (suc zero) s v = read_word s v 2
fetch_tick (suc (suc zero)) s v = fetch_instruction s
fetch_tick (suc (suc (suc n))) s v = decode_tick s

-- ---- the execute ticks

abbrev pub to_mar_tick : State → Tick
to_mar_tick s = let c = s.control in plain (with_control (with_mar (reached_address c.ir) c) s)

abbrev pub load_tick : ℕ → State → ℕ → Tick
load_tick zero s v = to_mar_tick s
load_tick (suc zero) s v = read_word s v s.control.tick
load_tick (suc (suc n)) s v = writing s (digit_x s.control.ir) s.control.mdr

abbrev pub to_mdr_tick : State → ℕ → Tick
to_mdr_tick s v = let c = s.control in plain (with_control (with_mdr v c) s)

abbrev pub write_word : State → Tick
write_word s =
    let c = s.control in
    record {
      state = with_transfer (Some (Write c.mar c.mdr)) s;
      bus = Some (Write c.mar c.mdr);
      write = None;
      completed = false;
    }

abbrev pub store_tick : ℕ → State → ℕ → Tick
store_tick zero s v = to_mar_tick s
store_tick (suc zero) s v = to_mdr_tick s v
store_tick (suc (suc n)) s v = write_word s

-- JUMP: yz to PC if Rx = R0
abbrev pub jump_tick : State → ℕ → ℕ → Tick
jump_tick s x z = let c = s.control in plain (with_control (with_pc (cond (x == z) (byte_yz c.ir) c.pc) c) s)

-- ADD and NEGATE wrap at 65,536
abbrev pub sum16 : ℕ → ℕ → ℕ
sum16 a b = (a + b) % 2 ^ 16

abbrev pub negate16 : ℕ → ℕ
negate16 a = (65535 - a + 1) % 2 ^ 16

-- shift counts of 16 or more give 0
unfoldable pub right16 : ℕ → ℕ → ℕ
right16 n a = cond (nat_lt n 16) (a / 2 ^ n) 0

unfoldable pub left16 : ℕ → ℕ → ℕ
left16 n a = cond (nat_lt n 16) (a * 2 ^ n % 2 ^ 16) 0

-- what the ALU makes of its operands; the right one of NEGATE does not matter
abbrev pub alu_result : AluOperation → ℕ → ℕ → ℕ
alu_result ADD a b = sum16 a b
alu_result NEGATE a b = negate16 a
alu_result SHR a b = right16 b a
alu_result SHL a b = left16 b a
alu_result AND a b = bit_and a b
alu_result OR a b = bit_or a b
alu_result XOR a b = bit_xor a b

-- the record of an operation; a right operand that is missing is 0 to the ALU
abbrev pub alu_record : AluOperation → ℕ → Option ℕ → AluRecord
alu_record o left right = record { operation = o; left = left; right = right; result = alu_result o left (unwrap_or right 0) }

-- its result to a register, with the record
abbrev pub alu_tick : State → ℕ → AluOperation → ℕ → Option ℕ → Tick
alu_tick s r o left right = let a = alu_record o left right in writing (with_alu (Some a) s) r a.result

-- execute tick n of what the word in IR decodes to
unfoldable pub execute_tick : Option Opcode → ℕ → State → Operands → Tick
execute_tick (Some LoadImmediate) n s o = writing s (digit_x s.control.ir) (byte_yz s.control.ir)
execute_tick (Some LoadRegister) n s o = writing s (digit_y s.control.ir) o.z
execute_tick (Some LoadMemory) n s o = load_tick n s o.cell
execute_tick (Some StoreMemory) n s o = store_tick n s o.x
execute_tick (Some Add) n s o = alu_tick s (digit_x s.control.ir) ADD o.y (Some o.z)
execute_tick (Some Negate) n s o = alu_tick s (digit_y s.control.ir) NEGATE o.y None
execute_tick (Some ShiftRight) n s o = alu_tick s (digit_x s.control.ir) SHR o.x (Some (byte_yz s.control.ir))
execute_tick (Some ShiftLeft) n s o = alu_tick s (digit_x s.control.ir) SHL o.x (Some (byte_yz s.control.ir))
execute_tick (Some And) n s o = alu_tick s (digit_x s.control.ir) AND o.y (Some o.z)
execute_tick (Some Or) n s o = alu_tick s (digit_x s.control.ir) OR o.y (Some o.z)
execute_tick (Some Xor) n s o = alu_tick s (digit_x s.control.ir) XOR o.y (Some o.z)
execute_tick (Some Jump) n s o = jump_tick s o.x o.zero
execute_tick (Some Halt) n s o = plain s
execute_tick None n s o = plain s

-- after execute tick n: the next one, or the end of the instruction, which counts
abbrev pub ended_tick : Tick → Tick
ended_tick t = record {
  state = with_control (to_tick 0 t.state.control) t.state;
  bus = t.bus;
  write = t.write;
  completed = true;
}

abbrev pub later_tick : Tick → Tick
later_tick t =
    let c = t.state.control in
    record {
      state = with_control (to_tick ((c.tick + 1) % 2 ^ 8) c) t.state;
      bus = t.bus;
      write = t.write;
      completed = false;
    }

abbrev pub onward : ℕ → Tick → Tick
onward n t = cond (nat_le t.state.control.execute_ticks (n + 1)) (ended_tick t) (later_tick t)

-- the tick with that number
unfoldable pub tick_of : ℕ → State → Operands → Tick
tick_of zero s o = fetch_tick 0 s o.cell
tick_of (suc zero) s o = fetch_tick 1 s o.cell
tick_of (suc (suc zero)) s o = fetch_tick 2 s o.cell
tick_of (suc (suc (suc zero))) s o = fetch_tick 3 s o.cell
tick_of (suc (suc (suc (suc n)))) s o = onward n (execute_tick (decode_word s.control.ir) n s o)

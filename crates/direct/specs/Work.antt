-- What a word does once it is fetched, as one change (02, Change 11): PC, the transfer over the bus after the fetch, the register that is written,
-- the ALU's record; and what the whole instruction leaves of the control unit and the counters.
-- Assumes nothing.
use Rattle.std.specs.Prelude.{is_some, ℕ, ◌+◌, Bool, cond, List, ◌==◌, slice_index, None, Option, Some}
use Rattle.isa.specs.declared.opcode.Opcode.{Opcode}
use Rattle.isa.specs.declared.opcode.Opcode.TheVariants.{LoadImmediate, LoadRegister, LoadMemory, StoreMemory, Add, Negate, ShiftRight, ShiftLeft, And, Or, Xor, Jump, Halt}
use Rattle.isa.specs.Word.{digit_x, digit_y, digit_z, byte_yz}
use Rattle.plan.specs.Plan.{execute_ticks_of}
use Rattle.control.specs.declared.control.Fault.{Fault}
use Rattle.control.specs.declared.control.Fault.TheVariants.{UnknownInstruction}
use Rattle.control.specs.declared.control.BusTransfer.{BusTransfer}
use Rattle.control.specs.declared.control.BusTransfer.TheVariants.{Read, Write}
use Rattle.control.specs.declared.control.AluOperation.{AluOperation}
use Rattle.control.specs.declared.control.AluOperation.TheVariants.{Add as ADD, Negate as NEGATE, Shr as SHR, Shl as SHL, And as AND, Or as OR, Xor as XOR}
use Rattle.control.specs.declared.control.AluRecord.{AluRecord}
use Rattle.control.specs.declared.control.Control.{Control}
use Rattle.control.specs.declared.control.State.{State}
use Rattle.control.specs.declared.control.Operands.{Operands}
use Rattle.control.specs.declared.counters.Counters.{Counters}
use Rattle.control.specs.Address.{reached_address}
use Rattle.control.specs.Control.{fresh_control, with_pc, with_ir, with_mar, with_mdr, with_address, with_execute_ticks, with_halted}
use Rattle.control.specs.Count.{one_more, more}
use Rattle.control.specs.Last.{last_bus, last_address, last_value}
use Rattle.tick.specs.Tick.{alu_record}
use Rattle.direct.specs.declared.work.Work.{Work}

-- the words that a word may read: the one that LOAD reaches, and registers x, y, z and 0
abbrev pub operands : ℕ → List ℕ → List ℕ → Operands
operands w m r = record { cell = slice_index m (reached_address w); x = slice_index r (digit_x w); y = slice_index r (digit_y w); z = slice_index r (digit_z w); zero = slice_index r 0 }

-- from the PC after the word, and the ALU's record before it
abbrev pub loads : ℕ → ℕ → ℕ → Option AluRecord → Work
loads p r v a = record { pc = p; bus = None; write = Some (record { register = r; value = v }); alu = a }

abbrev pub computes : ℕ → ℕ → AluOperation → ℕ → Option ℕ → Work
computes p r o left right = let a = alu_record o left right in loads p r a.result (Some a)

abbrev pub rests : ℕ → Option AluRecord → Work
rests p a = record { pc = p; bus = None; write = None; alu = a }

abbrev pub worked : Option Opcode → ℕ → ℕ → Option AluRecord → Operands → Work
worked (Some LoadImmediate) w p a o = loads p (digit_x w) (byte_yz w) a
worked (Some LoadRegister) w p a o = loads p (digit_y w) o.z a
worked (Some LoadMemory) w p a o = record { pc = p; bus = Some (Read (reached_address w) o.cell); write = Some (record { register = digit_x w; value = o.cell }); alu = a }
worked (Some StoreMemory) w p a o = record { pc = p; bus = Some (Write (reached_address w) o.x); write = None; alu = a }
worked (Some Add) w p a o = computes p (digit_x w) ADD o.y (Some o.z)
worked (Some Negate) w p a o = computes p (digit_y w) NEGATE o.y None
worked (Some ShiftRight) w p a o = computes p (digit_x w) SHR o.x (Some (byte_yz w))
worked (Some ShiftLeft) w p a o = computes p (digit_x w) SHL o.x (Some (byte_yz w))
worked (Some And) w p a o = computes p (digit_x w) AND o.y (Some o.z)
worked (Some Or) w p a o = computes p (digit_x w) OR o.y (Some o.z)
worked (Some Xor) w p a o = computes p (digit_x w) XOR o.y (Some o.z)
worked (Some Jump) w p a o = rests (cond (o.x == o.zero) (byte_yz w) p) a
worked (Some Halt) w p a o = rests p a
worked None w p a o = rests p a

-- whether it counts, and whether it halts; a word without an opcode is a fault
abbrev pub counts : Option Opcode → Bool
counts d = is_some d

abbrev pub halts : Option Opcode → Bool
halts d = execute_ticks_of d == 0

abbrev pub fault_by : Option Opcode → ℕ → ℕ → Option Fault → Option Fault
fault_by (Some o) w a f = f
fault_by None w a f = Some (UnknownInstruction w a)

-- the control unit, and all that is not an array or a counter, after the word w at address a
abbrev pub control_by : Option Opcode → ℕ → ℕ → Work → Control
control_by d w a k =
    with_pc k.pc
    (with_ir w
    (with_mar (last_address k.bus a)
    (with_mdr (last_value k.bus w) (with_address a (with_execute_ticks (execute_ticks_of d) (with_halted (halts d) fresh_control))))))

abbrev pub state_by : Option Opcode → ℕ → ℕ → Option Fault → Work → State
state_by d w a f k = record { control = control_by d w a k; fault = fault_by d w a f; last_transfer = last_bus k.bus a w; last_alu = k.alu }

-- how often the bus is read, with the fetch, and written
abbrev pub reads_by : Option BusTransfer → ℕ
reads_by None = 1
reads_by (Some (Read a v)) = 2
reads_by (Some (Write a v)) = 1

abbrev pub writes_by : Option BusTransfer → ℕ
writes_by None = 0
writes_by (Some (Read a v)) = 0
writes_by (Some (Write a v)) = 1

-- four ticks for the fetch, and the execute ticks
abbrev pub count_whole : Option Opcode → Option BusTransfer → Counters → Counters
count_whole d b k = record {
  instructions = cond (counts d) (one_more k.instructions) k.instructions;
  micro_operations = more (4 + execute_ticks_of d) k.micro_operations;
  bus_reads = more (reads_by b) k.bus_reads;
  bus_writes = more (writes_by b) k.bus_writes;
}

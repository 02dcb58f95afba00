-- What an instruction reads and writes (01, sections 2 and 7; disasm.rs). They are ported as they are: the sources name x for LOAD and the shifts.
-- Assumes nothing.
use Rattle.std.specs.Prelude.{ℕ, List, [], ◌∷◌, length, None, Option, Some}
use Rattle.std.specs.Option.{option_or}
use Rattle.isa.specs.declared.opcode.Opcode.{Opcode}
use Rattle.isa.specs.declared.opcode.Opcode.TheVariants.{LoadImmediate, LoadRegister, LoadMemory, StoreMemory, Add, Negate, ShiftRight, ShiftLeft, And, Or, Xor, Jump, Halt}
use Rattle.isa.specs.Text.{padded}
use Rattle.isa.specs.Word.{decode_word, digit_x, digit_y, digit_z, byte_yz}
use Rattle.disasm.specs.declared.operands.Place.{Place}
use Rattle.disasm.specs.declared.operands.Place.TheVariants.{X, Y, Z, Yz, Nowhere}
use Rattle.disasm.specs.declared.operands.RegisterList.{RegisterList}

-- the operand at a place of the word w
abbrev pub operand_at : ℕ → Place → Option ℕ
operand_at w X = Some (digit_x w)
operand_at w Y = Some (digit_y w)
operand_at w Z = Some (digit_z w)
operand_at w Yz = Some (byte_yz w)
operand_at w Nowhere = None

-- the register that an instruction writes
abbrev pub written_place : Option Opcode → Place
written_place (Some LoadImmediate) = X
written_place (Some LoadRegister) = Y
written_place (Some LoadMemory) = X
written_place (Some StoreMemory) = Nowhere
written_place (Some Add) = X
written_place (Some Negate) = Y
written_place (Some ShiftRight) = X
written_place (Some ShiftLeft) = X
written_place (Some And) = X
written_place (Some Or) = X
written_place (Some Xor) = X
written_place (Some Jump) = Nowhere
written_place (Some Halt) = Nowhere
written_place None = Nowhere

-- the register that it reads and does not write
abbrev pub read_place : Option Opcode → Place
read_place (Some LoadImmediate) = Nowhere
read_place (Some LoadRegister) = Nowhere
read_place (Some LoadMemory) = Nowhere
read_place (Some StoreMemory) = X
read_place (Some Add) = Nowhere
read_place (Some Negate) = Nowhere
read_place (Some ShiftRight) = Nowhere
read_place (Some ShiftLeft) = Nowhere
read_place (Some And) = Nowhere
read_place (Some Or) = Nowhere
read_place (Some Xor) = Nowhere
read_place (Some Jump) = X
read_place (Some Halt) = Nowhere
read_place None = Nowhere

-- the memory address that it touches
abbrev pub memory_place : Option Opcode → Place
memory_place (Some LoadImmediate) = Nowhere
memory_place (Some LoadRegister) = Nowhere
memory_place (Some LoadMemory) = Yz
memory_place (Some StoreMemory) = Yz
memory_place (Some Add) = Nowhere
memory_place (Some Negate) = Nowhere
memory_place (Some ShiftRight) = Nowhere
memory_place (Some ShiftLeft) = Nowhere
memory_place (Some And) = Nowhere
memory_place (Some Or) = Nowhere
memory_place (Some Xor) = Nowhere
memory_place (Some Jump) = Nowhere
memory_place (Some Halt) = Nowhere
memory_place None = Nowhere

-- the first register that it reads
abbrev pub first_source : Option Opcode → Place
first_source (Some LoadImmediate) = X
first_source (Some LoadRegister) = Z
first_source (Some LoadMemory) = X
first_source (Some StoreMemory) = X
first_source (Some Add) = Y
first_source (Some Negate) = Y
first_source (Some ShiftRight) = X
first_source (Some ShiftLeft) = X
first_source (Some And) = Y
first_source (Some Or) = Y
first_source (Some Xor) = Y
first_source (Some Jump) = X
first_source (Some Halt) = Nowhere
first_source None = Nowhere

-- the second register that it reads
abbrev pub second_source : Option Opcode → Place
second_source (Some LoadImmediate) = Nowhere
second_source (Some LoadRegister) = Nowhere
second_source (Some LoadMemory) = Nowhere
second_source (Some StoreMemory) = Nowhere
second_source (Some Add) = Z
second_source (Some Negate) = Nowhere
second_source (Some ShiftRight) = Nowhere
second_source (Some ShiftLeft) = Nowhere
second_source (Some And) = Z
second_source (Some Or) = Z
second_source (Some Xor) = Z
second_source (Some Jump) = Nowhere
second_source (Some Halt) = Nowhere
second_source None = Nowhere

unfoldable pub written_register : ℕ → Option ℕ
written_register w = operand_at w (written_place (decode_word w))

unfoldable pub read_register : ℕ → Option ℕ
read_register w = operand_at w (read_place (decode_word w))

-- the written one where there is one, else the read one
unfoldable pub active_register : ℕ → Option ℕ
active_register w = option_or (written_register w) (read_register w)

unfoldable pub memory_operand : ℕ → Option ℕ
memory_operand w = operand_at w (memory_place (decode_word w))

-- the bytes that are there, up to the first that is not
abbrev pub both_of : Option ℕ → Option ℕ → List ℕ
both_of (Some a) (Some b) = a ∷ b ∷ []
both_of (Some a) None = a ∷ []
both_of None o = []

unfoldable pub source_registers : ℕ → List ℕ
source_registers w = both_of (operand_at w (first_source (decode_word w))) (operand_at w (second_source (decode_word w)))

-- the struct that holds at most two registers, zeros past them
unfoldable pub register_list : List ℕ → RegisterList
register_list rs = record { registers = padded 2 rs; count = length rs }

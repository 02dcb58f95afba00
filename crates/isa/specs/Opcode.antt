-- Opcodes: the digit of each, its fixed texts and its group (01, section 2; isa.rs).
-- Assumes nothing.
use Rattle.std.specs.Prelude.{ℕ, List, [], ◌∷◌, get_or, None, Option, Some}
use Prim.Native.String.{String}
use Rattle.isa.specs.declared.opcode.Opcode.{Opcode}
use Rattle.isa.specs.declared.opcode.Opcode.TheVariants.{LoadImmediate, LoadRegister, LoadMemory, StoreMemory, Add, Negate, ShiftRight, ShiftLeft, And, Or, Xor, Jump, Halt}
use Rattle.isa.specs.declared.opcode.InstructionGroup.{InstructionGroup}
use Rattle.isa.specs.declared.opcode.InstructionGroup.TheVariants.{DataTransfer, ArithmeticLogic, Control}

-- what each digit says, from 0 to F
unfoldable pub digits : List (Option Opcode)
digits =
    None
    ∷ Some LoadImmediate
    ∷ Some LoadRegister
    ∷ Some LoadMemory
    ∷ Some StoreMemory
    ∷ None
    ∷ Some Add
    ∷ Some Negate
    ∷ Some ShiftRight
    ∷ Some ShiftLeft
    ∷ Some And
    ∷ Some Or
    ∷ Some Xor
    ∷ Some Jump
    ∷ Some Halt
    ∷ None
    ∷ []

-- what a digit says
unfoldable pub decode_nibble : ℕ → Option Opcode
decode_nibble n = get_or digits n None

-- every opcode, in encoding order: `Opcode::ALL`
abbrev pub opcodes : List Opcode
opcodes = LoadImmediate ∷ LoadRegister ∷ LoadMemory ∷ StoreMemory ∷ Add ∷ Negate ∷ ShiftRight ∷ ShiftLeft ∷ And ∷ Or ∷ Xor ∷ Jump ∷ Halt ∷ []

-- the digit of an opcode
abbrev pub nibble_of : Opcode → ℕ
nibble_of LoadImmediate = 0x1
nibble_of LoadRegister = 0x2
nibble_of LoadMemory = 0x3
nibble_of StoreMemory = 0x4
nibble_of Add = 0x6
nibble_of Negate = 0x7
nibble_of ShiftRight = 0x8
nibble_of ShiftLeft = 0x9
nibble_of And = 0xA
nibble_of Or = 0xB
nibble_of Xor = 0xC
nibble_of Jump = 0xD
nibble_of Halt = 0xE

-- the place of an opcode in `opcodes`
abbrev pub index_of : Opcode → ℕ
index_of LoadImmediate = 0
index_of LoadRegister = 1
index_of LoadMemory = 2
index_of StoreMemory = 3
index_of Add = 4
index_of Negate = 5
index_of ShiftRight = 6
index_of ShiftLeft = 7
index_of And = 8
index_of Or = 9
index_of Xor = 10
index_of Jump = 11
index_of Halt = 12

-- the fixed texts: `mnemonic`
abbrev pub mnemonic_of : Opcode → String
mnemonic_of LoadImmediate = "LOAD"
mnemonic_of LoadRegister = "LOAD"
mnemonic_of LoadMemory = "LOAD"
mnemonic_of StoreMemory = "STORE"
mnemonic_of Add = ""
mnemonic_of Negate = "NEGATE"
mnemonic_of ShiftRight = "SHIFT"
mnemonic_of ShiftLeft = "SHIFT"
mnemonic_of And = ""
mnemonic_of Or = ""
mnemonic_of Xor = ""
mnemonic_of Jump = "JUMP"
mnemonic_of Halt = "HALT"

-- `encoding`
abbrev pub encoding_of : Opcode → String
encoding_of LoadImmediate = "1xYZ"
encoding_of LoadRegister = "20xy"
encoding_of LoadMemory = "3xYZ"
encoding_of StoreMemory = "4xYZ"
encoding_of Add = "6xyz"
encoding_of Negate = "70x0"
encoding_of ShiftRight = "8xYZ"
encoding_of ShiftLeft = "9xYZ"
encoding_of And = "Axyz"
encoding_of Or = "Bxyz"
encoding_of Xor = "Cxyz"
encoding_of Jump = "DxYZ"
encoding_of Halt = "E000"

-- `syntax`
abbrev pub syntax_of : Opcode → String
syntax_of LoadImmediate = "LOAD Rx, YZ"
syntax_of LoadRegister = "LOAD Rx, Ry"
syntax_of LoadMemory = "LOAD Rx, [YZ]"
syntax_of StoreMemory = "STORE Rx, [YZ]"
syntax_of Add = "Rx = Ry + Rz"
syntax_of Negate = "NEGATE Rx"
syntax_of ShiftRight = "SHIFT Rx RIGHT YZ"
syntax_of ShiftLeft = "SHIFT Rx LEFT YZ"
syntax_of And = "Rx = Ry AND Rz"
syntax_of Or = "Rx = Ry OR Rz"
syntax_of Xor = "Rx = Ry XOR Rz"
syntax_of Jump = "JUMP [YZ] IF Rx=R0"
syntax_of Halt = "HALT"

-- `description`
abbrev pub description_of : Opcode → String
description_of LoadImmediate = "Load register Rx with the value YZ (2 hexadecimal digits)."
description_of LoadRegister = "Load register Rx with the number in register Ry."
description_of LoadMemory = "Load register Rx with the number in memory location YZ."
description_of StoreMemory = "Store the number in register Rx in memory location YZ."
description_of Add = "Add Ry and Rz and load the result into Rx (2's complement addition)."
description_of Negate = "Negate register Rx: complement and add 1, i.e. Rx = -Rx."
description_of ShiftRight = "Shift the number in register Rx right by YZ bits."
description_of ShiftLeft = "Shift the number in register Rx left by YZ bits."
description_of And = "Bitwise AND Ry and Rz, load the result into Rx."
description_of Or = "Bitwise OR Ry and Rz, load the result into Rx."
description_of Xor = "Bitwise XOR Ry and Rz, load the result into Rx."
description_of Jump = "Jump to the instruction at address YZ if the value in Rx equals the value in R0."
description_of Halt = "Halt the machine."

-- `cpp`
abbrev pub cpp_of : Opcode → String
cpp_of LoadImmediate = "Rx = 0xYZ;"
cpp_of LoadRegister = "Rx = Ry;"
cpp_of LoadMemory = "Rx = memory[YZ];"
cpp_of StoreMemory = "memory[YZ] = Rx;"
cpp_of Add = "Rx = Ry + Rz;"
cpp_of Negate = "Rx = -Rx;"
cpp_of ShiftRight = "Rx = Rx >> 0xYZ;"
cpp_of ShiftLeft = "Rx = Rx << 0xYZ;"
cpp_of And = "Rx = Ry & Rz;"
cpp_of Or = "Rx = Ry | Rz;"
cpp_of Xor = "Rx = Ry ^ Rz;"
cpp_of Jump = "if (Rx == R0) goto YZ;"
cpp_of Halt = "exit();"

-- the display name
abbrev pub name_of : Opcode → String
name_of LoadImmediate = "LOAD immediate"
name_of LoadRegister = "LOAD register"
name_of LoadMemory = "LOAD memory"
name_of StoreMemory = "STORE"
name_of Add = "ADD"
name_of Negate = "NEGATE"
name_of ShiftRight = "SHIFT right"
name_of ShiftLeft = "SHIFT left"
name_of And = "AND"
name_of Or = "OR"
name_of Xor = "XOR"
name_of Jump = "JUMP"
name_of Halt = "HALT"

-- `group`
abbrev pub group_of : Opcode → InstructionGroup
group_of LoadImmediate = DataTransfer
group_of LoadRegister = DataTransfer
group_of LoadMemory = DataTransfer
group_of StoreMemory = DataTransfer
group_of Add = ArithmeticLogic
group_of Negate = ArithmeticLogic
group_of ShiftRight = ArithmeticLogic
group_of ShiftLeft = ArithmeticLogic
group_of And = ArithmeticLogic
group_of Or = ArithmeticLogic
group_of Xor = ArithmeticLogic
group_of Jump = Control
group_of Halt = Control

-- every group, in order: `InstructionGroup::ALL`
abbrev pub groups : List InstructionGroup
groups = DataTransfer ∷ ArithmeticLogic ∷ Control ∷ []

-- `label`
abbrev pub label_of : InstructionGroup → String
label_of DataTransfer = "Data transfer"
label_of ArithmeticLogic = "Arithmetic / logic"
label_of Control = "Control"

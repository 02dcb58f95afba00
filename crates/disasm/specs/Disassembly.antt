-- A word as assembler source (01, section 2; disasm.rs, `disassemble`; 02, Change 1): templates in which W, x, y and z stand for the word's digits.
-- Assumes nothing.
use Rattle.std.specs.Prelude.{ℕ, Bool, cond, List, [], ◌++◌, None, Option, Some}
use Rattle.isa.specs.declared.opcode.Opcode.{Opcode}
use Prim.Native.String.{String}
use Rattle.isa.specs.declared.opcode.Opcode.TheVariants.{LoadImmediate, LoadRegister, LoadMemory, StoreMemory, Add, Negate, ShiftRight, ShiftLeft, And, Or, Xor, Jump, Halt}
use Rattle.isa.specs.Text.{ascii}
use Rattle.isa.specs.Word.{decode_word}
use Rattle.isa.specs.Nibbles.{loose}
use Rattle.isa.specs.Format.{fill}

unfoldable pub template : Option Opcode → String
template (Some LoadImmediate) = "LOAD Rx, yz"
template (Some LoadRegister) = "LOAD Ry, Rz"
template (Some LoadMemory) = "LOAD Rx, [yz]"
template (Some StoreMemory) = "STORE Rx, [yz]"
template (Some Add) = "Rx = Ry + Rz"
template (Some Negate) = "NEGATE Ry"
template (Some ShiftRight) = "SHIFT Rx RIGHT yz"
template (Some ShiftLeft) = "SHIFT Rx LEFT yz"
template (Some And) = "Rx = Ry AND Rz"
template (Some Or) = "Rx = Ry OR Rz"
template (Some Xor) = "Rx = Ry XOR Rz"
template (Some Jump) = "JUMP [yz] IF Rx=R0"
template (Some Halt) = "HALT"
template None = "??? (not a MASSEY opcode) ; Wxyz"

-- what stands behind the text of a loose word, which has a digit that its instruction does not use and that is not 0 (02, Change 1)
abbrev pub ending : Bool → List ℕ
ending b = cond b (ascii " ; Wxyz") []

unfoldable pub disassemble_text : ℕ → List ℕ
disassemble_text w = fill w (ascii (template (decode_word w)) ++ ending (loose w))

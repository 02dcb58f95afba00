-- Which digits of an instruction its opcode does not use (01, section 2; 02, Changes 1, 4 and 13).
-- Assumes nothing.
use Rattle.std.specs.Prelude.{ℕ, ◌+◌, ◌*◌, ◌%◌, Bool, not, eqb, None, Option, Some}
use Rattle.isa.specs.declared.opcode.Opcode.{Opcode}
use Rattle.isa.specs.declared.opcode.Opcode.TheVariants.{LoadImmediate, LoadRegister, LoadMemory, StoreMemory, Add, Negate}
use Rattle.isa.specs.declared.opcode.Opcode.TheVariants.{ShiftRight, ShiftLeft, And, Or, Xor, Jump, Halt}
use Rattle.isa.specs.Word.{digit_x, digit_z, decode_word}

-- these digits of a word, in their places, and 0 for all others: x of LOAD y, z; x and z of NEGATE; x, y and z of HALT
abbrev pub unused_of : Opcode → ℕ → ℕ
unused_of LoadImmediate w = 0
unused_of LoadRegister w = digit_x w * 256
unused_of LoadMemory w = 0
unused_of StoreMemory w = 0
unused_of Add w = 0
unused_of Negate w = digit_x w * 256 + digit_z w
unused_of ShiftRight w = 0
unused_of ShiftLeft w = 0
unused_of And w = 0
unused_of Or w = 0
unused_of Xor w = 0
unused_of Jump w = 0
unused_of Halt w = w % 4096

-- by what the word decodes to: one without an opcode is data, and has none
abbrev pub unused : Option Opcode → ℕ → ℕ
unused (Some o) w = unused_of o w
unused None w = 0

abbrev pub unused_nibbles : ℕ → ℕ
unused_nibbles w = unused (decode_word w) w

-- one of them is not 0: then the word says more than its instruction
abbrev pub loose : ℕ → Bool
loose w = not (eqb (unused_nibbles w) 0)

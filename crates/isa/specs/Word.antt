-- A word's four digits: opcode, x, y, z; yz is one byte (01, section 2; isa.rs, `Instruction`).
-- Assumes nothing.
use Rattle.std.specs.Prelude.{ℕ, ◌+◌, ◌*◌, ◌/◌, ◌%◌, List, [], ◌∷◌, Option}
use Rattle.isa.specs.declared.opcode.Opcode.{Opcode}
use Rattle.isa.specs.declared.instruction.Instruction.{Instruction}
use Rattle.isa.specs.declared.instruction.Xyz.{Xyz}
use Rattle.isa.specs.Opcode.{decode_nibble}

abbrev pub digit_w : ℕ → ℕ
digit_w w = w / 4096 % 16

abbrev pub digit_x : ℕ → ℕ
digit_x w = w / 256 % 16

abbrev pub digit_y : ℕ → ℕ
digit_y w = w / 16 % 16

abbrev pub digit_z : ℕ → ℕ
digit_z w = w % 16

abbrev pub byte_yz : ℕ → ℕ
byte_yz w = w % 256

-- the four digits, high first
abbrev pub nibbles_of : ℕ → List ℕ
nibbles_of w = digit_w w ∷ digit_x w ∷ digit_y w ∷ digit_z w ∷ []

-- the opcode of a word
abbrev pub decode_word : ℕ → Option Opcode
decode_word w = decode_nibble (digit_w w)

-- the word with these digits; of each byte the low digit counts
abbrev pub word_of : ℕ → ℕ → ℕ → ℕ → ℕ
word_of o x y z = o % 16 * 4096 + x % 16 * 256 + y % 16 * 16 + z % 16

-- the struct of a word, and of its x, y and z
abbrev pub instruction : ℕ → Instruction
instruction w = record { raw = w }

abbrev pub xyz_of : ℕ → Xyz
xyz_of w = record { x = digit_x w; y = digit_y w; z = digit_z w }

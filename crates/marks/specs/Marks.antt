-- Marks (01, section 5; 02, Changes 2 and 7): the owners of each word of memory, of each register and of MDR, and how an instruction moves them.
-- Assumes nothing.
use Rattle.std.specs.Prelude.{ℕ, Bool, cond, List, eqb, leb, get_or, set, None, Option, Some}
use Rattle.isa.specs.declared.opcode.Opcode.{Opcode}
use Rattle.isa.specs.declared.opcode.Opcode.TheVariants.{LoadImmediate, LoadRegister, LoadMemory, StoreMemory, Add, Negate, ShiftRight, ShiftLeft, And, Or, Xor, Jump, Halt}
use Rattle.isa.specs.Word.{decode_word, digit_x, digit_y, digit_z, byte_yz}
use Rattle.control.specs.Address.{reached_address}
use Rattle.marks.specs.Owners.{joined}

-- a mark of 0 has no owner
pub record Marks : Type 0 where
  pub memory : List ℕ
  pub registers : List ℕ
  pub mdr : ℕ

-- of memory, of the registers, of MDR
abbrev pub marks_of : List ℕ → List ℕ → ℕ → Marks
marks_of m r d = record { memory = m; registers = r; mdr = d }

-- a hidden value is written 0 (section 6): which marks hide, mark, value
unfoldable pub shown : (ℕ → Bool) → ℕ → ℕ → ℕ
shown hid m v = cond (hid m) 0 v

abbrev pub word_mark : ℕ → Marks → ℕ
word_mark a k = get_or k.memory a 0

abbrev pub register_mark : ℕ → Marks → ℕ
register_mark r k = get_or k.registers r 0

-- MDR's mark set, and a register's or a word's beside it
abbrev pub mdr_marked : ℕ → Marks → Marks
mdr_marked n k = record { memory = k.memory; registers = k.registers; mdr = n }

abbrev pub register_marked : ℕ → ℕ → Marks → Marks
register_marked r n k = record { memory = k.memory; registers = set k.registers r n; mdr = k.mdr }

abbrev pub word_marked : ℕ → ℕ → Marks → Marks
word_marked a n k = record { memory = set k.memory a n; registers = k.registers; mdr = k.mdr }

-- the two sources of ADD, AND, OR and XOR
abbrev pub joined_yz : ℕ → Marks → ℕ
joined_yz w k = joined (register_mark (digit_y w) k) (register_mark (digit_z w) k)

-- 02, Change 2: XOR with y = z, and a shift with yz of 16 or more, give 0 for every input and leave their target with no owner; the word alone tells
abbrev pub same_sources : ℕ → Bool
same_sources w = eqb (digit_y w) (digit_z w)

abbrev pub shifts_out : ℕ → Bool
shifts_out w = leb 16 (byte_yz w)

-- what the instruction w does to the marks once its fetch has left MDR with none; to keep a mark is to set it to itself
abbrev pub executed_marks : Option Opcode → ℕ → Marks → Marks
executed_marks (Some LoadImmediate) w k = register_marked (digit_x w) 0 k
executed_marks (Some LoadRegister) w k = register_marked (digit_y w) (register_mark (digit_z w) k) k
executed_marks (Some LoadMemory) w k = let n = word_mark (reached_address w) k in register_marked (digit_x w) n (mdr_marked n k)
executed_marks (Some StoreMemory) w k = let n = register_mark (digit_x w) k in word_marked (reached_address w) n (mdr_marked n k)
executed_marks (Some Add) w k = register_marked (digit_x w) (joined_yz w k) k
executed_marks (Some Negate) w k = register_marked (digit_y w) (register_mark (digit_y w) k) k
executed_marks (Some ShiftRight) w k = register_marked (digit_x w) (cond (shifts_out w) 0 (register_mark (digit_x w) k)) k
executed_marks (Some ShiftLeft) w k = register_marked (digit_x w) (cond (shifts_out w) 0 (register_mark (digit_x w) k)) k
executed_marks (Some And) w k = register_marked (digit_x w) (joined_yz w k) k
executed_marks (Some Or) w k = register_marked (digit_x w) (joined_yz w k) k
executed_marks (Some Xor) w k = register_marked (digit_x w) (cond (same_sources w) 0 (joined_yz w k)) k
executed_marks (Some Jump) w k = k
executed_marks (Some Halt) w k = k
executed_marks None w k = k

-- the marks after a whole instruction
unfoldable pub instruction_marks : ℕ → Marks → Marks
instruction_marks w k = executed_marks (decode_word w) w (mdr_marked 0 k)

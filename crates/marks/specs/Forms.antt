-- What the code's helper functions compute. A reader need not believe it: proofs/Moves.antt shows that it gives `executed_marks`, and proofs/Totals.antt that
-- a total by `total_by` is the full count.
-- It is one form for every instruction: register x, or y, the word that LOAD or STORE reaches, and MDR get a mark; then x is opened where it is cleared.
-- Assumes nothing.
use Rattle.std.specs.Prelude.{ℕ, ◌+◌, ◌-◌, ◌%◌, ◌^◌, Bool, true, false, cond, List, get_or, set, None, Option, Some}
use Rattle.isa.specs.declared.opcode.Opcode.{Opcode}
use Rattle.isa.specs.declared.opcode.Opcode.TheVariants.{LoadImmediate, LoadRegister, LoadMemory, StoreMemory, Add, Negate, ShiftRight, ShiftLeft, And, Or, Xor, Jump, Halt}
use Rattle.isa.specs.Word.{digit_x}
use Rattle.control.specs.Address.{reached_address}
use Rattle.marks.specs.declared.Moved.{Moved}
use Rattle.marks.specs.Marks.{same_sources, shifts_out}
use Rattle.marks.specs.Total.{hidden, on_store}

-- a register's mark alone, y's or x's: its mark, and the word's own
abbrev pub one_mark : Bool → ℕ → ℕ → Moved
one_mark y n m = record { to_y = y; register = n; word = m; mdr = 0; cleared = false }

-- the same of x, which may be cleared: whether it is, its mark where it is not, the word's own
abbrev pub clearing : Bool → ℕ → ℕ → Moved
clearing c n m = record { to_y = false; register = n; word = m; mdr = 0; cleared = c }

-- the same for register x, the word and MDR
abbrev pub all_marks : ℕ → Moved
all_marks n = record { to_y = false; register = n; word = n; mdr = n; cleared = false }

-- from the instruction, and the marks of x, y, z, of y and z joined, and of the word that LOAD or STORE reaches
abbrev pub moves : Option Opcode → ℕ → ℕ → ℕ → ℕ → ℕ → ℕ → Moved
moves (Some LoadImmediate) w x y z j m = one_mark false 0 m
moves (Some LoadRegister) w x y z j m = one_mark true z m
moves (Some LoadMemory) w x y z j m = all_marks m
moves (Some StoreMemory) w x y z j m = all_marks x
moves (Some Add) w x y z j m = one_mark false j m
moves (Some Negate) w x y z j m = one_mark true y m
moves (Some ShiftRight) w x y z j m = clearing (shifts_out w) x m
moves (Some ShiftLeft) w x y z j m = clearing (shifts_out w) x m
moves (Some And) w x y z j m = one_mark false j m
moves (Some Or) w x y z j m = one_mark false j m
moves (Some Xor) w x y z j m = clearing (same_sources w) j m
moves (Some Jump) w x y z j m = one_mark false x m
moves (Some Halt) w x y z j m = one_mark false x m
moves None w x y z j m = one_mark false x m

-- the registers' marks with x open, where the instruction clears it
abbrev pub opened_x : Bool → ℕ → List ℕ → List ℕ
opened_x c w r = cond c (set r (digit_x w) 0) r

module _ (hid : ℕ → Bool) where
  -- a total of 16 bits where one word's mark is changed: the total, its old mark, its new one
  abbrev pub retotalled : ℕ → ℕ → ℕ → ℕ
  retotalled t old new = (t + 2 ^ 16 + hidden hid new - hidden hid old) % 2 ^ 16

  -- after the instruction w, decoded: the marks of memory and of the registers before it, the total
  abbrev pub total_by : Option Opcode → ℕ → List ℕ → List ℕ → ℕ → ℕ
  total_by d w m r t = on_store d t (retotalled t (get_or m (reached_address w) 0) (get_or r (digit_x w) 0))

-- Why a cleared register may be open (02, Change 2): what XOR with y = z and a shift with yz of 16 or more leave in register x is 0, whatever the registers hold.
-- Assumes nothing.
use Rattle.std.specs.Prelude.{None, Option, Some}
use Rattle.isa.specs.declared.opcode.Opcode.{Opcode}
use Prim.Native.Nat.{ℕ, zero, suc}
use mathlib.Core.Path.{◌≡◌, refl, ap, ◌∙◌}
use mathlib.Core.Bool.{true}
use mathlib.Core.List.{List, [], ◌∷◌}
use borrow.Author.Tests.{eqb-true, leb-true}
use lib.Bits.{bit_xor, xor_self}
use lib.ListN.{get_or, set}
use Rattle.isa.specs.declared.opcode.Opcode.TheVariants.{LoadImmediate, LoadRegister, LoadMemory, StoreMemory, Add, Negate, ShiftRight, ShiftLeft, And, Or, Xor, Jump, Halt}
use Rattle.isa.specs.Word.{decode_word, digit_x, digit_y, digit_z, byte_yz}
use Rattle.tick.specs.Tick.{execute_tick, right16, left16}
use Rattle.tick.proofs.Shifts.{shift_out}
use Rattle.marks.specs.Marks.{Marks, register_mark, same_sources, shifts_out, executed_marks, instruction_marks}
use Rattle.vm.specs.Machine.{Machine}
use Rattle.vm.specs.Instruction.{step_instruction}
use Rattle.vm.specs.Guard.{next_word}
use Rattle.vm.proofs.Steps.{Public, public_of, Hidden, hidden_of, fetched, fetched_hidden, decoded, finished, instruction-ticks}

-- ---- the results: the word, the registers or the value shifted

pub xor_cleared : (w : ℕ) (r : List ℕ) → same_sources w ≡ true → bit_xor (get_or r (digit_y w) 0) (get_or r (digit_z w) 0) ≡ 0
xor_cleared w r e = rw (eqb-true (digit_y w) (digit_z w) e) (xor_self (get_or r (digit_z w) 0))

pub shift_cleared : (w v : ℕ) → shifts_out w ≡ true → (right16 (byte_yz w) v ≡ 0) × (left16 (byte_yz w) v ≡ 0)
shift_cleared w v e = shift_out (byte_yz w) v (leb-true 16 (byte_yz w) e)

-- ---- the instructions

-- the words that clear register x, by what they decode to
pub data Clears (w : ℕ) : Option Opcode → Type 0 where
  xor : same_sources w ≡ true → Clears w (Some Xor)
  right : shifts_out w ≡ true → Clears w (Some ShiftRight)
  left : shifts_out w ≡ true → Clears w (Some ShiftLeft)

set-zero : (l : List ℕ) (i : ℕ) {v : ℕ} → v ≡ 0 → get_or (set l i v) i 0 ≡ 0
set-zero [] i e = refl
set-zero (a ∷ l) zero e = e
set-zero (a ∷ l) (suc i) e = set-zero l i e

finished_zero : (d : Option Opcode) (p : Public) (a : Hidden) → Clears p.ir d → get_or (finished d p a).registers (digit_x p.ir) 0 ≡ 0
unfolding finished decoded execute_tick
finished_zero (Some Xor) p a (xor e) = set-zero a.registers (digit_x p.ir) (xor_cleared p.ir a.registers e)
finished_zero (Some ShiftRight) p a (right e) = set-zero a.registers (digit_x p.ir) (shift_cleared p.ir _ e).0
finished_zero (Some ShiftLeft) p a (left e) = set-zero a.registers (digit_x p.ir) (shift_cleared p.ir _ e).1
finished_zero (Some LoadImmediate) p a c = elim c [ ]
finished_zero (Some LoadRegister) p a c = elim c [ ]
finished_zero (Some LoadMemory) p a c = elim c [ ]
finished_zero (Some StoreMemory) p a c = elim c [ ]
finished_zero (Some Add) p a c = elim c [ ]
finished_zero (Some Negate) p a c = elim c [ ]
finished_zero (Some And) p a c = elim c [ ]
finished_zero (Some Or) p a c = elim c [ ]
finished_zero (Some Jump) p a c = elim c [ ]
finished_zero (Some Halt) p a c = elim c [ ]
finished_zero None p a c = elim c [ ]

-- of every machine between two instructions, the next of which clears register x: x holds 0 behind it
pub cleared-zero : (m : Machine) → m.state.control.tick ≡ 0 → let w = next_word m in Clears w (decode_word w) → get_or (step_instruction m).machine.registers (digit_x w) 0 ≡ 0
unfolding fetched fetched_hidden
cleared-zero m t c =
    let w = next_word m in
    ap (λ (n : Machine). get_or n.registers (digit_x w) 0) (instruction-ticks m t)
    ∙ finished_zero (decode_word w) (fetched w (public_of m)) (fetched_hidden m.state.control.pc w (hidden_of m)) c

opened : (w : ℕ) (d : Option Opcode) (k : Marks) → Clears w d → register_mark (digit_x w) (executed_marks d w k) ≡ 0
opened w (Some Xor) k (xor e) = set-zero k.registers (digit_x w) (rw e)
opened w (Some ShiftRight) k (right e) = set-zero k.registers (digit_x w) (rw e)
opened w (Some ShiftLeft) k (left e) = set-zero k.registers (digit_x w) (rw e)
opened w (Some LoadImmediate) k c = elim c [ ]
opened w (Some LoadRegister) k c = elim c [ ]
opened w (Some LoadMemory) k c = elim c [ ]
opened w (Some StoreMemory) k c = elim c [ ]
opened w (Some Add) k c = elim c [ ]
opened w (Some Negate) k c = elim c [ ]
opened w (Some And) k c = elim c [ ]
opened w (Some Or) k c = elim c [ ]
opened w (Some Jump) k c = elim c [ ]
opened w (Some Halt) k c = elim c [ ]
opened w None k c = elim c [ ]

-- and is open, whatever was marked
pub cleared_open : (w : ℕ) (k : Marks) → Clears w (decode_word w) → register_mark (digit_x w) (instruction_marks w k) ≡ 0
unfolding instruction_marks
cleared_open w k c = opened w (decode_word w) _ c

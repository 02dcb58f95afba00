-- The marks of an instruction in one form.
-- Assumes nothing.
use Rattle.std.specs.Prelude.{None, Option, Some}
use Rattle.isa.specs.declared.opcode.Opcode.{Opcode}
use Prim.Native.Nat.{ℕ}
use mathlib.Core.Path.{◌≡◌, refl, ap, sym, ◌∙◌}
use mathlib.Core.Bool.{Bool, true, false, cond}
use mathlib.Core.List.{List}
use lib.ListN.{get_or, set}
use lib.Seq.{set-get_or, set-set}
use Rattle.isa.specs.declared.opcode.Opcode.TheVariants.{LoadImmediate, LoadRegister, LoadMemory, StoreMemory, Add, Negate, ShiftRight, ShiftLeft, And, Or, Xor, Jump, Halt}
use Rattle.isa.specs.Word.{decode_word, digit_x, digit_y, digit_z}
use Rattle.control.specs.Address.{reached_address}
use Rattle.marks.specs.declared.Moved.{Moved}
use Rattle.marks.specs.Marks.{Marks, mdr_marked, joined_yz, same_sources, shifts_out, executed_marks, instruction_marks}
use Rattle.marks.specs.Forms.{moves, opened_x}

-- a register, the word that LOAD or STORE reaches and MDR get a mark: of the first two, where
abbrev marked_by : ℕ → ℕ → ℕ → Moved → List ℕ → List ℕ → Marks
marked_by w a i v m r = record { memory = set m a v.word; registers = opened_x v.cleared w (set r i v.register); mdr = v.mdr }

module _ (w : ℕ) (m r : List ℕ) where
  abbrev start : Marks
  start = record { memory = m; registers = r; mdr = 0 }

  abbrev move_of : Option Opcode → Moved
  move_of d = moves d w (get_or r (digit_x w) 0) (get_or r (digit_y w) 0) (get_or r (digit_z w) 0) (joined_yz w start) (get_or m (reached_address w) 0)

  -- the word keeps its mark
  kept : (q : ℕ) {s t : List ℕ} → s ≡ t → ◌≡◌ {A = Marks} (record { memory = m; registers = s; mdr = q }) (record { memory = set m (reached_address w) (get_or m (reached_address w) 0); registers = t; mdr = q })
  kept q e = λ k. record { memory = sym (set-get_or m (reached_address w) 0) k; registers = e k; mdr = q }

  -- no register's mark moves
  still : r ≡ set r (digit_x w) (get_or r (digit_x w) 0)
  still = sym (set-get_or r (digit_x w) 0)

  opened : (c : Bool) (n : ℕ) → set r (digit_x w) (cond c 0 n) ≡ opened_x c w (set r (digit_x w) n)
  opened true n = sym (set-set r (digit_x w) n 0)
  opened false n = refl

  executed : (d : Option Opcode) → executed_marks d w start ≡ marked_by w (reached_address w) (cond (move_of d).to_y (digit_y w) (digit_x w)) (move_of d) m r
  executed (Some LoadImmediate) = kept 0 refl
  executed (Some LoadRegister) = kept 0 refl
  executed (Some LoadMemory) = kept (get_or m (reached_address w) 0) refl
  executed (Some StoreMemory) = λ k. record { memory = set m (reached_address w) (get_or r (digit_x w) 0); registers = still k; mdr = get_or r (digit_x w) 0 }
  executed (Some Add) = kept 0 refl
  executed (Some Negate) = kept 0 refl
  executed (Some ShiftRight) = kept 0 (opened (shifts_out w) (get_or r (digit_x w) 0))
  executed (Some ShiftLeft) = kept 0 (opened (shifts_out w) (get_or r (digit_x w) 0))
  executed (Some And) = kept 0 refl
  executed (Some Or) = kept 0 refl
  executed (Some Xor) = kept 0 (opened (same_sources w) (joined_yz w start))
  executed (Some Jump) = kept 0 still
  executed (Some Halt) = kept 0 still
  executed None = kept 0 still

  -- by what the code finds: the word's address, the marks joined, what moves, the register, the registers' marks at the end
  pub marks_moved : (d : Option Opcode) {a j i : ℕ} {v : Moved} {s : List ℕ} → a ≡ reached_address w → j ≡ joined_yz w start
      → v ≡ moves d w (get_or r (digit_x w) 0) (get_or r (digit_y w) 0) (get_or r (digit_z w) 0) j (get_or m a 0) → i ≡ cond v.to_y (digit_y w) (digit_x w)
      → s ≡ opened_x v.cleared w (set r i v.register)
      → record { memory = set m a v.word; registers = s; mdr = v.mdr } ≡ executed_marks d w start
  marks_moved d {a} {v = v} p j e t f =
      (λ k. record { memory = set m a v.word; registers = f k; mdr = v.mdr })
      ∙ (λ k. marked_by w (p k) (t k) v m r)
      ∙ ap (λ (x : Moved). marked_by w (reached_address w) (cond x.to_y (digit_y w) (digit_x w)) x m r)
      (e ∙ (λ k. moves d w (get_or r (digit_x w) 0) (get_or r (digit_y w) 0) (get_or r (digit_z w) 0) (j k) (get_or m (p k) 0)))
      ∙ sym (executed d)

-- whatever MDR's mark was: a fetch opens it
pub fetch_opens : (w : ℕ) (p q : Marks) → mdr_marked 0 p ≡ mdr_marked 0 q → instruction_marks w p ≡ instruction_marks w q
unfolding instruction_marks
fetch_opens w p q e = ap (executed_marks (decode_word w) w) e

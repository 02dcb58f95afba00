-- One law for the marks of three runs of one machine: a relation that holds of 0 and is kept by joining is kept by every instruction.
-- Assumes nothing.
use Rattle.std.specs.Prelude.{None, Option, Some}
use Rattle.isa.specs.declared.opcode.Opcode.{Opcode}
use Prim.Native.Nat.{ℕ, zero, suc}
use mathlib.Core.List.{List, [], ◌∷◌}
use mathlib.Core.Bool.{Bool, true, false, cond}
use lib.ListN.{get_or, set, replicate}
use Rattle.isa.specs.declared.opcode.Opcode.TheVariants.{LoadImmediate, LoadRegister, LoadMemory, StoreMemory, Add, Negate, ShiftRight, ShiftLeft, And, Or, Xor, Jump, Halt}
use Rattle.isa.specs.Word.{decode_word, digit_x, digit_y, digit_z}
use Rattle.control.specs.Address.{reached_address}
use Rattle.marks.specs.Owners.{joined}
use Rattle.marks.specs.Marks.{Marks, joined_yz, same_sources, shifts_out, mdr_marked, executed_marks, instruction_marks}

pub data Rows (R : ℕ → ℕ → ℕ → Type 0) : List ℕ → List ℕ → List ℕ → Type 0 where
  nil : Rows R [] [] []
  cons : {a b c : ℕ} {k l m : List ℕ} → R a b c → Rows R k l m → Rows R (a ∷ k) (b ∷ l) (c ∷ m)

pub record Related (R : ℕ → ℕ → ℕ → Type 0) (k l m : Marks) : Type 0 where
  pub memory : Rows R k.memory l.memory m.memory
  pub registers : Rows R k.registers l.registers m.registers
  pub mdr : R k.mdr l.mdr m.mdr

-- 0 stands in the relation, and so does what is joined of two that do
pub record Closed (R : ℕ → ℕ → ℕ → Type 0) : Type 0 where
  pub none : R 0 0 0
  pub join : {a b c d e f : ℕ} → R a b c → R d e f → R (joined a d) (joined b e) (joined c f)

module _ {R : ℕ → ℕ → ℕ → Type 0} where
  pub rows_get : R 0 0 0 → {k l m : List ℕ} → Rows R k l m → (i : ℕ) → R (get_or k i 0) (get_or l i 0) (get_or m i 0)
  rows_get z nil i = z
  rows_get z (cons t r) zero = t
  rows_get z (cons t r) (suc i) = rows_get z r i

  rows-set : {k l m : List ℕ} → Rows R k l m → (i : ℕ) {a b c : ℕ} → R a b c → Rows R (set k i a) (set l i b) (set m i c)
  rows-set nil i p = nil
  rows-set (cons t r) zero p = cons p r
  rows-set (cons t r) (suc i) p = cons t (rows-set r i p)

  pub rows-zero : R 0 0 0 → (n : ℕ) → Rows R (replicate n 0) (replicate n 0) (replicate n 0)
  rows-zero z zero = nil
  rows-zero z (suc n) = cons z (rows-zero z n)

  module _ (C : Closed R) (w : ℕ) {k l m : Marks} (g : Related R k l m) where
    reg : (r : ℕ) → R (get_or k.registers r 0) (get_or l.registers r 0) (get_or m.registers r 0)
    reg r = rows_get C.none g.registers r

    word : R (get_or k.memory (reached_address w) 0) (get_or l.memory (reached_address w) 0) (get_or m.memory (reached_address w) 0)
    word = rows_get C.none g.memory (reached_address w)

    both : R (joined_yz w k) (joined_yz w l) (joined_yz w m)
    both = C.join (reg (digit_y w)) (reg (digit_z w))

    put : (r : ℕ) {a b c : ℕ} → R a b c → Rows R (set k.registers r a) (set l.registers r b) (set m.registers r c)
    put r p = rows-set g.registers r p

    -- where the word opens the target
    opened : (b : Bool) {p q r : ℕ} → R p q r → R (cond b 0 p) (cond b 0 q) (cond b 0 r)
    opened true t = C.none
    opened false t = t

    executed_related : (d : Option Opcode) → Related R (executed_marks d w k) (executed_marks d w l) (executed_marks d w m)
    executed_related (Some LoadImmediate) = record { memory = g.memory; registers = put (digit_x w) C.none; mdr = g.mdr }
    executed_related (Some LoadRegister) = record { memory = g.memory; registers = put (digit_y w) (reg (digit_z w)); mdr = g.mdr }
    executed_related (Some LoadMemory) = record { memory = g.memory; registers = put (digit_x w) word; mdr = word }
    executed_related (Some StoreMemory) = record { memory = rows-set g.memory (reached_address w) (reg (digit_x w)); registers = g.registers; mdr = reg (digit_x w) }
    executed_related (Some Add) = record { memory = g.memory; registers = put (digit_x w) both; mdr = g.mdr }
    executed_related (Some Negate) = record { memory = g.memory; registers = put (digit_y w) (reg (digit_y w)); mdr = g.mdr }
    executed_related (Some ShiftRight) = record { memory = g.memory; registers = put (digit_x w) (opened (shifts_out w) (reg (digit_x w))); mdr = g.mdr }
    executed_related (Some ShiftLeft) = record { memory = g.memory; registers = put (digit_x w) (opened (shifts_out w) (reg (digit_x w))); mdr = g.mdr }
    executed_related (Some And) = record { memory = g.memory; registers = put (digit_x w) both; mdr = g.mdr }
    executed_related (Some Or) = record { memory = g.memory; registers = put (digit_x w) both; mdr = g.mdr }
    executed_related (Some Xor) = record { memory = g.memory; registers = put (digit_x w) (opened (same_sources w) both); mdr = g.mdr }
    executed_related (Some Jump) = g
    executed_related (Some Halt) = g
    executed_related None = g

  pub instruction_related : Closed R → (w : ℕ) {k l m : Marks} → Related R k l m → Related R (instruction_marks w k) (instruction_marks w l) (instruction_marks w m)
  unfolding instruction_marks
  instruction_related C w {k} {l} {m} g =
      let fresh : Related R (mdr_marked 0 k) (mdr_marked 0 l) (mdr_marked 0 m) = record { memory = g.memory; registers = g.registers; mdr = C.none } in
      executed_related C w fresh (decode_word w)

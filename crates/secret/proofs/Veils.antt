-- One instruction of two guarded machines of which a report shows the same: where the two tests let it through, a report shows the same of them after it.
-- Assumes nothing.
use Rattle.std.specs.Prelude.{None, Option, Some}
use Rattle.isa.specs.declared.opcode.Opcode.{Opcode}
use Prim.Native.Nat.{ℕ}
use mathlib.Core.Path.{◌≡◌, refl, ap, ap₂, sym, subst, ◌∙◌}
use mathlib.Core.Bool.{Bool, true, false, cond, not, ◌&&◌, ◌||◌}
use mathlib.Core.List.{List}
use borrow.Author.Tests.{eqb-true, eq-eqb}
use lib.Bits.{bit_and, bit_or, bit_xor}
use lib.Dec.{eqb}
use lib.ListN.{get_or, set}
use Rattle.isa.specs.declared.opcode.Opcode.TheVariants.{LoadImmediate, LoadRegister, LoadMemory, StoreMemory, Add, Negate, ShiftRight, ShiftLeft, And, Or, Xor, Jump, Halt}
use Rattle.isa.specs.Word.{decode_word, digit_x, digit_y, digit_z, byte_yz}
use Rattle.control.specs.Address.{reached_address}
use Rattle.plan.specs.Plan.{execute_text}
use Rattle.tick.specs.Tick.{execute_tick, sum16, negate16, right16, left16}
use Rattle.control.specs.Count.{count_tick}
use Rattle.vm.specs.Machine.{Machine}
use Rattle.vm.specs.Instruction.{step_instruction}
use Rattle.marks.specs.Marks.{Marks, mdr_marked, same_sources, shifts_out, executed_marks, instruction_marks}
use Rattle.vm.specs.Guard.{Guarded, next_word, guarded_step}
use Rattle.guard.specs.Stops.{is_jump, hidden_jump}
use Rattle.secret.proofs.Levels.{Twin, Twins, Level, Joins}
use Rattle.secret.proofs.Twins.{twin_refl, twin_map, twins_get, twins_set, twin_join, twin_cleared}
use Rattle.secret.proofs.Accepts.{or_false}
use Rattle.secret.proofs.Clears.{xor_cleared, shift_cleared}
use Rattle.vm.proofs.Steps.{Public, public_of, Hidden, hidden_of, whole, fetched, fetched_hidden, decoded, finished, instruction-ticks}

module _ (hid : ℕ → Bool) where
  -- hidden parts under the same marks
  record Agree (k : Marks) (a b : Hidden) : Type 0 where
    memory : Twins hid k.memory a.memory b.memory
    registers : Twins hid k.registers a.registers b.registers
    mdr : Twin hid k.mdr a.mdr b.mdr

  -- two machines after an instruction, under the same marks
  record Rests (k : Marks) (m n : Machine) : Type 0 where
    public : public_of m ≡ public_of n
    rest : m.state.control.tick ≡ 0
    memory : Twins hid k.memory m.memory n.memory
    registers : Twins hid k.registers m.registers n.registers
    mdr : Twin hid k.mdr m.state.control.mdr n.state.control.mdr

  -- a jump by the word w would test a hidden register: the marks of the registers
  abbrev unseen : ℕ → List ℕ → Bool
  unseen w r = not (eqb (digit_x w) 0) && (hid (get_or r (digit_x w) 0) || hid (get_or r 0 0))

  -- a jump that is let through tests what is seen
  tested_same : (x : ℕ) {k v w : List ℕ} → Twins hid k v w → (not (eqb x 0) && (hid (get_or k x 0) || hid (get_or k 0 0))) ≡ false → eqb (get_or v x 0) (get_or v 0 0) ≡ eqb (get_or w x 0) (get_or w 0 0)
  tested_same x {k} {v} {w} g h = go (eqb x 0) refl
    where
      go : (t : Bool) → eqb x 0 ≡ t → eqb (get_or v x 0) (get_or v 0 0) ≡ eqb (get_or w x 0) (get_or w 0 0)
      go true e =
          let z : x ≡ 0 = eqb-true x 0 e in
          eq-eqb (get_or v x 0) (get_or v 0 0) (ap (λ (r : ℕ). get_or v r 0) z) ∙ sym (eq-eqb (get_or w x 0) (get_or w 0 0) (ap (λ (r : ℕ). get_or w r 0) z))
      go false e =
          let b : (hid (get_or k x 0) ≡ false) × (hid (get_or k 0 0) ≡ false) = or_false (hid (get_or k x 0)) (hid (get_or k 0 0)) (rw e at h) in
          ap₂ eqb ((twins_get g x).seen b.0) ((twins_get g 0).seen b.1)

  module _ (J : Joins hid) (p : Public) {k : Marks} {a b : Hidden} (g : Agree k a b) where
    -- a register's twins, a register that is written, and the word that LOAD or STORE reaches
    reg : (r : ℕ) → Twin hid (get_or k.registers r 0) (get_or a.registers r 0) (get_or b.registers r 0)
    reg r = twins_get g.registers r

    put : (r : ℕ) {n x y : ℕ} → Twin hid n x y → Twins hid (set k.registers r n) (set a.registers r x) (set b.registers r y)
    put r t = twins_set g.registers r t

    word : Twin hid (get_or k.memory (reached_address p.ir) 0) (get_or a.memory (reached_address p.ir) 0) (get_or b.memory (reached_address p.ir) 0)
    word = twins_get g.memory (reached_address p.ir)

    -- register x, which is opened where both machines have 0 in it, whatever they had before
    clear : (c : Bool) {m x y : ℕ} → (c ≡ true → x ≡ 0) → (c ≡ true → y ≡ 0) → Twin hid m x y
        → let r = digit_x p.ir in Twins hid (set k.registers r (cond c 0 m)) (set a.registers r x) (set b.registers r y)
    clear c e f t = put (digit_x p.ir) (twin_cleared c e f t)

    -- a jump's public part by its test; no other instruction's has one
    jumps : unseen p.ir k.registers ≡ false → public_of (finished (Some Jump) p a) ≡ public_of (finished (Some Jump) p b)
    unfolding finished decoded execute_tick count_tick execute_text
    jumps h = rw (tested_same (digit_x p.ir) g.registers h)

    -- from the fourth tick on, by what the word is
    rests : (d : Option Opcode) → (is_jump d && unseen p.ir k.registers) ≡ false → Rests (executed_marks d p.ir k) (finished d p a) (finished d p b)
    unfolding finished decoded execute_tick count_tick execute_text
    rests (Some LoadImmediate) h = record { public = refl; rest = refl; memory = g.memory; registers = put (digit_x p.ir) twin_refl; mdr = g.mdr }
    rests (Some LoadRegister) h = record { public = refl; rest = refl; memory = g.memory; registers = put (digit_y p.ir) (reg (digit_z p.ir)); mdr = g.mdr }
    rests (Some LoadMemory) h = record { public = refl; rest = refl; memory = g.memory; registers = put (digit_x p.ir) word; mdr = word }
    rests (Some StoreMemory) h = record { public = refl; rest = refl; memory = twins_set g.memory (reached_address p.ir) (reg (digit_x p.ir)); registers = g.registers; mdr = reg (digit_x p.ir) }
    rests (Some Add) h = record { public = refl; rest = refl; memory = g.memory; registers = put (digit_x p.ir) (twin_join J sum16 (reg (digit_y p.ir)) (reg (digit_z p.ir))); mdr = g.mdr }
    rests (Some Negate) h = record { public = refl; rest = refl; memory = g.memory; registers = put (digit_y p.ir) (twin_map negate16 (reg (digit_y p.ir))); mdr = g.mdr }
    rests (Some ShiftRight) h = record { public = refl; rest = refl; memory = g.memory; registers = clear (shifts_out p.ir) (λ e. (shift_cleared p.ir _ e).0) (λ e. (shift_cleared p.ir _ e).0) (twin_map (right16 (byte_yz p.ir)) (reg (digit_x p.ir))); mdr = g.mdr }
    rests (Some ShiftLeft) h = record { public = refl; rest = refl; memory = g.memory; registers = clear (shifts_out p.ir) (λ e. (shift_cleared p.ir _ e).1) (λ e. (shift_cleared p.ir _ e).1) (twin_map (left16 (byte_yz p.ir)) (reg (digit_x p.ir))); mdr = g.mdr }
    rests (Some And) h = record { public = refl; rest = refl; memory = g.memory; registers = put (digit_x p.ir) (twin_join J bit_and (reg (digit_y p.ir)) (reg (digit_z p.ir))); mdr = g.mdr }
    rests (Some Or) h = record { public = refl; rest = refl; memory = g.memory; registers = put (digit_x p.ir) (twin_join J bit_or (reg (digit_y p.ir)) (reg (digit_z p.ir))); mdr = g.mdr }
    rests (Some Xor) h = record { public = refl; rest = refl; memory = g.memory; registers = clear (same_sources p.ir) (xor_cleared p.ir a.registers) (xor_cleared p.ir b.registers) (twin_join J bit_xor (reg (digit_y p.ir)) (reg (digit_z p.ir))); mdr = g.mdr }
    rests (Some Jump) h = record { public = jumps h; rest = refl; memory = g.memory; registers = g.registers; mdr = g.mdr }
    rests (Some Halt) h = record { public = refl; rest = refl; memory = g.memory; registers = g.registers; mdr = g.mdr }
    rests None h = record { public = refl; rest = refl; memory = g.memory; registers = g.registers; mdr = g.mdr }

  module _ (J : Joins hid) where
    -- the whole instruction, of two machines with one public part and one set of marks
    together : (p : Public) {k : Marks} {a b : Hidden} → Agree k a b → p.tick ≡ 0 → hid (get_or k.memory p.pc 0) ≡ false → hidden_jump hid (get_or a.memory p.pc 0) k.registers ≡ false
        → Rests (instruction_marks (get_or a.memory p.pc 0) k) (step_instruction (whole p a)).machine (step_instruction (whole p b)).machine
    unfolding instruction_marks fetched fetched_hidden
    together p {k} {a} {b} g t s h =
        let w = get_or a.memory p.pc 0 in
        let v = get_or b.memory p.pc 0 in
        let same : w ≡ v = (twins_get g.memory p.pc).seen s in
        let after : Hidden → Machine = λ (c : Hidden). finished (decode_word w) (fetched w p) (fetched_hidden p.pc w c) in
        let left : after a ≡ (step_instruction (whole p a)).machine = sym (instruction-ticks (whole p a) t) in
        let right : after b ≡ (step_instruction (whole p b)).machine = (λ i. finished (decode_word (same i)) (fetched (same i) p) (fetched_hidden p.pc (same i) b)) ∙ sym (instruction-ticks (whole p b) t) in
        let fresh : Agree (mdr_marked 0 k) (fetched_hidden p.pc w a) (fetched_hidden p.pc w b) = record { memory = g.memory; registers = g.registers; mdr = twin_refl } in
        subst (λ (m : Machine). Rests (instruction_marks w k) m (step_instruction (whole p b)).machine) left
        (subst (λ (n : Machine). Rests (instruction_marks w k) (after a) n) right (rests J (fetched w p) fresh (decode_word w) h))

    -- the same as levels
    steps_level : (p : Public) {k : Marks} {a b : Hidden} → Agree k a b → p.tick ≡ 0 → hid (get_or k.memory p.pc 0) ≡ false → hidden_jump hid (get_or a.memory p.pc 0) k.registers ≡ false
        → Level hid (guarded_step (record { machine = whole p a; marks = k })) (guarded_step (record { machine = whole p b; marks = k })) × ((step_instruction (whole p a)).machine.state.control.tick ≡ 0)
    steps_level p {k} g t s h =
        let r = together p g t s h in
        (record { public = r.public; marks = ap (λ (w : ℕ). instruction_marks w k) ((twins_get g.memory p.pc).seen s); memory = r.memory; registers = r.registers; mdr = r.mdr }, r.rest)

    -- a whole instruction that the two tests let through; it ends at tick 0
    pub instruction_level : {g h : Guarded} → Level hid g h → g.machine.state.control.tick ≡ 0
        → hid (get_or g.marks.memory g.machine.state.control.pc 0) ≡ false → hidden_jump hid (next_word g.machine) g.marks.registers ≡ false
        → Level hid (guarded_step g) (guarded_step h) × ((guarded_step g).machine.state.control.tick ≡ 0)
    instruction_level {g} {h} l t s j =
        let other : record { machine = whole (public_of g.machine) (hidden_of h.machine); marks = g.marks } ≡ h = λ i. record { machine = whole (l.public i) (hidden_of h.machine); marks = l.marks i } in
        subst (λ (x : Guarded). Level hid (guarded_step g) (guarded_step x) × ((guarded_step g).machine.state.control.tick ≡ 0)) other
        (steps_level (public_of g.machine) (record { memory = l.memory; registers = l.registers; mdr = l.mdr }) t s j)

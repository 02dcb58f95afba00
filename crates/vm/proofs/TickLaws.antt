-- One tick: the register that it writes, the length of its text, and that what the calls of one tick say is `micro_step`.
-- Assumes nothing.
use Rattle.std.specs.Prelude.{None, Option, Some}
use Rattle.isa.specs.declared.opcode.Opcode.{Opcode}
use Prim.Native.Nat.{ℕ, zero, suc, ◌+◌, ◌≤◌, ◌<◌}
use native.Mathlib.Omega.{arith}
use mathlib.Core.Path.{◌≡◌, ◌∙◌}
use mathlib.Core.Bool.{Bool, true, false, cond, not, ◌&&◌}
use mathlib.Core.List.{List}
use lib.Dec.{leb, lit≤}
use lib.ListN.{length, length-map}
use Rattle.isa.specs.declared.opcode.Opcode.TheVariants.{LoadImmediate, LoadRegister, LoadMemory, StoreMemory, Add, Negate, ShiftRight, ShiftLeft, And, Or, Xor, Jump, Halt}
use Rattle.isa.specs.Text.{Text}
use Rattle.isa.specs.Sizes.{memory_words}
use Rattle.isa.specs.Text.{fixed_text, ascii, text}
use Rattle.isa.proofs.Texts.{length-padded}
use Rattle.isa.specs.Word.{decode_word}
use Rattle.isa.specs.Format.{hex4, fill, fill_byte}
use Rattle.plan.specs.Plan.{execute_ticks_of, fetch_text, load_text, store_text, execute_text, tick_template, tick_text}
use Rattle.control.specs.declared.control.Control.{Control}
use Rattle.control.specs.declared.control.State.{State}
use Rattle.control.specs.declared.control.Operands.{Operands}
use Rattle.control.specs.declared.control.Tick.{Tick}
use Rattle.control.specs.declared.counters.Counters.{Counters}
use Rattle.control.specs.Control.{with_control, to_tick}
use Rattle.tick.specs.Tick.{plain, next_pc, halting_tick, is_halt, decode_as, decode_tick, execute_tick, ended_tick, later_tick, onward, tick_of}
use Rattle.control.specs.Count.{count_tick}
use Rattle.trace.specs.declared.records.TraceRecord.{TraceRecord}
use Rattle.trace.specs.Trace.{pushed, tick_phase}
use Rattle.trace.specs.Cells.{register_of, registers_after, memory_after}
use Rattle.trace.specs.Forms.{registers_by}
use Rattle.trace.proofs.Writes.{one_of_sixteen}
use Rattle.trace.specs.Touched.{touched_by}
use Rattle.trace.specs.Touched.{Addressed}
use Rattle.vm.specs.Machine.{Machine, operands_of, next_text_on, next_text, after_tick, micro_step, done_by, next_done}

-- ---- a register that a tick writes is one of sixteen

execute_named : (d : Option Opcode) (n : ℕ) (s : State) (o : Operands) → register_of (execute_tick d n s o).write < 16
unfolding execute_tick
execute_named (Some LoadImmediate) n s o = omega arith
execute_named (Some LoadRegister) n s o = omega arith
execute_named (Some LoadMemory) zero s o = omega arith
execute_named (Some LoadMemory) (suc zero) s o = omega arith
execute_named (Some LoadMemory) (suc (suc n)) s o = omega arith
execute_named (Some StoreMemory) zero s o = omega arith
execute_named (Some StoreMemory) (suc zero) s o = omega arith
execute_named (Some StoreMemory) (suc (suc n)) s o = omega arith
execute_named (Some Add) n s o = omega arith
execute_named (Some Negate) n s o = omega arith
execute_named (Some ShiftRight) n s o = omega arith
execute_named (Some ShiftLeft) n s o = omega arith
execute_named (Some And) n s o = omega arith
execute_named (Some Or) n s o = omega arith
execute_named (Some Xor) n s o = omega arith
execute_named (Some Jump) n s o = omega arith
execute_named (Some Halt) n s o = omega arith
execute_named None n s o = omega arith

decode_named : (d : Option Opcode) (s : State) → register_of (decode_as d s).write < 16
decode_named (Some LoadImmediate) s = omega arith
decode_named (Some LoadRegister) s = omega arith
decode_named (Some LoadMemory) s = omega arith
decode_named (Some StoreMemory) s = omega arith
decode_named (Some Add) s = omega arith
decode_named (Some Negate) s = omega arith
decode_named (Some ShiftRight) s = omega arith
decode_named (Some ShiftLeft) s = omega arith
decode_named (Some And) s = omega arith
decode_named (Some Or) s = omega arith
decode_named (Some Xor) s = omega arith
decode_named (Some Jump) s = omega arith
decode_named (Some Halt) s = omega arith
decode_named None s = omega arith

onward-named : (n : ℕ) (q : Tick) → register_of q.write < 16 → register_of (onward n q).write < 16
onward-named n q h = go (leb q.state.control.execute_ticks (n + 1))
  where
    go : (b : Bool) → register_of (cond b (ended_tick q) (later_tick q)).write < 16
    go true = h
    go false = h

pub named : (k : ℕ) (s : State) (o : Operands) → register_of (tick_of k s o).write < 16
unfolding tick_of decode_tick
named zero s o = omega arith
named (suc zero) s o = omega arith
named (suc (suc zero)) s o = omega arith
named (suc (suc (suc zero))) s o = decode_named (decode_word s.control.ir) s
named (suc (suc (suc (suc n)))) s o = onward-named n (execute_tick (decode_word s.control.ir) n s o) (execute_named (decode_word s.control.ir) n s o)

-- ---- the address of a bus write is MAR

module _ (s : State) (o : Operands) (byte : s.control.mar < memory_words) where
  execute_sends : (d : Option Opcode) (n : ℕ) → Addressed (execute_tick d n s o).bus
  unfolding execute_tick
  execute_sends (Some LoadImmediate) n = tt
  execute_sends (Some LoadRegister) n = tt
  execute_sends (Some LoadMemory) zero = tt
  execute_sends (Some LoadMemory) (suc zero) = tt
  execute_sends (Some LoadMemory) (suc (suc n)) = tt
  execute_sends (Some StoreMemory) zero = tt
  execute_sends (Some StoreMemory) (suc zero) = tt
  execute_sends (Some StoreMemory) (suc (suc n)) = byte
  execute_sends (Some Add) n = tt
  execute_sends (Some Negate) n = tt
  execute_sends (Some ShiftRight) n = tt
  execute_sends (Some ShiftLeft) n = tt
  execute_sends (Some And) n = tt
  execute_sends (Some Or) n = tt
  execute_sends (Some Xor) n = tt
  execute_sends (Some Jump) n = tt
  execute_sends (Some Halt) n = tt
  execute_sends None n = tt

  decode_sends : (d : Option Opcode) → Addressed (decode_as d s).bus
  decode_sends (Some c) = go (is_halt c)
    where
      at : Control
      at = next_pc (execute_ticks_of (Some c)) s.control

      go : (b : Bool) → Addressed (cond b (halting_tick s at) (plain (with_control (to_tick 4 at) s))).bus
      go true = tt
      go false = tt
  decode_sends None = tt

  onward_sends : (n : ℕ) (q : Tick) → Addressed q.bus → Addressed (onward n q).bus
  onward_sends n q h = go (leb q.state.control.execute_ticks (n + 1))
    where
      go : (b : Bool) → Addressed (cond b (ended_tick q) (later_tick q)).bus
      go true = h
      go false = h

  sent : (k : ℕ) → Addressed (tick_of k s o).bus
  unfolding tick_of decode_tick
  sent zero = tt
  sent (suc zero) = tt
  sent (suc (suc zero)) = tt
  sent (suc (suc (suc zero))) = decode_sends (decode_word s.control.ir)
  sent (suc (suc (suc (suc n)))) = onward_sends n (execute_tick (decode_word s.control.ir) n s o) (execute_sends (decode_word s.control.ir) n)

  pub sends : (k : ℕ) {q : Tick} → q ≡ tick_of k s o → Addressed q.bus
  sends k e = rw e (sent k)

-- ---- no text of a tick is over 32 bytes

execute_fits : (d : Option Opcode) (n : ℕ) (taken : Bool) → length (ascii (execute_text d n taken)) ≤ 32
unfolding execute_text load_text store_text
execute_fits (Some LoadImmediate) n taken = lit≤ tt
execute_fits (Some LoadRegister) n taken = lit≤ tt
execute_fits (Some LoadMemory) zero taken = lit≤ tt
execute_fits (Some LoadMemory) (suc zero) taken = lit≤ tt
execute_fits (Some LoadMemory) (suc (suc n)) taken = lit≤ tt
execute_fits (Some StoreMemory) zero taken = lit≤ tt
execute_fits (Some StoreMemory) (suc zero) taken = lit≤ tt
execute_fits (Some StoreMemory) (suc (suc n)) taken = lit≤ tt
execute_fits (Some Add) n taken = lit≤ tt
execute_fits (Some Negate) n taken = lit≤ tt
execute_fits (Some ShiftRight) n taken = lit≤ tt
execute_fits (Some ShiftLeft) n taken = lit≤ tt
execute_fits (Some And) n taken = lit≤ tt
execute_fits (Some Or) n taken = lit≤ tt
execute_fits (Some Xor) n taken = lit≤ tt
execute_fits (Some Jump) n true = lit≤ tt
execute_fits (Some Jump) n false = lit≤ tt
execute_fits (Some Halt) n taken = lit≤ tt
execute_fits None n taken = lit≤ tt

template-fits : (t : ℕ) (taken : Bool) (w : ℕ) → length (ascii (tick_template t taken w)) ≤ 32
unfolding tick_template fetch_text
template-fits zero taken w = lit≤ tt
template-fits (suc zero) taken w = lit≤ tt
template-fits (suc (suc zero)) taken w = lit≤ tt
template-fits (suc (suc (suc zero))) taken w = lit≤ tt
template-fits (suc (suc (suc (suc n)))) taken w = execute_fits (decode_word w) n taken

text-fits : (t : ℕ) (taken : Bool) (w : ℕ) → (text (tick_text t taken w)).len ≤ 32
unfolding fixed_text tick_text fill
text-fits t taken w = rw (length-map (ascii (tick_template t taken w)) (fill_byte (hex4 w))) (template-fits t taken w)

pub short-text : (t : ℕ) (taken : Bool) (w : ℕ) {x : Text} → x ≡ text (tick_text t taken w) → x.len ≤ 32
short-text t taken w e = rw e (text-fits t taken w)

-- so its field is 32 bytes long
pub text_field : (t : ℕ) (taken : Bool) (w : ℕ) {x : Text} → x ≡ text (tick_text t taken w) → length x.bytes ≡ 32
unfolding fixed_text
text_field t taken w e = rw e (length-padded 32 (tick_text t taken w) (text-fits t taken w))

-- ---- the calls of one tick

module _ (m : Machine) (o : Operands) (x : Text) (ph : ℕ) (q : Tick) (eo : o ≡ operands_of m.state m.memory m.registers) (eq : q ≡ tick_of m.state.control.tick m.state o) where
  pub is_tick : (k : Counters) {m' r' l' : List ℕ} {t' : List TraceRecord}
      → x ≡ next_text_on m.state o
      → ph ≡ tick_phase m.state.control.tick
      → k ≡ count_tick q.bus q.completed m.counters
      → m' ≡ memory_after q.bus m.memory
      → r' ≡ registers_by q.write m.registers
      → t' ≡ pushed (record { number = k.micro_operations; address = q.state.control.instruction_address; phase = ph; text = x }) m.trace
      → l' ≡ touched_by q.bus m.touched
      → record { state = q.state; counters = k; memory = m'; registers = r'; trace = t'; touched = l' } ≡ micro_step m
  unfolding micro_step next_text
  is_tick k ex eph ek em er et el =
      (λ i. record { state = q.state; counters = k; memory = em i; registers = (er ∙ one_of_sixteen q.write m.registers (rw eq (named m.state.control.tick m.state o))) i; trace = et i; touched = el i })
      ∙ (λ i. record {
        state = q.state;
        counters = ek i;
        memory = memory_after q.bus m.memory;
        registers = registers_after q.write m.registers;
        trace = pushed (record { number = (ek i).micro_operations; address = q.state.control.instruction_address; phase = eph i; text = x }) m.trace;
        touched = touched_by q.bus m.touched;
      })
      ∙ (λ i. after_tick m (ex i) (eq i))
      ∙ (λ i. after_tick m (next_text_on m.state (eo i)) (tick_of m.state.control.tick m.state (eo i)))

  pub is_done : {f : Bool} → f ≡ q.state.control.halted && not q.completed → record { bus = q.bus; write = q.write; faulted = f } ≡ next_done m
  unfolding next_done
  is_done e =
      (λ i. record { bus = q.bus; write = q.write; faulted = e i })
      ∙ (λ i. done_by (eq i))
      ∙ (λ i. done_by (tick_of m.state.control.tick m.state (eo i)))

-- A tick of a running machine leaves a control unit that a machine can have: it ends the instruction, or goes on to the next tick.
-- Assumes nothing.
use Rattle.std.proofs.Common.{◌≡◌, ℕ, zero, suc, ◌+◌, ◌%◌, ◌^◌, ◌<◌, ◌≤◌, Bool, true, false, cond, leb, sym, refl, ap, ◌∙◌, arith, leb-false, None, Option, Some}
use Rattle.isa.specs.declared.opcode.Opcode.{Opcode}
use Rattle.isa.specs.declared.opcode.Opcode.TheVariants.{LoadMemory, StoreMemory, Halt}
use Rattle.isa.specs.Word.{decode_word}
use Rattle.plan.specs.Plan.{execute_ticks_of}
use Rattle.plan.proofs.Plans.{ticks-few}
use Rattle.control.specs.declared.control.Control.{Control}
use Rattle.control.specs.declared.control.State.{State}
use Rattle.control.specs.declared.control.Operands.{Operands}
use Rattle.control.specs.declared.control.Tick.{Tick}
use Rattle.tick.specs.Tick.{decode_as, decode_tick, execute_tick, ended_tick, later_tick, onward, tick_of}
use Rattle.control.specs.Lawful.{lawful}
use Rattle.control.proofs.Lawfuls.{lawful_fetch, lawful_execute, lawful-small, lawful-count}

-- after a tick from t: a machine, and the instruction's end or its next tick
pub record Next (t : ℕ) (c : Control) : Type 0 where
  pub machine : lawful c ≡ true
  pub goes : (c.tick ≡ 0 → ⊥) → (c.tick ≡ t + 1) × (c.halted ≡ false)

ends : (t : ℕ) (c : Control) → c.tick ≡ 0 → Next t c
ends t c e = record { machine = lawful_fetch c (omega arith); goes = λ n. absurd (n e) }

fetches : (t : ℕ) (c : Control) → c.tick ≡ t + 1 → t < 3 → c.halted ≡ false → Next t c
fetches t c e h r = record { machine = lawful_fetch c (omega arith); goes = λ _. (e, r) }

executes : (c : Control) → c.tick ≡ 4 → c.halted ≡ false → c.execute_ticks ≡ execute_ticks_of (decode_word c.ir) → 0 < c.execute_ticks → Next 3 c
executes c t r e h = record { machine = lawful_execute c (omega arith) e (omega arith); goes = λ _. (t, r) }

-- the fourth tick, by what the word is
decodes_next : (s : State) (d : Option Opcode) → decode_word s.control.ir ≡ d → s.control.halted ≡ false → Next 3 (decode_as d s).state.control
decodes_next s (Some Halt) e r = ends 3 _ refl
decodes_next s (Some _) e r = executes _ refl r (ap execute_ticks_of (sym e)) (omega arith)
decodes_next s None e r = ends 3 _ refl

-- what an execute tick keeps of the control unit, before the next tick's number is set
record Kept (a b : Control) : Type 0 where
  ir : b.ir ≡ a.ir
  tick : b.tick ≡ a.tick
  ticks : b.execute_ticks ≡ a.execute_ticks
  halted : b.halted ≡ a.halted

kept : {a b : Control} → b.ir ≡ a.ir → b.tick ≡ a.tick → b.execute_ticks ≡ a.execute_ticks → b.halted ≡ a.halted → Kept a b
kept i t n h = record { ir = i; tick = t; ticks = n; halted = h }

keeps : (d : Option Opcode) (n : ℕ) (s : State) (o : Operands) → Kept s.control (execute_tick d n s o).state.control
unfolding execute_tick
keeps (Some LoadMemory) zero s o = kept refl refl refl refl
keeps (Some LoadMemory) (suc zero) s o = kept refl refl refl refl
keeps (Some LoadMemory) (suc (suc n)) s o = kept refl refl refl refl
keeps (Some StoreMemory) zero s o = kept refl refl refl refl
keeps (Some StoreMemory) (suc zero) s o = kept refl refl refl refl
keeps (Some StoreMemory) (suc (suc n)) s o = kept refl refl refl refl
keeps _ n s o = kept refl refl refl refl

-- execute tick n
onward_next : (n t : ℕ) (c : Control) (q : Tick) → Kept c q.state.control → c.tick ≡ t → t ≡ n + 4 → t ≤ 6 → c.halted ≡ false → c.execute_ticks ≡ execute_ticks_of (decode_word c.ir)
    → Next t (onward n q).state.control
onward_next n t c q k m f h r e = go (leb q.state.control.execute_ticks (n + 1)) refl
  where
    go : (b : Bool) → leb q.state.control.execute_ticks (n + 1) ≡ b → Next t (cond b (ended_tick q) (later_tick q)).state.control
    go true p = ends t _ refl
    go false p =
        let l = leb-false q.state.control.execute_ticks (n + 1) p in
        let next : (q.state.control.tick + 1) % 2 ^ 8 ≡ t + 1 = omega (arith, k.tick, m, h) in
        let count : q.state.control.execute_ticks ≡ execute_ticks_of (decode_word q.state.control.ir) = k.ticks ∙ e ∙ ap (λ (w : ℕ). execute_ticks_of (decode_word w)) (sym k.ir) in
        record {
          machine = lawful_execute (later_tick q).state.control (omega (arith, next, count, l, f, ticks-few (decode_word q.state.control.ir))) count (omega (arith, next, l, f));
          goes = λ _. (next, k.halted ∙ r);
        }

next_at : (s : State) (o : Operands) → lawful s.control ≡ true → s.control.halted ≡ false → (t : ℕ) → s.control.tick ≡ t → Next t (tick_of t s o).state.control
unfolding tick_of decode_tick
next_at s o ok r zero e = fetches 0 _ refl (omega arith) r
next_at s o ok r (suc zero) e = fetches 1 _ refl (omega arith) r
next_at s o ok r (suc (suc zero)) e = fetches 2 _ refl (omega arith) r
next_at s o ok r (suc (suc (suc zero))) e = decodes_next s (decode_word s.control.ir) refl r
next_at s o ok r (suc (suc (suc (suc n)))) e =
    let d = decode_word s.control.ir in
    let small = lawful-small s.control ok in
    onward_next n _ s.control (execute_tick d n s o) (keeps d n s o) e (omega arith) (omega (arith, e, small)) r (lawful-count s.control ok r (omega (arith, e)))

pub tick_next : (s : State) (o : Operands) → lawful s.control ≡ true → s.control.halted ≡ false → Next s.control.tick (tick_of s.control.tick s o).state.control
tick_next s o ok r = next_at s o ok r s.control.tick refl

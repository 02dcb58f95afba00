-- The code's whole instruction is the definition's, and so its ticks.
-- Assumes nothing.
use Prim.Native.Nat.{ℕ, zero, suc, ◌+◌, ◌%◌, ◌^◌}
use mathlib.Core.Path.{◌≡◌, refl, ap, sym, ◌∙◌}
use mathlib.Core.Bool.{Bool, true, false, cond}
use mathlib.Core.List.{List}
use lib.ListN.{take, get_or}
use Rattle.isa.specs.Text.{text}
use Rattle.isa.specs.Word.{decode_word}
use Rattle.plan.specs.Plan.{execute_ticks_of, tick_text}
use Rattle.control.specs.declared.control.Control.{Control}
use Rattle.control.specs.Lawful.{lawful}
use Rattle.trace.specs.declared.records.TraceRecord.{TraceRecord}
use Rattle.control.specs.Count.{more}
use Rattle.trace.specs.Trace.{Arrays, live, ArraysFit, tick_phase}
use Rattle.trace.specs.Lines.{lines, logged}
use Rattle.trace.specs.Touched.{touched_by, TouchFit}
use Rattle.trace.specs.Forms.{push_into, logged_in, touch_in}
use Rattle.trace.specs.Cells.{memory_after}
use Rattle.trace.proofs.Rings.{pushed-live}
use Rattle.trace.proofs.Places.{touched-live}
use Rattle.trace.proofs.Writes.{one_of_sixteen}
use Rattle.direct.specs.declared.work.Work.{Work}
use Rattle.direct.specs.Work.{operands, state_by, count_whole}
use Rattle.direct.specs.Light.{work_of, taken_by, records_of}
use Rattle.direct.specs.Whole.{Held, Wholly, whole_on}
use Rattle.direct.proofs.Words.{named, sends}
use Rattle.vm.specs.Machine.{Machine}
use Rattle.vm.specs.Instruction.{Steps, step_instruction}
use Rattle.vm.specs.Direct.{light_of, last_done, direct_on, direct}
use Rattle.vm.proofs.TickLaws.{text_field, short-text}
use Rattle.vm.proofs.TickTurns.{at}
use Rattle.vm.proofs.Direct.{direct-steps}

-- ---- its records

pub record Logged (es : List TraceRecord) (q r : Arrays) : Type 0 where
  pub same : live r ≡ logged es (live q)
  pub fit : ArraysFit r

lines-live : (n t k a : ℕ) (taken : Bool) (w : ℕ) (q : Arrays) → ArraysFit q → Logged (lines n t k a taken w) q (logged_in (lines n t k a taken w) q)
unfolding lines logged logged_in
lines-live zero t k a taken w q f = record { same = refl; fit = f }
lines-live (suc n) t k a taken w q f =
    let e : TraceRecord = record { number = more (t + 1) k; address = a; phase = tick_phase t; text = text (tick_text t taken w) } in
    let z = pushed-live e q refl (text_field t taken w refl) (short-text t taken w refl) f in
    let r = lines-live n (t + 1) k a taken w (push_into e q) z.1 in
    record { same = r.same ∙ ap (logged (lines n (t + 1) k a taken w)) z.0; fit = r.fit }

-- ---- the whole of it

-- a control unit at tick 0 is one that a machine can have
pub at_rest_lem : (c : Control) → c.tick ≡ 0 → lawful c ≡ true
unfolding lawful
at_rest_lem c t = rw t (go c.halted)
  where
    go : (h : Bool) → cond h true true ≡ true
    go true = refl
    go false = refl

-- the machine that the code's values and arrays make, and what they are between two ticks
abbrev pub viewed : Held → Machine
viewed h = record {
  state = h.state;
  counters = h.counters;
  memory = h.memory;
  registers = h.registers;
  trace = live h.arrays;
  touched = take h.places.count h.places.items;
}

pub record HeldFit (h : Held) : Type 0 where
  pub tick : h.state.control.tick ≡ 0
  pub touched : TouchFit h.places.count h.places.items
  pub trace : ArraysFit h.arrays

-- the same of what the code answers
abbrev pub steps_of : Wholly → Steps
steps_of x = record { machine = viewed x.held; ticks = x.ticks; done = record { bus = x.bus; write = x.write; faulted = x.faulted } }

module _ (h : Held) (f : HeldFit h) where
  abbrev w : ℕ
  w = get_or h.memory h.state.control.pc 0

  abbrev k : Work
  k = work_of (decode_word w) w (light_of (viewed h))

  abbrev p : ℕ
  p = (h.state.control.pc + 1) % 2 ^ 8

  records : Logged (lines (4 + execute_ticks_of (decode_word w)) 0 h.counters.micro_operations h.state.control.pc (taken_by w h.registers) w) h.arrays (whole_on w h).held.arrays
  unfolding whole_on
  records = lines-live (4 + execute_ticks_of (decode_word w)) 0 h.counters.micro_operations h.state.control.pc (taken_by w h.registers) w h.arrays f.trace

  touches : (take (touch_in k.bus h.places).count (touch_in k.bus h.places).items ≡ touched_by k.bus (take h.places.count h.places.items)) × TouchFit (touch_in k.bus h.places).count (touch_in k.bus h.places).items
  touches = touched-live k.bus h.places refl (sends (decode_word w) w p h.state.last_alu (operands w h.memory h.registers) refl) f.touched

  whole_view : viewed (whole_on w h).held ≡ direct (viewed h)
  unfolding whole_on direct_on records_of
  whole_view =
      let r = one_of_sixteen k.write h.registers (named (decode_word w) w p h.state.last_alu (operands w h.memory h.registers) refl) in
      λ i. record {
        state = state_by (decode_word w) w h.state.control.pc h.state.fault k;
        counters = count_whole (decode_word w) k.bus h.counters;
        memory = memory_after k.bus h.memory;
        registers = r i;
        trace = records.same i;
        touched = touches.0 i;
      }

  pub whole_steps : h.state.control.halted ≡ false → steps_of (whole_on w h) ≡ step_instruction (viewed h)
  unfolding whole_on
  whole_steps r = (λ i. at (whole_view i) (4 + execute_ticks_of (decode_word w)) (last_done (decode_word w) k)) ∙ sym (direct-steps (viewed h) f.tick r)

  pub whole_fit : HeldFit (whole_on w h).held
  unfolding whole_on
  whole_fit = record { tick = refl; touched = touches.1; trace = records.fit }

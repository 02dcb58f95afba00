-- From the test of a state to what the ticks need of it and back, and the answers of the calls by their tests.
-- Assumes nothing.
use Rattle.std.specs.Prelude.{Ok}
use Prim.Native.Nat.{ℕ, zero, suc, ◌≤◌, ◌-◌}
use native.Mathlib.Omega.{arith}
use mathlib.Core.Path.{◌≡◌, refl, ap, sym, ◌∙◌}
use mathlib.Core.Bool.{Bool, true, false}
use mathlib.Core.List.{List, [], ◌∷◌, map}
use borrow.Author.Tests.{leb-true, le-leb}
use lib.Dec.{leb}
use Rattle.std.specs.Prelude.{Result, Ok}
use Rattle.encoding.specs.declared.refusal.Refusal.{Refusal}
use lib.ListN.{length, drop, get_or, length-map}
use Rattle.isa.specs.Sizes.{memory_words}
use Rattle.isa.specs.Text.{Text}
use Rattle.isa.specs.Text.{text}
use Rattle.disasm.specs.Disassembly.{disassemble_text}
use Rattle.plan.specs.declared.plan.TransferPlan.{TransferPlan}
use Rattle.control.specs.Lawful.{lawful}
use Rattle.trace.specs.declared.records.TraceRecord.{TraceRecord}
use Rattle.vm.specs.declared.parts.Done.{Done}
use Rattle.trace.specs.Trace.{live_texts, live_lengths, short_texts, take_last, texts_in, addresses_in, phases_in}
use Rattle.vm.specs.Machine.{Machine, next_text, next_done, micro_step}
use Rattle.vm.specs.Instruction.{Steps, started, steps, step_instruction, tick_texts, texts_from}
use Rattle.vm.specs.View.{Parts, view}
use Rattle.vm.specs.Refusal.{parts_ok}
use Rattle.vm.specs.Forms.{Sizes, Fit, sound}
use Rattle.vm.specs.Calls.{answered}
use Rattle.vm.specs.StepCalls.{has_fault, op_after, micro_op, effect_if, instruction_report_on, halted_texts, halted_report, instruction_report}
use Rattle.isa.proofs.Truths.{both}
use Rattle.vm.proofs.Newest.{texts_of_lem, trace-length, one_step, made, few}

pub fit : (q : Parts) (n : ℕ) → sound n q ≡ true → Sizes q → Fit q
unfolding parts_ok
fit q n e z =
    let c = q.core in
    let e1 = both (lawful c.state.control) _ e in
    let e2 = both (leb n memory_words) _ e1.1 in
    let e3 = both (leb c.trace_len 512) _ e2.1 in
    let e4 = both (short_texts (live_lengths c.trace_start c.trace_len q.lengths)) _ e3.1 in
    let e5 = both (leb c.touched_len memory_words) _ e4.1 in
    record {
      control = e1.0;
      touched = record { count = leb-true c.touched_len memory_words e5.0; long = z.touched; below = z.bytes; differ = e5.1 };
      trace = record { count = leb-true c.trace_len 512 e3.0; columns = z.columns; numbers = z.numbers; lengths = z.lengths; short = e4.0 };
    }

-- what the ticks leave is a machine, where the image's length was one's
pub lasts : (p q : Parts) (n : ℕ) → sound n p ≡ true → Fit q → sound n q ≡ true
unfolding parts_ok
lasts p q n e f =
    let size = (both (leb n memory_words) _ (both (lawful p.core.state.control) _ e).1).0 in
    rw (f.control, size, le-leb _ _ f.trace.count, f.trace.short, le-leb _ _ f.touched.count) f.touched.differ

-- ---- the texts of the ticks that were made are the newest of the trace

drop-map : {A B : Type 0} (f : A → B) (n : ℕ) (l : List A) → drop n (map f l) ≡ map f (drop n l)
drop-map f zero l = refl
drop-map f (suc n) [] = refl
drop-map f (suc n) (x ∷ l) = drop-map f n l

abbrev text_of : TraceRecord → Text
text_of r = r.text

abbrev texts_live : Parts → List Text
texts_live q = live_texts q.core.trace_start q.core.trace_len (texts_in q.columns) q.lengths

newest-texts : (q : Parts) (n : ℕ) → take_last n (texts_live q) ≡ map text_of (take_last n (view q).trace)
newest-texts q n =
    ap (take_last n) (sym (texts_of_lem q.core.trace_start q.core.trace_len (texts_in q.columns) q.numbers (addresses_in q.columns) (phases_in q.columns) q.lengths))
    ∙ ap (λ (k : ℕ). drop (k - n) (map text_of (view q).trace)) (length-map (view q).trace text_of)
    ∙ drop-map text_of (length (view q).trace - n) (view q).trace

module _ (f n : ℕ) (p : Parts) {q : Parts} (d : Done) (small : f ≤ 512) (fp : Fit p) (fq : Fit q) (e : ◌≡◌ {A = Steps} (record { machine = view q; ticks = n; done = d }) (steps f (started (view p)))) where
  long : length (view p).trace ≤ 512
  long = rw (trace-length p.core.trace_start p.core.trace_len (texts_in p.columns) p.numbers (addresses_in p.columns) (phases_in p.columns) p.lengths fp.trace.count) fp.trace.count

  pub texts-made : take_last n (texts_live q) ≡ tick_texts f (view p)
  texts-made = newest-texts q n ∙ ap (λ (s : Steps). map text_of (take_last s.ticks s.machine.trace)) e ∙ made f (view p) small long

  pub ticks-few : (n ≤ f) × (n ≤ q.core.trace_len)
  ticks-few =
      let k = few f (view p) small long in
      let t = ap (λ (s : Steps). s.ticks) e in
      let m = ap (λ (s : Steps). length s.machine.trace) e in
      let l = trace-length q.core.trace_start q.core.trace_len (texts_in q.columns) q.numbers (addresses_in q.columns) (phases_in q.columns) q.lengths fq.trace.count in
      (omega (arith, k.0, t), omega (arith, k.1, t, m, l))

-- ---- `micro_step` and `step_instruction` by their tests

pub moves : {A : Type 0} {r : Result (Unit {0}) Refusal} {u : Unit {0}} {h : Bool} {a moving : A} (still : A) (m : Machine) {m' next : Machine} → r ≡ Ok u → h ≡ false → a ≡ moving → m' ≡ next → answered (Ok a) m' ≡ effect_if r h still moving m next
moves still m e t s w = rw (e, t, s, w)

-- ---- what the two calls report

-- the one text of one tick
module _ (n : ℕ) (p : Parts) {q : Parts} (d : Done) (fp : Fit p) (fq : Fit q) (e : ◌≡◌ {A = Steps} (record { machine = view q; ticks = n; done = d }) (steps 1 (started (view p)))) where
  one : n ≡ 1
  one = ap (λ (s : Steps). s.ticks) (e ∙ one_step (view p))

  pub has_one : 1 ≤ q.core.trace_len
  has_one = omega (arith, one, (ticks-few 1 n p d (omega arith) fp fq e).1)

  pub first_text : get_or (take_last 1 (texts_live q)) 0 (text []) ≡ next_text (view p)
  unfolding tick_texts
  first_text =
      ap (λ (k : ℕ). get_or (take_last k (texts_live q)) 0 (text [])) (sym one)
      ∙ ap (λ (t : List Text). get_or t 0 (text [])) (texts-made 1 n p d (omega arith) fp fq e)

pub made_op : (v : Machine) {m : Machine} {n : ℕ} {d : Done} {x : Text} → ◌≡◌ {A = Steps} (record { machine = m; ticks = n; done = d }) (record { machine = micro_step v; ticks = 1; done = next_done v }) → x ≡ next_text v
    → op_after v.state.control.tick m.state d x ≡ micro_op v
unfolding micro_op
made_op v e x = (λ i. op_after v.state.control.tick (e i).machine.state (e i).done (x i))

pub still_report : (v : Machine) {x : Text} {y : TransferPlan} {f : Bool} → let w = get_or v.memory v.state.control.pc 0 in x ≡ text (disassemble_text w) → y ≡ halted_texts → f ≡ has_fault v.state.fault
    → record { address = v.state.control.pc; word = w; text = x; micro_ops = y; halted = true; faulted = f } ≡ halted_report v
unfolding halted_report
still_report v a b c = λ i. record { address = v.state.control.pc; word = get_or v.memory v.state.control.pc 0; text = a i; micro_ops = b i; halted = true; faulted = c i }

pub made_report : (v : Machine) {m : Machine} {n : ℕ} {d : Done} {h : Bool} {x : Text} {y : TransferPlan} → let w = get_or v.memory v.state.control.pc 0 in record { machine = m; ticks = n; done = d } ≡ steps 7 (started v) → h ≡ m.state.control.halted → x ≡ text (disassemble_text w) → y ≡ texts_from (tick_texts 7 v)
    → record { address = v.state.control.pc; word = w; text = x; micro_ops = y; halted = h; faulted = d.faulted } ≡ instruction_report v
unfolding instruction_report step_instruction
made_report v {d = d} e h x y =
    (λ i. record { address = v.state.control.pc; word = get_or v.memory v.state.control.pc 0; text = x i; micro_ops = y i; halted = h i; faulted = d.faulted })
    ∙ (λ i. instruction_report_on v (texts_from (tick_texts 7 v)) (e i).machine.state.control.halted (e i).done.faulted)

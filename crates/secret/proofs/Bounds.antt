-- What a guarded run leaves: at most 512 trace records, each with a text that fits its field, and at most 256 touched addresses.
-- Assumes nothing.
use Rattle.std.specs.Prelude.{None, Option, Some}
use Rattle.isa.specs.declared.opcode.Opcode.{Opcode}
use Prim.Native.Nat.{ℕ, zero, suc, ◌+◌, ◌≤◌, ◌<◌}
use native.Mathlib.Omega.{arith}
use mathlib.Core.Path.{◌≡◌, refl, ap}
use mathlib.Core.Bool.{Bool, true, false, cond}
use mathlib.Core.List.{List, [], ◌∷◌, ◌++◌}
use borrow.Author.Tests.{ltb-true}
use lib.Dec.{eqb, leb, ltb}
use lib.ListN.{length, get_or, drop, length-append, length-drop}
use lib.Seq.{get_or-drop}
use Rattle.isa.specs.Sizes.{memory_words, text_width}
use Rattle.isa.specs.declared.opcode.Opcode.TheVariants.{LoadImmediate, LoadRegister, LoadMemory, StoreMemory, Add, Negate, ShiftRight, ShiftLeft, And, Or, Xor, Jump, Halt}
use Rattle.isa.specs.Text.{Text}
use Rattle.isa.specs.Text.{fixed_text, text, text_of, padded}
use Rattle.isa.specs.Word.{decode_word, byte_yz}
use Rattle.isa.proofs.Texts.{text_of-text}
use Rattle.plan.specs.Plan.{execute_ticks_of, tick_text}
use Rattle.control.specs.declared.control.State.{State}
use Rattle.control.specs.declared.control.Control.{Control}
use Rattle.control.specs.declared.control.Operands.{Operands}
use Rattle.control.specs.declared.control.Tick.{Tick}
use Rattle.control.specs.declared.control.BusTransfer.{BusTransfer}
use Rattle.control.specs.declared.control.BusTransfer.TheVariants.{Read, Write}
use Rattle.control.specs.Control.{with_control, to_tick}
use Rattle.tick.specs.Tick.{decode_tick, decode_to, next_pc, halting_tick, is_halt, plain, execute_tick, load_tick, store_tick, ended_tick, later_tick, onward, tick_of}
use Rattle.trace.specs.declared.records.TraceRecord.{TraceRecord}
use Rattle.guard.specs.declared.stops.GuardedStop.{GuardedStop}
use Rattle.guard.specs.declared.stops.GuardedStop.TheVariants.{Halted, Breakpoint, Fault as Faulted, Budget, HiddenWord, HiddenJump}
use Rattle.trace.specs.Trace.{pushed, live_trace, trace_limit}
use Rattle.trace.specs.Touched.{noted, touched_by, distinct}
use Rattle.encoding.specs.Bytes.{member}
use Rattle.vm.specs.Machine.{Machine, operands_of, next_text, next_tick, micro_step}
use Rattle.vm.specs.Instruction.{Steps, started, ticked, unless_zero, steps, step_instruction}
use Rattle.guard.specs.Stops.{Verdict, go, stop, after, stop_number}
use Rattle.vm.specs.Run.{closed}
use Rattle.vm.specs.Calls.{restarted}
use Rattle.vm.specs.Guard.{Guarded, guarded_step, guarded_end, guard, guarded_run, guarded_start, guarded_of}
use Rattle.marks.specs.Owners.{hidden_from}
use Rattle.guard.specs.Input.{Input}
use Rattle.trace.proofs.Lists.{few, below_of, distinct_snoc}
use Rattle.vm.proofs.TickLaws.{short-text}
use Rattle.secret.specs.Report.{no_record}
use Rattle.secret.proofs.Accepts.{append_below}

-- ---- the texts

-- a text that was made of at most 32 bytes
pub record Fits (x : Text) : Type 0 where
  pub bytes : List ℕ
  pub made : x ≡ text bytes
  pub few : length bytes ≤ text_width

-- its live bytes fit
pub live-fits : (x : Text) → Fits x → length (text_of x) ≤ text_width
live-fits x f = rw (f.made, text_of-text f.bytes) f.few

-- the whole of its array is its live bytes, zero padded
pub whole_array : (x : Text) → Fits x → padded text_width (text_of x) ≡ x.bytes
unfolding fixed_text
whole_array x f = rw f.made (ap (padded text_width) (text_of-text f.bytes))

none-fits : Fits (text [])
none-fits = record { bytes = []; made = refl; few = omega arith }

-- each text of a trace
abbrev AllFit : List TraceRecord → Type 0
AllFit t = (i : ℕ) → Fits (get_or t i no_record).text

snoc_fits : (t : List TraceRecord) (r : TraceRecord) → AllFit t → Fits r.text → AllFit (t ++ (r ∷ []))
snoc_fits [] r h f zero = f
snoc_fits [] r h f (suc i) = none-fits
snoc_fits (x ∷ t) r h f zero = h 0
snoc_fits (x ∷ t) r h f (suc i) = snoc_fits t r (λ j. h (suc j)) f i

pushed-fits : (t : List TraceRecord) (r : TraceRecord) → length t ≤ trace_limit → AllFit t → Fits r.text → (length (pushed r t) ≤ trace_limit) × AllFit (pushed r t)
unfolding pushed
pushed-fits t r n h f = at (ltb (length t) trace_limit) refl
  where
    at : (b : Bool) → ltb (length t) trace_limit ≡ b → (length (cond b t (drop 1 t) ++ (r ∷ [])) ≤ trace_limit) × AllFit (cond b t (drop 1 t) ++ (r ∷ []))
    at true e = let l = ltb-true (length t) trace_limit e in (simp length-append (omega arith), snoc_fits t r h f)
    at false e =
        (simp (length-append, length-drop) (omega arith), snoc_fits (drop 1 t) r (λ i. rw (get_or-drop 1 t i no_record) (h (1 + i))) f)

-- ---- the touched addresses

abbrev AllBytes : List ℕ → Type 0
AllBytes l = (i : ℕ) → get_or l i 0 < memory_words

-- the address of a bus write is one
abbrev BusFits : Option BusTransfer → Type 0
BusFits None = Unit {0}
BusFits (Some (Read a v)) = Unit {0}
BusFits (Some (Write a v)) = a < memory_words

noted-differ : (a : ℕ) (l : List ℕ) → distinct l ≡ true → distinct (noted a l) ≡ true
unfolding noted
noted-differ a l d = at (member a l) refl
  where
    at : (b : Bool) → member a l ≡ b → distinct (cond b l (l ++ (a ∷ []))) ≡ true
    at true e = d
    at false e = distinct_snoc a l d e

single_below : (a : ℕ) → a < memory_words → AllBytes (a ∷ [])
single_below a h zero = h
single_below a h (suc i) = omega arith

noted-below : (a : ℕ) (l : List ℕ) → a < memory_words → AllBytes l → AllBytes (noted a l)
unfolding noted
noted-below a l h k = at (member a l)
  where
    at : (b : Bool) → AllBytes (cond b l (l ++ (a ∷ [])))
    at true = k
    at false = append_below memory_words l (a ∷ []) k (single_below a h)

touched-fits : (b : Option BusTransfer) (l : List ℕ) → BusFits b → distinct l ≡ true → AllBytes l → (distinct (touched_by b l) ≡ true) × AllBytes (touched_by b l)
touched-fits None l h d k = (d, k)
touched-fits (Some (Read a v)) l h d k = (d, k)
touched-fits (Some (Write a v)) l h d k = (noted-differ a l d, noted-below a l h k)

-- ---- PC and MAR are addresses

pub record Addresses (c : Control) : Type 0 where
  pub pc : c.pc < 256
  pub mar : c.mar < memory_words

record TickFits (t : Tick) : Type 0 where
  control : Addresses t.state.control
  bus : BusFits t.bus

decode_fits : (d : Option Opcode) (s : State) (c : Control) → Addresses c → TickFits (decode_to d s c)
decode_fits (Some o) s c a = at (is_halt o)
  where
    at : (b : Bool) → TickFits (cond b (halting_tick s c) (plain (with_control (to_tick 4 c) s)))
    at true = record { control = record { pc = a.pc; mar = a.mar }; bus = tt }
    at false = record { control = record { pc = a.pc; mar = a.mar }; bus = tt }
decode_fits None s c a = record { control = record { pc = a.pc; mar = a.mar }; bus = tt }

same_fits : (s : State) → Addresses s.control → TickFits (plain s)
same_fits s a = record { control = a; bus = tt }

load_fits : (n : ℕ) (s : State) (v : ℕ) → Addresses s.control → TickFits (load_tick n s v)
load_fits zero s v a = record { control = record { pc = a.pc; mar = omega arith }; bus = tt }
load_fits (suc zero) s v a = record { control = record { pc = a.pc; mar = a.mar }; bus = tt }
load_fits (suc (suc n)) s v a = record { control = a; bus = tt }

store-fits : (n : ℕ) (s : State) (v : ℕ) → Addresses s.control → TickFits (store_tick n s v)
store-fits zero s v a = record { control = record { pc = a.pc; mar = omega arith }; bus = tt }
store-fits (suc zero) s v a = record { control = record { pc = a.pc; mar = a.mar }; bus = tt }
store-fits (suc (suc n)) s v a = record { control = a; bus = a.mar }

jump-pc : (b : Bool) (w pc : ℕ) → pc < 256 → cond b (byte_yz w) pc < 256
jump-pc true w pc h = omega arith
jump-pc false w pc h = h

execute_fits : (d : Option Opcode) (n : ℕ) (s : State) (o : Operands) → Addresses s.control → TickFits (execute_tick d n s o)
unfolding execute_tick
execute_fits (Some LoadImmediate) n s o a = record { control = a; bus = tt }
execute_fits (Some LoadRegister) n s o a = record { control = a; bus = tt }
execute_fits (Some LoadMemory) n s o a = load_fits n s o.cell a
execute_fits (Some StoreMemory) n s o a = store-fits n s o.x a
execute_fits (Some Add) n s o a = record { control = a; bus = tt }
execute_fits (Some Negate) n s o a = record { control = a; bus = tt }
execute_fits (Some ShiftRight) n s o a = record { control = a; bus = tt }
execute_fits (Some ShiftLeft) n s o a = record { control = a; bus = tt }
execute_fits (Some And) n s o a = record { control = a; bus = tt }
execute_fits (Some Or) n s o a = record { control = a; bus = tt }
execute_fits (Some Xor) n s o a = record { control = a; bus = tt }
execute_fits (Some Jump) n s o a = record { control = record { pc = jump-pc (eqb o.x o.zero) s.control.ir s.control.pc a.pc; mar = a.mar }; bus = tt }
execute_fits (Some Halt) n s o a = same_fits s a
execute_fits None n s o a = same_fits s a

onward-fits : (n : ℕ) (t : Tick) → TickFits t → TickFits (onward n t)
onward-fits n t f = at (leb t.state.control.execute_ticks (n + 1))
  where
    at : (b : Bool) → TickFits (cond b (ended_tick t) (later_tick t))
    at true = record { control = record { pc = f.control.pc; mar = f.control.mar }; bus = f.bus }
    at false = record { control = record { pc = f.control.pc; mar = f.control.mar }; bus = f.bus }

tick-fits : (t : ℕ) (s : State) (o : Operands) → Addresses s.control → TickFits (tick_of t s o)
unfolding tick_of decode_tick
tick-fits zero s o a = record { control = record { pc = a.pc; mar = a.pc }; bus = tt }
tick-fits (suc zero) s o a = record { control = record { pc = a.pc; mar = a.mar }; bus = tt }
tick-fits (suc (suc zero)) s o a = record { control = record { pc = a.pc; mar = a.mar }; bus = tt }
tick-fits (suc (suc (suc zero))) s o a =
    let d = decode_word s.control.ir in
    decode_fits d s (next_pc (execute_ticks_of d) s.control) (record { pc = omega arith; mar = a.mar })
tick-fits (suc (suc (suc (suc n)))) s o a = let d = decode_word s.control.ir in onward-fits n (execute_tick d n s o) (execute_fits d n s o a)

-- ---- a machine, tick by tick

pub record Bounded (m : Machine) : Type 0 where
  pub control : Addresses m.state.control
  pub trace : length m.trace ≤ trace_limit
  pub texts : AllFit m.trace
  pub differ : distinct m.touched ≡ true
  pub touched : AllBytes m.touched

next_fits : (m : Machine) → Fits (next_text m)
unfolding next_text fixed_text
next_fits m =
    let s = m.state in
    let o = operands_of s m.memory m.registers in
    let taken = eqb o.x o.zero in
    record { bytes = tick_text s.control.tick taken s.control.ir; made = refl; few = short-text s.control.tick taken s.control.ir refl }

step_bounded : (m : Machine) → Bounded m → Bounded (micro_step m)
unfolding micro_step
step_bounded m b =
    let t = tick-fits m.state.control.tick m.state (operands_of m.state m.memory m.registers) b.control in
    let p = pushed-fits m.trace _ b.trace b.texts (next_fits m) in
    let a = touched-fits (next_tick m).bus m.touched t.bus b.differ b.touched in
    record { control = t.control; trace = p.0; texts = p.1; differ = a.0; touched = a.1 }

ticked_bounded : (s : Steps) → Bounded s.machine → Bounded (ticked s).machine
unfolding ticked
ticked_bounded s b = step_bounded s.machine b

steps_bounded : (f : ℕ) (s : Steps) → Bounded s.machine → Bounded (steps f s).machine
unfolding steps
steps_bounded zero s b = b
steps_bounded (suc f) s b =
    let c : Bounded (ticked s).machine = ticked_bounded s b in
    at (ticked s).machine.state.control.tick c (steps_bounded f (ticked s) c)
  where
    at : (n : ℕ) → Bounded (ticked s).machine → Bounded (steps f (ticked s)).machine → Bounded (unless_zero n (ticked s) (λ u. steps f (ticked s))).machine
    at zero c d = c
    at (suc n) c d = d

instruction_bounded : (m : Machine) → Bounded m → Bounded (step_instruction m).machine
unfolding step_instruction
instruction_bounded m b = steps_bounded 7 (started m) b

-- ---- a guarded run

closed_bounded : (c : GuardedStop) (m : Machine) → Bounded m → Bounded (closed (stop_number c) m)
closed_bounded Halted m b = b
closed_bounded Breakpoint m b = b
closed_bounded Faulted m b = b
closed_bounded Budget m b = record { control = record { pc = b.control.pc; mar = b.control.mar }; trace = b.trace; texts = b.texts; differ = b.differ; touched = b.touched }
closed_bounded HiddenWord m b = b
closed_bounded HiddenJump m b = b

module _ (hid : ℕ → Bool) where
  run_bounded : (breaks : List ℕ) (k n : ℕ) (g : Guarded) → Bounded g.machine → Bounded (guarded_run hid breaks k n g).guarded.machine
  unfolding guarded_run
  run_bounded breaks k zero g b = at (guard hid breaks k zero g)
    where
      at : (v : Verdict GuardedStop) → Bounded (after v (guarded_end k g) (λ u. guarded_end k g Budget)).guarded.machine
      at go = closed_bounded Budget g.machine b
      at (stop c) = closed_bounded c g.machine b
  run_bounded breaks k (suc n) g b = at (guard hid breaks k (suc n) g) (run_bounded breaks (k + 1) n (guarded_step g) (instruction_bounded g.machine b))
    where
      at : (v : Verdict GuardedStop) → Bounded (guarded_run hid breaks (k + 1) n (guarded_step g)).guarded.machine
          → Bounded (after v (guarded_end k g) (λ u. guarded_run hid breaks (k + 1) n (guarded_step g))).guarded.machine
      at go c = c
      at (stop e) c = closed_bounded e g.machine b

start_bounded : (image marks : List ℕ) → Bounded (guarded_start image marks).machine
unfolding guarded_start restarted live_trace distinct
start_bounded image marks = record {
  control = record { pc = omega arith; mar = omega arith };
  trace = omega arith;
  texts = λ i. none-fits;
  differ = refl;
  touched = λ i. omega arith;
}

pub guarded_bounded : (i : Input) → Bounded (guarded_of i).guarded.machine
unfolding guarded_of
guarded_bounded i = run_bounded (hidden_from i.clearance) i.breaks 0 i.budget (guarded_start i.image i.marks) (start_bounded i.image i.marks)

-- at most 256 addresses are different
pub touched-few : (m : Machine) → Bounded m → length m.touched ≤ memory_words
touched-few m b = few memory_words m.touched b.differ (below_of memory_words m.touched (λ i l. b.touched i))

-- The guarded machine is the plain one (01, section 5): after as many instructions whatever the marks, where it stops for a hidden value; else the one that `run` leaves.
-- Assumes nothing.
use Rattle.std.specs.Prelude.{Option, Some, None, Result, Ok, Err}
use Rattle.encoding.specs.declared.refusal.Refusal.TheVariants.{FullCounter}
use Rattle.encoding.specs.declared.refusal.Refusal.{Refusal}
use Prim.Native.Nat.{ℕ, zero, suc, ◌+◌, ◌*◌, ◌-◌, ◌≤◌, ◌<◌, ◌^◌}
use native.Mathlib.Omega.{arith}
use native.Mathlib.Nat.{mod-le}
use mathlib.Core.Path.{◌≡◌, refl, ap, sym, ◌∙◌}
use mathlib.Core.Bool.{Bool, true, false, cond}
use mathlib.Core.List.{List}
use borrow.Author.Tests.{le-ltb, eqb-false}
use lib.Dec.{eqb}
use lib.ListN.{get_or}
use Rattle.control.specs.declared.control.BusTransfer.{BusTransfer}
use Rattle.control.specs.declared.control.BusTransfer.TheVariants.{Read, Write}
use Rattle.control.specs.declared.control.Fault.{Fault}
use Rattle.control.specs.declared.control.Fault.TheVariants.{UnknownInstruction, StepBudgetExhausted}
use Rattle.control.specs.declared.control.State.{State}
use Rattle.control.specs.declared.counters.Counters.{Counters}
use Rattle.control.specs.Count.{over_counted, one_more, count_tick}
use Rattle.control.proofs.Lawfuls.{true-false}
use Rattle.guard.specs.declared.stops.GuardedStop.{GuardedStop}
use Rattle.guard.specs.declared.stops.GuardedStop.TheVariants.{Halted, Breakpoint, Fault as Faulted, Budget, HiddenWord, HiddenJump}
use Rattle.guard.specs.declared.stops.RunStop.{RunStop}
use Rattle.guard.specs.declared.stops.RunStop.TheVariants.{Breakpoint as RunBreakpoint, Budget as RunBudget}
use Rattle.vm.specs.Machine.{Machine, micro_step}
use Rattle.vm.specs.Instruction.{Steps, started, ticked, unless_zero, steps, step_instruction}
use Rattle.vm.specs.Run.{verdict, closed, run_number, RunEnd, run}
use Rattle.guard.specs.Stops.{Verdict, go, stop, halt_stop, reached, verdict_if, stop_number, run_code, refusal_in}
use Rattle.vm.specs.Calls.{restarted}
use Rattle.vm.specs.Guard.{Guarded, GuardedEnd, next_word, guarded_step, guarded_steps, guarded_end, guard, guarded_run, guarded_start, guarded_of}
use Rattle.marks.specs.Owners.{hidden_from}
use Rattle.guard.specs.Input.{Input, input_refusal}
use Rattle.guard.specs.Stops.{halted_stop, guard_if, hidden_jump}
use Rattle.vm.proofs.Runs.{run_stops, run_goes}
use Rattle.vm.proofs.Guards.{guard_stops, guard_goes, going}
use Rattle.vm.proofs.GuardedStarts.{served_input}

-- ---- instructions of a machine, and of a guarded one

unfoldable pub instructions : ℕ → Machine → Machine
instructions zero m = m
instructions (suc k) m = instructions k (step_instruction m).machine

-- whatever the marks
pub plain-steps : (k : ℕ) (g : Guarded) → (guarded_steps k g).machine ≡ instructions k g.machine
unfolding instructions guarded_steps
plain-steps zero g = refl
plain-steps (suc k) g = plain-steps k (guarded_step g)

-- ---- how a guarded run ends: after so many instructions, within the budget

pub record Ends (k n : ℕ) (g : Guarded) (e : GuardedEnd) : Type 0 where
  pub count : ℕ
  pub few : count ≤ n
  pub end : e ≡ guarded_end (k + count) (guarded_steps count g) e.stop

stopped : (k n : ℕ) (g : Guarded) (c : GuardedStop) {e : GuardedEnd} → e ≡ guarded_end k g c → Ends k n g e
unfolding guarded_steps
stopped k n g c p =
    let z : k ≡ k + 0 = omega arith in
    record { count = 0; few = omega arith; end = p ∙ (λ i. guarded_end (z i) g (ap (λ (x : GuardedEnd). x.stop) (sym p) i)) }

module _ (hid : ℕ → Bool) (b : List ℕ) where
  turn : (k n : ℕ) (g : Guarded) (v : Verdict GuardedStop) → guard hid b k (suc n) g ≡ v → Ends (k + 1) n (guarded_step g) (guarded_run hid b (k + 1) n (guarded_step g)) → Ends k (suc n) g (guarded_run hid b k (suc n) g)
  unfolding guarded_steps
  turn k n g (stop c) e r = stopped k (suc n) g c (guard_stops hid b k (suc n) g c e)
  turn k n g go e r =
      let y : suc n - 1 ≡ n = omega arith in
      let q = guard_goes hid b k (suc n) g e ∙ ap (λ (j : ℕ). guarded_run hid b (k + 1) j (guarded_step g)) y in
      let z : k + 1 + r.count ≡ k + suc r.count = omega arith in
      record {
        count = suc r.count;
        few = omega (arith, r.few);
        end = q ∙ r.end ∙ (λ i. guarded_end (z i) (guarded_steps r.count (guarded_step g)) (sym q i).stop);
      }

  last : (k : ℕ) (g : Guarded) (v : Verdict GuardedStop) → guard hid b k 0 g ≡ v → Ends k 0 g (guarded_run hid b k 0 g)
  last k g (stop c) e = stopped k 0 g c (guard_stops hid b k 0 g c e)
  last k g go e = absurd ((going hid b k 0 g e).1 refl)

  pub ends : (k n : ℕ) (g : Guarded) → Ends k n g (guarded_run hid b k n g)
  ends k zero g = last k g (guard hid b k 0 g) refl
  ends k (suc n) g = turn k n g (guard hid b k (suc n) g) refl (ends (k + 1) n (guarded_step g))

  -- at any stop: the plain machine after that many instructions, closed as the stop closes it
  pub plain_end : (n : ℕ) (g : Guarded) → let e = guarded_run hid b 0 n g in e.guarded.machine ≡ closed (stop_number e.stop) (instructions e.executed g.machine)
  plain_end n g =
      let e = guarded_run hid b 0 n g in
      let r = ends 0 n g in
      let z : r.count ≡ e.executed = omega (arith, ap (λ (x : GuardedEnd). x.executed) r.end) in
      ap (λ (x : GuardedEnd). x.guarded.machine) r.end
      ∙ ap (closed (stop_number e.stop)) (plain-steps r.count g ∙ ap (λ (j : ℕ). instructions j g.machine) z)

-- the stops for a hidden word and a hidden jump
abbrev pub hides : GuardedStop → Bool
hides Halted = false
hides Breakpoint = false
hides Faulted = false
hides Budget = false
hides HiddenWord = true
hides HiddenJump = true

left_open : (c : GuardedStop) (m : Machine) → hides c ≡ true → closed (stop_number c) m ≡ m
left_open Halted m h = refl
left_open Breakpoint m h = refl
left_open Faulted m h = refl
left_open Budget m h = absurd (true-false (sym h))
left_open HiddenWord m h = refl
left_open HiddenJump m h = refl

-- there the machine is the plain one after as many instructions
pub plain-hidden : (hid : ℕ → Bool) (b : List ℕ) (n : ℕ) (g : Guarded) → let e = guarded_run hid b 0 n g in hides e.stop ≡ true → e.guarded.machine ≡ instructions e.executed g.machine
plain-hidden hid b n g h = plain_end hid b n g ∙ left_open (guarded_run hid b 0 n g).stop _ h

-- ---- beside `run`

-- two stops with one number, neither a refusal: they leave the same machine
record Alike (c : GuardedStop) (d : Result RunStop Refusal) : Type 0 where
  number : stop_number c ≡ run_number d
  unrefused : refusal_in (run_code d) ≡ 0

-- both go on; both stop, and leave the machine alike; or the guarded run stops for something hidden
data Turn (v : Verdict GuardedStop) (u : Verdict (Result RunStop Refusal)) : Type 0 where
  on : v ≡ go → u ≡ go → Turn v u
  off : (c : GuardedStop) (d : Result RunStop Refusal) → v ≡ stop c → u ≡ stop d → Alike c d → Turn v u
  hidden : (c : GuardedStop) → v ≡ stop c → hides c ≡ true → Turn v u

halts : (f : Option Fault) → Alike (halted_stop f) (Ok (halt_stop f))
halts None = record { number = refl; unrefused = refl }
halts (Some (UnknownInstruction w a)) = record { number = refl; unrefused = refl }
halts (Some (StepBudgetExhausted w a)) = record { number = refl; unrefused = refl }

-- by the tests; no counter is near its end, or it is not looked at
beside : (h b z w j o : Bool) (s : State) → (z ≡ false → o ≡ false) → Turn (guard_if h b z w j s.fault) (verdict_if h b z o s)
beside true b z w j o s q = off (halted_stop s.fault) (Ok (halt_stop s.fault)) refl refl (halts s.fault)
beside false true z w j o s q = off Breakpoint (Ok (RunBreakpoint s.control.pc)) refl refl (record { number = refl; unrefused = refl })
beside false false true w j o s q = off Budget (Ok RunBudget) refl refl (record { number = refl; unrefused = refl })
beside false false false true j o s q = hidden HiddenWord refl refl
beside false false false false true o s q = hidden HiddenJump refl refl
beside false false false false false o s q = on refl (ap (λ (x : Bool). cond x (stop (Err FullCounter)) go) (q refl))

-- two ends that show the same: the stop's number, which is no refusal, the machine, and how many instructions were begun
pub record Same (e : GuardedEnd) (r : RunEnd) : Type 0 where
  pub stop : stop_number e.stop ≡ run_number r.stop
  pub unrefused : refusal_in (run_code r.stop) ≡ 0
  pub machine : e.guarded.machine ≡ r.machine
  pub executed : e.executed ≡ r.executed

-- no counter is near its end before any of n instructions
pub Uncounted : ℕ → Machine → Type 0
Uncounted n m = (j : ℕ) → j < n → over_counted (instructions j m).counters ≡ false

module _ (hid : ℕ → Bool) (b : List ℕ) where
  turns : (k n : ℕ) (g : Guarded) → Uncounted n g.machine → Turn (guard hid b k n g) (verdict b k n g.machine)
  unfolding Uncounted instructions
  turns k n g u =
      let m = g.machine in
      let pc = m.state.control.pc in
      let some : eqb n 0 ≡ false → 0 < n = λ e. omega (arith, eqb-false n 0 e) in
      beside m.state.control.halted (reached b k pc) (eqb n 0) (hid (get_or g.marks.memory pc 0)) (hidden_jump hid (next_word m) g.marks.registers) (over_counted m.counters) m.state (λ e. u 0 (some e))

  ended : (k n : ℕ) (g : Guarded) (c : GuardedStop) (d : Result RunStop Refusal) → guard hid b k n g ≡ stop c → verdict b k n g.machine ≡ stop d → Alike c d → Same (guarded_run hid b k n g) (run b k n g.machine)
  ended k n g c d p q r =
      let x = guard_stops hid b k n g c p in
      let y = run_stops b k n g.machine d q in
      record {
        stop = ap (λ (e : GuardedEnd). stop_number e.stop) x ∙ r.number ∙ sym (ap (λ (e : RunEnd). run_number e.stop) y);
        unrefused = ap (λ (e : RunEnd). refusal_in (run_code e.stop)) y ∙ r.unrefused;
        machine = ap (λ (e : GuardedEnd). e.guarded.machine) x ∙ ap (λ (j : ℕ). closed j g.machine) r.number ∙ sym (ap (λ (e : RunEnd). e.machine) y);
        executed = ap (λ (e : GuardedEnd). e.executed) x ∙ sym (ap (λ (e : RunEnd). e.executed) y);
      }

  never : (k n : ℕ) (g : Guarded) (c : GuardedStop) → guard hid b k n g ≡ stop c → hides c ≡ true → hides (guarded_run hid b k n g).stop ≡ false → ⊥
  never k n g c p t f = true-false (sym t ∙ ap (λ (e : GuardedEnd). hides e.stop) (sym (guard_stops hid b k n g c p)) ∙ f)

  one_more_lem : (k n : ℕ) (g : Guarded) → Turn (guard hid b k (suc n) g) (verdict b k (suc n) g.machine) → hides (guarded_run hid b k (suc n) g).stop ≡ false
      → (hides (guarded_run hid b (k + 1) n (guarded_step g)).stop ≡ false → Same (guarded_run hid b (k + 1) n (guarded_step g)) (run b (k + 1) n (step_instruction g.machine).machine))
      → Same (guarded_run hid b k (suc n) g) (run b k (suc n) g.machine)
  one_more_lem k n g (off c d p q r) h next = ended k (suc n) g c d p q r
  one_more_lem k n g (hidden c p t) h next = absurd (never k (suc n) g c p t h)
  one_more_lem k n g (on p q) h next =
      let y : suc n - 1 ≡ n = omega arith in
      let z : suc n ≡ 0 → ⊥ = λ e. omega (arith, e) in
      let v = guard_goes hid b k (suc n) g p ∙ ap (λ (j : ℕ). guarded_run hid b (k + 1) j (guarded_step g)) y in
      let w = run_goes b k (suc n) g.machine q z ∙ ap (λ (j : ℕ). run b (k + 1) j (step_instruction g.machine).machine) y in
      rw (v, w) (next (rw v at h))

  -- the machine that `run` leaves, after as many instructions
  pub plain-run : (k n : ℕ) (g : Guarded) → Uncounted n g.machine → hides (guarded_run hid b k n g).stop ≡ false → Same (guarded_run hid b k n g) (run b k n g.machine)
  unfolding Uncounted instructions
  plain-run k zero g u h = at_end_lem (turns k 0 g u)
    where
      at_end_lem : Turn (guard hid b k 0 g) (verdict b k 0 g.machine) → Same (guarded_run hid b k 0 g) (run b k 0 g.machine)
      at_end_lem (off c d p q r) = ended k 0 g c d p q r
      at_end_lem (hidden c p t) = absurd (never k 0 g c p t h)
      at_end_lem (on p q) = absurd ((going hid b k 0 g p).1 refl)
  plain-run k (suc n) g u h = one_more_lem k n g (turns k (suc n) g u) h (plain-run (k + 1) n (guarded_step g) (λ j l. u (suc j) (omega arith)))

-- ---- from a new machine no counter comes near its end

record Low (n : ℕ) (k : Counters) : Type 0 where
  instructions : k.instructions ≤ n
  micro : k.micro_operations ≤ n
  reads : k.bus_reads ≤ n
  writes : k.bus_writes ≤ n

rises : {a n : ℕ} → a ≤ n → one_more a ≤ n + 1
rises {a} h = omega (arith, mod-le (a + 1) (2 ^ 64))

-- a tick adds at most one to each
low_tick : (n : ℕ) (bus : Option BusTransfer) (completed : Bool) (k : Counters) → Low n k → Low (n + 1) (count_tick bus completed k)
unfolding count_tick
low_tick n None true k l = record { instructions = rises l.instructions; micro = rises l.micro; reads = omega (arith, l.reads); writes = omega (arith, l.writes) }
low_tick n None false k l = record { instructions = omega (arith, l.instructions); micro = rises l.micro; reads = omega (arith, l.reads); writes = omega (arith, l.writes) }
low_tick n (Some (Read a v)) true k l = record { instructions = rises l.instructions; micro = rises l.micro; reads = rises l.reads; writes = omega (arith, l.writes) }
low_tick n (Some (Read a v)) false k l = record { instructions = omega (arith, l.instructions); micro = rises l.micro; reads = rises l.reads; writes = omega (arith, l.writes) }
low_tick n (Some (Write a v)) true k l = record { instructions = rises l.instructions; micro = rises l.micro; reads = omega (arith, l.reads); writes = rises l.writes }
low_tick n (Some (Write a v)) false k l = record { instructions = omega (arith, l.instructions); micro = rises l.micro; reads = omega (arith, l.reads); writes = rises l.writes }

below : {n p : ℕ} {k : Counters} → n ≤ p → Low n k → Low p k
below h l = record { instructions = omega (arith, l.instructions); micro = omega (arith, l.micro); reads = omega (arith, l.reads); writes = omega (arith, l.writes) }

low_ticked : (n : ℕ) (s : Steps) → Low n s.machine.counters → Low (n + 1) (ticked s).machine.counters
unfolding ticked micro_step
low_ticked n s l = low_tick n _ _ s.machine.counters l

low_steps : (f n : ℕ) (s : Steps) → Low n s.machine.counters → Low (n + f) (steps f s).machine.counters
unfolding steps
low_steps zero n s l = below (omega arith) l
low_steps (suc f) n s l =
    unless (ticked s).machine.state.control.tick (ticked s) (steps f (ticked s)) (below (omega arith) (low_ticked n s l)) (below (omega arith) (low_steps f (n + 1) (ticked s) (low_ticked n s l)))
  where
    unless : (t : ℕ) (a b : Steps) → Low (n + suc f) a.machine.counters → Low (n + suc f) b.machine.counters → Low (n + suc f) (unless_zero t a (λ u. b)).machine.counters
    unless zero a b x y = x
    unless (suc t) a b x y = y

low_instructions : (j n : ℕ) (m : Machine) → Low n m.counters → Low (n + 7 * j) (instructions j m).counters
unfolding instructions step_instruction
low_instructions zero n m l = below (omega arith) l
low_instructions (suc j) n m l = below (omega arith) (low_instructions j (n + 7) (step_instruction m).machine (low_steps 7 n (started m) l))

low_uncounted : (n : ℕ) (k : Counters) → n ≤ 18446744073709551600 → Low n k → over_counted k ≡ false
unfolding over_counted
low_uncounted n k h l =
    let near : ℕ = 18446744073709551600 in
    rw (le-ltb near k.instructions (omega (arith, l.instructions)), le-ltb near k.micro_operations (omega (arith, l.micro)), le-ltb near k.bus_reads (omega (arith, l.reads)), le-ltb near k.bus_writes (omega (arith, l.writes)))

start_uncounted : (image marks : List ℕ) (n : ℕ) → n ≤ 1000000 → Uncounted n (guarded_start image marks).machine
unfolding Uncounted guarded_start restarted
start_uncounted image marks n h j l =
    low_uncounted (7 * j) _ (omega arith) (below (omega arith) (low_instructions j 0 (guarded_start image marks).machine (record { instructions = omega arith; micro = omega arith; reads = omega arith; writes = omega arith })))

-- ---- of a served input

module _ (i : Input) where
  abbrev plain : Machine
  plain = (guarded_start i.image i.marks).machine

  -- at the stops for a hidden value: the plain machine after as many instructions
  pub hidden_end : let e = guarded_of i in hides e.stop ≡ true → e.guarded.machine ≡ instructions e.executed plain
  unfolding guarded_of
  hidden_end h = plain-hidden (hidden_from i.clearance) i.breaks i.budget (guarded_start i.image i.marks) h

  -- at every other: the stop that `run` has, and the machine that it leaves
  pub open_end : input_refusal i ≡ 0 → let e = guarded_of i in hides e.stop ≡ false → Same e (run i.breaks 0 i.budget plain)
  unfolding guarded_of
  open_end z h = plain-run (hidden_from i.clearance) i.breaks 0 i.budget (guarded_start i.image i.marks) (start_uncounted i.image i.marks i.budget (served_input i z).2) h

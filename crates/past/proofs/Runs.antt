-- What a run adds to the bus counters: the ticks of the instructions that it begins. One law for `run` and for the guarded run.
-- Assumes nothing.
use Rattle.std.specs.Prelude.{Result}
use Rattle.encoding.specs.declared.refusal.Refusal.{Refusal}
use Prim.Native.Nat.{ℕ, zero, suc, ◌+◌, ◌-◌, ◌*◌}
use native.Mathlib.Omega.{arith}
use mathlib.Core.Path.{◌≡◌, refl, ap, ◌∙◌}
use mathlib.Core.Bool.{Bool, true, false}
use mathlib.Core.List.{List}
use lib.Dec.{eqb}
use Rattle.control.specs.declared.control.State.{State}
use Rattle.control.specs.declared.counters.Counters.{Counters}
use Rattle.control.specs.Count.{over_counted}
use Rattle.control.specs.Lawful.{lawful}
use Rattle.guard.specs.declared.stops.GuardedStop.{GuardedStop}
use Rattle.guard.specs.declared.stops.RunStop.{RunStop}
use Rattle.guard.specs.Stops.{Verdict, go, stop, reached, verdict_if}
use Rattle.vm.specs.Machine.{Machine}
use Rattle.vm.specs.Instruction.{step_instruction}
use Rattle.vm.specs.Run.{RunEnd, verdict, run_end, run}
use Rattle.vm.specs.Guard.{Guarded, GuardedEnd, guarded_step, guarded_end, guard, guarded_run}
use Rattle.vm.proofs.Runs.{run_stops, run_goes, running}
use Rattle.vm.proofs.Guards.{guard_stops, guard_goes, going}
use Rattle.past.specs.Past.{instruction_ticks, instructions_ticks}
use Rattle.past.proofs.Ticks.{Adds, Room, Runs, less, none_added, both_added, instruction-steps, instruction-lawful, instruction_adds}

-- ---- a run by its verdicts

-- runs over states of one kind: what each one's machine is, what stops it, what an end tells; and what holds before each instruction that is let begin
record Loop (A B S : Type 0) : Type 1 where
  run : ℕ → ℕ → S → B
  verdict : ℕ → ℕ → S → Verdict A
  machine : S → Machine
  next : S → S
  end : ℕ → S → A → B
  begun : B → ℕ
  counters : B → Counters
  Held : ℕ → S → Type 0
  stops : (k n : ℕ) (s : S) (c : A) → verdict k n s ≡ stop c → run k n s ≡ end k s c
  goes : (k n : ℕ) (s : S) → verdict k (suc n) s ≡ go → run k (suc n) s ≡ run (k + 1) n (next s)
  left : (k : ℕ) (s : S) → verdict k 0 s ≡ go → ⊥
  steps : (s : S) → machine (next s) ≡ (step_instruction (machine s)).machine
  begun_end : (k : ℕ) (s : S) (c : A) → begun (end k s c) ≡ k
  counters_end : (k : ℕ) (s : S) (c : A) → counters (end k s c) ≡ (machine s).counters
  adds : (k n : ℕ) (s : S) → Held (suc n) s → verdict k (suc n) s ≡ go → Adds (machine s).counters (machine (next s)).counters (instruction_ticks (machine s)) × Held n (next s)

module _ {A B S : Type 0} (L : Loop A B S) where
  -- from k instructions begun to as many as the end tells
  record Sum (k : ℕ) (s : S) (e : B) : Type 0 where
    count : ℕ
    all : L.begun e ≡ k + count
    adds : Adds (L.machine s).counters (L.counters e) (instructions_ticks count (L.machine s))

  stopped : (k n : ℕ) (s : S) (c : A) → L.verdict k n s ≡ stop c → Sum k s (L.run k n s)
  unfolding instructions_ticks
  stopped k n s c e =
      let x = L.stops k n s c e in
      record { count = 0; all = omega (arith, ap L.begun x ∙ L.begun_end k s c); adds = rw (ap L.counters x ∙ L.counters_end k s c) none_added }

  turn : (k n : ℕ) (s : S) (v : Verdict A) → L.verdict k (suc n) s ≡ v → L.Held (suc n) s → (L.Held n (L.next s) → Sum (k + 1) (L.next s) (L.run (k + 1) n (L.next s))) → Sum k s (L.run k (suc n) s)
  unfolding instructions_ticks
  turn k n s (stop c) e h i = stopped k (suc n) s c e
  turn k n s go e h i =
      let a = L.adds k n s h e in
      let j = i a.1 in
      let x = L.goes k n s e in
      record {
        count = suc j.count;
        all = omega (arith, ap L.begun x, j.all);
        adds = rw (x, ← L.steps s) (both_added a.0 j.adds);
      }

  sums : (n k : ℕ) (s : S) → L.Held n s → Sum k s (L.run k n s)
  sums zero k s h = last (L.verdict k 0 s) refl
    where
      last : (v : Verdict A) → L.verdict k 0 s ≡ v → Sum k s (L.run k 0 s)
      last (stop c) e = stopped k 0 s c e
      last go e = absurd (L.left k s e)
  sums (suc n) k s h = turn k n s (L.verdict k (suc n) s) refl h (sums n (k + 1) (L.next s))

  added : (n : ℕ) (s : S) → L.Held n s → let e = L.run 0 n s in Adds (L.machine s).counters (L.counters e) (instructions_ticks (L.begun e) (L.machine s))
  added n s h = let x = sums n 0 s h in let z : L.begun (L.run 0 n s) ≡ x.count = omega (arith, x.all) in rw z x.adds

-- ---- `run`

counted : (h b z f : Bool) (s : State) → verdict_if h b z f s ≡ go → f ≡ false
counted h b z false s e = refl
counted true b z true s e = absurd (let x : ◌≡◌ {A = ℕ} 0 1 = cc in omega arith)
counted false true z true s e = absurd (let x : ◌≡◌ {A = ℕ} 0 1 = cc in omega arith)
counted false false true true s e = absurd (let x : ◌≡◌ {A = ℕ} 0 1 = cc in omega arith)
counted false false false true s e = absurd (let x : ◌≡◌ {A = ℕ} 0 1 = cc in omega arith)

uncounted : (b : List ℕ) (k n : ℕ) (m : Machine) → verdict b k n m ≡ go → over_counted m.counters ≡ false
uncounted b k n m e = counted m.state.control.halted (reached b k m.state.control.pc) (eqb n 0) (over_counted m.counters) m.state e

run_loop : (b : List ℕ) → Loop (Result RunStop Refusal) RunEnd Machine
run_loop b = record {
  run = run b;
  verdict = verdict b;
  machine = λ m. m;
  next = λ m. (step_instruction m).machine;
  end = run_end;
  begun = λ e. e.executed;
  counters = λ e. e.machine.counters;
  Held = λ n m. lawful m.state.control ≡ true;
  stops = run_stops b;
  goes = λ k n m e. let y : suc n - 1 ≡ n = omega arith in run_goes b k (suc n) m e (λ z. omega (arith, z)) ∙ ap (λ (j : ℕ). run b (k + 1) j (step_instruction m).machine) y;
  left = λ k m e. (running b k 0 m e).1 refl;
  steps = λ m. refl;
  begun_end = λ k m c. refl;
  counters_end = λ k m c. refl;
  adds = λ k n m ok e. let g : Runs m = record { ok = ok; on = (running b k (suc n) m e).0 } in (instruction_adds m g (uncounted b k (suc n) m e), instruction-lawful m g);
}

pub run_adds : (b : List ℕ) (n : ℕ) (m : Machine) → lawful m.state.control ≡ true → let e = run b 0 n m in Adds m.counters e.machine.counters (instructions_ticks e.executed m)
unfolding run_loop
run_adds b n m ok = added (run_loop b) n m ok

-- ---- the guarded run, which has room from its start

record Ready (n : ℕ) (m : Machine) : Type 0 where
  ok : lawful m.state.control ≡ true
  room : Room (7 * n) m.counters

guarded_loop : (hid : ℕ → Bool) (b : List ℕ) → Loop GuardedStop GuardedEnd Guarded
guarded_loop hid b = record {
  run = guarded_run hid b;
  verdict = guard hid b;
  machine = λ g. g.machine;
  next = guarded_step;
  end = guarded_end;
  begun = λ e. e.executed;
  counters = λ e. e.guarded.machine.counters;
  Held = λ n g. Ready n g.machine;
  stops = guard_stops hid b;
  goes = λ k n g e. let y : suc n - 1 ≡ n = omega arith in guard_goes hid b k (suc n) g e ∙ ap (λ (j : ℕ). guarded_run hid b (k + 1) j (guarded_step g)) y;
  left = λ k g e. (going hid b k 0 g e).1 refl;
  steps = λ g. refl;
  begun_end = λ k g c. refl;
  counters_end = λ k g c. refl;
  adds = λ k n g h e.
      let r : Runs g.machine = record { ok = h.ok; on = (going hid b k (suc n) g e).0 } in
      let x = instruction-steps g.machine r (7 * n) (less (omega arith) h.room) in
      (x.adds, record { ok = instruction-lawful g.machine r; room = x.room });
}

pub guarded_adds : (hid : ℕ → Bool) (b : List ℕ) (n : ℕ) (g : Guarded) → lawful g.machine.state.control ≡ true → Room (7 * n) g.machine.counters
    → let e = guarded_run hid b 0 n g in Adds g.machine.counters e.guarded.machine.counters (instructions_ticks e.executed g.machine)
unfolding guarded_loop
guarded_adds hid b n g ok h = added (guarded_loop hid b) n g (record { ok = ok; room = h })

-- Bus totals over the whole past (02, Change 5): the theorem `bus-totals`, from what each call adds.
-- Assumes nothing.
use Prim.Native.Nat.{ℕ, zero, suc}
use native.Mathlib.Omega.{arith}
use mathlib.Core.Path.{◌≡◌, refl, ap}
use mathlib.Core.Bool.{Bool, true, false, cond, not, ◌&&◌}
use mathlib.Core.List.{List, [], ◌∷◌, map}
use Rattle.isa.specs.Text.{Text}
use Rattle.isa.proofs.Truths.{both}
use Rattle.control.specs.declared.counters.Counters.{Counters}
use Rattle.control.specs.Count.{over_counted}
use Rattle.control.specs.Lawful.{lawful}
use Rattle.control.proofs.Lawfuls.{true-false, lawful_fetch}
use Rattle.std.proofs.Common.{Option, Some, None, Result, Ok, Err, is_ok, refl}
use Rattle.history.specs.declared.snapshot.Snapshot.{Snapshot}
use Rattle.marks.specs.Owners.{hidden_from}
use Rattle.guard.specs.Input.{Input, input_refusal}
use Rattle.vm.specs.declared.machine.Machine.{Machine as Code}
use Rattle.vm.specs.Machine.{Machine, next_text, micro_step}
use Rattle.vm.specs.Instruction.{unless_zero, step_instruction, tick_texts}
use Rattle.vm.specs.Refusal.{parts_ok, step_refusal_if, step_refusal}
use Rattle.encoding.specs.declared.refusal.Refusal.{Refusal}
use Rattle.vm.specs.Calls.{view_of, is_machine, step_refusal_of, restarted, serve}
use Rattle.vm.specs.StepCalls.{effect_if, micro_effect, step_effect}
use Rattle.vm.specs.Run.{run as run_of}
use Rattle.vm.specs.RunCalls.{run_call}
use Rattle.encoding.specs.declared.refusal.Refusal.TheVariants.{NoMachine}
use Rattle.guard.specs.declared.stops.RunStop.TheVariants.{AlreadyHalted}
use Rattle.vm.specs.Guard.{guarded_start, guarded_of}
use Rattle.vm.specs.History.{restored, restored_by, saved, undone}
use Rattle.vm.proofs.GuardedStarts.{served_input}
use Rattle.past.specs.Past.{count, ticks_from, instruction_ticks, instructions_ticks, Call, tick, step, run, push, undo, made, left, Past, reset, call, Totals, guarded_made}
use Rattle.past.proofs.Ticks.{Adds, Runs, none_added, both_added, tick_adds, instruction_adds, uncounted_room}
use Rattle.past.proofs.Runs.{run_adds, guarded_adds}

-- ---- the calls

is_lawful : (m : Code) → is_machine m ≡ true → lawful m.state.control ≡ true
unfolding parts_ok
is_lawful m e = (both (lawful m.state.control) _ e).0

-- where a tick or an instruction is not refused, of a machine that is not halted
record Moves (m : Code) : Type 0 where
  runs : Runs (view_of m)
  uncounted : over_counted m.counters ≡ false

moves : (m : Code) → step_refusal_of m ≡ Ok tt → m.state.control.halted ≡ false → Moves m
unfolding step_refusal
moves m e h = let x = served (is_machine m) m.state.control.halted (over_counted m.counters) e h in record { runs = record { ok = is_lawful m x.0; on = h }; uncounted = x.1 }
  where
    served : (ok h f : Bool) → step_refusal_if ok h f ≡ Ok tt → h ≡ false → (ok ≡ true) × (f ≡ false)
    served true true f e p = absurd (true-false p)
    served true false true e p = absurd (cc)
    served true false false e p = (refl, refl)
    served false h f e p = absurd (cc)

-- a call that is refused, or finds the machine halted, makes no tick
effect_adds : {A : Type 0} (r : Result (Unit {0}) Refusal) (h : Bool) (still moving : A) (m next : Machine) (t : List Machine) → (r ≡ Ok tt → h ≡ false → Adds m.counters next.counters t)
    → Adds m.counters (effect_if r h still moving m next).machine.counters (cond (is_ok r && not h) t [])
effect_adds (Ok u) true still moving m next t f = none_added
effect_adds (Ok u) false still moving m next t f = f refl refl
effect_adds (Err e) h still moving m next t f = none_added

run_call_lem : (b : List ℕ) (n : ℕ) (m : Code) → let e = run_call (is_machine m) b n (view_of m) in Adds m.counters e.machine.counters (instructions_ticks e.executed (view_of m))
unfolding instructions_ticks run_call
run_call_lem b n m = go (is_machine m) m.state.control.halted refl refl
  where
    go : (ok h : Bool) → is_machine m ≡ ok → m.state.control.halted ≡ h
        → let e = cond ok (cond h (record { stop = Ok AlreadyHalted; executed = 0; machine = view_of m }) (run_of b 0 n (view_of m))) (record { stop = Err NoMachine; executed = 0; machine = view_of m }) in
        Adds m.counters e.machine.counters (instructions_ticks e.executed (view_of m))
    go false h p q = none_added
    go true true p q = none_added
    go true false p q = run_adds b n (view_of m) (is_lawful m p)

-- the bus counters stay
served_adds : (r : Result (Unit {0}) Refusal) (new old : Code) → Adds old.counters new.counters [] → Adds old.counters (serve r new old).machine.counters []
served_adds (Ok u) new old a = a
served_adds (Err e) new old a = none_added

restored_adds : (s : Snapshot) (m : Code) → Adds m.counters (restored s m).counters []
unfolding restored count
restored_adds s m = record { reads = omega arith; writes = omega arith }

undone_adds : (r : Option Snapshot) (m : Code) → Adds m.counters (restored_by r m).counters []
undone_adds None m = none_added
undone_adds (Some s) m = restored_adds s m

call_adds : (c : Call) (m : Code) → Adds m.counters (left c m).counters (made c m)
unfolding left made micro_effect step_effect saved undone
call_adds tick m =
    effect_adds (step_refusal_of m) m.state.control.halted _ _ (view_of m) (micro_step (view_of m)) (view_of m ∷ []) (λ e h. let x = moves m e h in tick_adds 14 (view_of m) x.runs (uncounted_room m.counters x.uncounted))
call_adds step m =
    effect_adds (step_refusal_of m) m.state.control.halted _ _ (view_of m) (step_instruction (view_of m)).machine (instruction_ticks (view_of m)) (λ e h. let x = moves m e h in instruction_adds (view_of m) x.runs x.uncounted)
call_adds (run b n) m = run_call_lem b n m
call_adds (push d) m = served_adds _ _ m none_added
call_adds (undo d) m = served_adds _ _ m (undone_adds _ m)

-- ---- since a reset

-- the counters of a machine just switched on
abbrev none : Counters
none = record { instructions = 0; micro_operations = 0; bus_reads = 0; bus_writes = 0 }

past_adds : (l : List Call) (m : Code) (t : List Machine) → Past l m t → Adds none m.counters t
unfolding restarted
past_adds _ _ _ (reset image n history) = none_added
past_adds _ _ _ (call l c m n t p e) = both_added (past_adds l m t p) (rw (ap (λ (x : Machine). x.counters) e) (call_adds c m))

totals : {k : Counters} {t : List Machine} → Adds none k t → Totals k t
totals a = record { reads = omega (arith, a.reads); writes = omega (arith, a.writes) }

pub bus-totals : (l : List Call) (m : Code) (t : List Machine) → Past l m t → Totals m.counters t
bus-totals l m t p = totals (past_adds l m t p)

-- ---- the guarded run

pub guarded-totals : (i : Input) → input_refusal i ≡ 0 → Totals (guarded_of i).guarded.machine.counters (guarded_made i)
unfolding guarded_of guarded_start restarted
guarded-totals i e =
    let h = (served_input i e).2 in
    totals (guarded_adds (hidden_from i.clearance) i.breaks i.budget (guarded_start i.image i.marks) (lawful_fetch _ (omega arith)) (record { reads = omega (arith, h); writes = omega (arith, h) }))

-- ---- the ticks that are counted are those whose texts `step_instruction` answers

pub ticks-told : (f : ℕ) (m : Machine) → tick_texts f m ≡ map next_text (ticks_from f m)
unfolding tick_texts ticks_from
ticks-told zero m = refl
ticks-told (suc f) m = ap (λ (l : List Text). next_text m ∷ l) (go (micro_step m).state.control.tick (ticks-told f (micro_step m)))
  where
    go : (t : ℕ) → tick_texts f (micro_step m) ≡ map next_text (ticks_from f (micro_step m)) → unless_zero t [] (λ u. tick_texts f (micro_step m)) ≡ map next_text (unless_zero t [] (λ u. ticks_from f (micro_step m)))
    go zero i = refl
    go (suc t) i = i

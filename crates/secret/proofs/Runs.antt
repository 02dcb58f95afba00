-- Two guarded runs from machines of which a report shows the same end alike: the same stop, the same count, and again the same to show.
-- Assumes nothing.
use Rattle.std.specs.Prelude.{Option, Some}
use Prim.Native.Nat.{ℕ, zero, suc, ◌+◌}
use mathlib.Core.Path.{◌≡◌, refl, ap, subst, ◌∙◌}
use mathlib.Core.Bool.{Bool, true, false, cond}
use mathlib.Core.List.{List}
use lib.Dec.{eqb}
use lib.ListN.{get_or}
use Rattle.control.specs.declared.control.Fault.{Fault}
use Rattle.control.specs.declared.control.Fault.TheVariants.{StepBudgetExhausted}
use Rattle.guard.specs.declared.stops.GuardedStop.{GuardedStop}
use Rattle.guard.specs.declared.stops.GuardedStop.TheVariants.{Halted, Breakpoint, Fault as Faulted, Budget, HiddenWord, HiddenJump}
use Rattle.guard.specs.Stops.{Verdict, go, stop, after, reached}
use Rattle.vm.specs.Guard.{Guarded, next_word, guarded_step, guarded_end, guard, guarded_run}
use Rattle.guard.specs.Stops.{guard_if, hidden_jump}
use Rattle.secret.proofs.Levels.{Level, LevelEnd, Joins}
use Rattle.secret.proofs.Twins.{twins_get}
use Rattle.vm.proofs.Steps.{Public, public_of, hidden_of, whole}
use Rattle.secret.proofs.Veils.{instruction_level}

-- the last test matters only where the word is not hidden
guard_if_lem : (h b z w i j : Bool) (f : Option Fault) → (w ≡ false → i ≡ j) → guard_if h b z w i f ≡ guard_if h b z w j f
guard_if_lem true b z w i j f e = refl
guard_if_lem false true z w i j f e = refl
guard_if_lem false false true w i j f e = refl
guard_if_lem false false false true i j f e = refl
guard_if_lem false false false false i j f e = ap (λ (t : Bool). guard_if false false false false t f) (e refl)

-- a test that is passed over
passed : (b : Bool) (c : GuardedStop) (x : Verdict GuardedStop) → cond b (stop c) x ≡ go → (b ≡ false) × (x ≡ go)
passed true c x e = (cc, cc)
passed false c x e = (refl, e)

-- where the guard lets an instruction begin, its last two tests are passed
passes : (h b z w j : Bool) (f : Option Fault) → guard_if h b z w j f ≡ go → (w ≡ false) × (j ≡ false)
passes h b z w j f e =
    let x = (passed z _ _ (passed b _ _ (passed h _ _ e).1).1).1 in
    let y = passed w _ _ x in
    (y.0, (passed j _ _ y.1).0)

-- what is public of a machine whose budget is spent
spent : Public → Public
spent p = record {
  pc = p.pc;
  ir = p.ir;
  mar = p.mar;
  address = p.address;
  tick = p.tick;
  ticks = p.ticks;
  halted = true;
  fault = Some (StepBudgetExhausted p.ir p.pc);
  counters = p.counters;
  trace = p.trace;
  touched = p.touched;
}

module _ (hid : ℕ → Bool) where
  -- the machine of h, with what is public of g
  other : {g h : Guarded} → Level hid g h → record { machine = whole (public_of g.machine) (hidden_of h.machine); marks = g.marks } ≡ h
  other {g} {h} l = λ i. record { machine = whole (l.public i) (hidden_of h.machine); marks = l.marks i }

  pub guard_same : (breaks : List ℕ) (k n : ℕ) {g h : Guarded} → Level hid g h → guard hid breaks k n g ≡ guard hid breaks k n h
  guard_same breaks k n {g} {h} l =
      let pc = g.machine.state.control.pc in
      let r = g.marks.registers in
      guard_if_lem
      g.machine.state.control.halted
      (reached breaks k pc)
      (eqb n 0)
      (hid (get_or g.marks.memory pc 0))
      (hidden_jump hid (next_word g.machine) r)
      (hidden_jump hid (get_or h.machine.memory pc 0) r)
      g.machine.state.fault
      (λ s. ap (λ (w : ℕ). hidden_jump hid w r) ((twins_get l.memory pc).seen s))
      ∙ ap (guard hid breaks k n) (other l)

  -- a run that stops
  ended_level : (k : ℕ) {g h : Guarded} → Level hid g h → (c : GuardedStop) → LevelEnd hid (guarded_end k g c) (guarded_end k h c)
  unfolding spent
  ended_level k l Halted = record { stop = refl; executed = refl; level = l }
  ended_level k l Breakpoint = record { stop = refl; executed = refl; level = l }
  ended_level k l Faulted = record { stop = refl; executed = refl; level = l }
  ended_level k l Budget = record { stop = refl; executed = refl; level = record { public = ap spent l.public; marks = l.marks; memory = l.memory; registers = l.registers; mdr = l.mdr } }
  ended_level k l HiddenWord = record { stop = refl; executed = refl; level = l }
  ended_level k l HiddenJump = record { stop = refl; executed = refl; level = l }

  module _ (J : Joins hid) where
    pub run_same : (breaks : List ℕ) (k n : ℕ) (g h : Guarded) → Level hid g h → g.machine.state.control.tick ≡ 0 → LevelEnd hid (guarded_run hid breaks k n g) (guarded_run hid breaks k n h)
    unfolding guarded_run
    run_same breaks k zero g h l t =
        subst (λ (d : Verdict GuardedStop). LevelEnd hid (guarded_run hid breaks k zero g) (after d (guarded_end k h) (λ u. guarded_end k h Budget))) (guard_same breaks k zero l) (at (guard hid breaks k zero g))
      where
        at : (d : Verdict GuardedStop) → LevelEnd hid (after d (guarded_end k g) (λ u. guarded_end k g Budget)) (after d (guarded_end k h) (λ u. guarded_end k h Budget))
        at go = ended_level k l Budget
        at (stop c) = ended_level k l c
    run_same breaks k (suc n) g h l t =
        subst
        (λ (d : Verdict GuardedStop). LevelEnd hid (guarded_run hid breaks k (suc n) g) (after d (guarded_end k h) (λ u. guarded_run hid breaks (k + 1) n (guarded_step h))))
        (guard_same breaks k (suc n) l)
        (at (guard hid breaks k (suc n) g) refl (run_same breaks (k + 1) n (guarded_step g) (guarded_step h)))
      where
        at : (d : Verdict GuardedStop) → guard hid breaks k (suc n) g ≡ d
            → (Level hid (guarded_step g) (guarded_step h) → (guarded_step g).machine.state.control.tick ≡ 0 → LevelEnd hid (guarded_run hid breaks (k + 1) n (guarded_step g)) (guarded_run hid breaks (k + 1) n (guarded_step h)))
            → LevelEnd hid (after d (guarded_end k g) (λ u. guarded_run hid breaks (k + 1) n (guarded_step g))) (after d (guarded_end k h) (λ u. guarded_run hid breaks (k + 1) n (guarded_step h)))
        at go e ih =
            let pc = g.machine.state.control.pc in
            let q = passes g.machine.state.control.halted (reached breaks k pc) (eqb (suc n) 0) (hid (get_or g.marks.memory pc 0)) (hidden_jump hid (next_word g.machine) g.marks.registers) g.machine.state.fault e in
            let s = instruction_level hid J l t q.0 q.1 in
            ih s.0 s.1
        at (stop c) e ih = ended_level k l c

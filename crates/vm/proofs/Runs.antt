-- A turn of the loop over instructions: `run` by its verdict.
-- Assumes nothing.
use Rattle.std.specs.Prelude.{Result, Ok}
use Rattle.encoding.specs.declared.refusal.Refusal.{Refusal}
use Prim.Native.Nat.{ℕ, zero, suc, ◌+◌, ◌-◌}
use native.Mathlib.Omega.{arith}
use mathlib.Core.Path.{◌≡◌, refl, ap, ◌∙◌}
use mathlib.Core.Bool.{Bool, true, false, cond, ◌&&◌}
use mathlib.Core.List.{List}
use borrow.Author.Tests.{eqb-false}
use lib.Dec.{eqb, leb}
use Rattle.control.specs.declared.control.Control.{Control}
use Rattle.control.specs.declared.control.State.{State}
use Rattle.control.specs.Count.{over_counted}
use Rattle.control.specs.Lawful.{lawful}
use Rattle.guard.specs.declared.stops.RunStop.{RunStop}
use Rattle.guard.specs.declared.stops.RunStop.TheVariants.{Budget}
use Rattle.guard.specs.Stops.{Verdict, go, stop, verdict_if, reached, after}
use Rattle.vm.specs.Machine.{Machine}
use Rattle.vm.specs.Instruction.{step_instruction}
use Rattle.vm.specs.Run.{verdict, run_end, spent_control, spent_state, run}
use Rattle.vm.specs.View.{Parts}
use Rattle.vm.specs.Forms.{Fit, closed_parts}

-- ---- a run by its verdicts: the law of `run` and of the guarded run (`Guards`)

module _ {A B S : Type 0} (v : ℕ → ℕ → S → Verdict A) (end : ℕ → S → A → B) (spent : A) (next : S → S) (r : ℕ → ℕ → S → B) (last : (k : ℕ) (s : S) → r k zero s ≡ after (v k zero s) (end k s) (λ u. end k s spent)) (more : (k n : ℕ) (s : S) → r k (suc n) s ≡ after (v k (suc n) s) (end k s) (λ u. r (k + 1) n (next s))) where
  pub stops_at : (k n : ℕ) (s : S) (c : A) → v k n s ≡ stop c → r k n s ≡ end k s c
  stops_at k zero s c e = last k s ∙ ap (λ (x : Verdict A). after x (end k s) (λ u. end k s spent)) e
  stops_at k (suc n) s c e = more k n s ∙ ap (λ (x : Verdict A). after x (end k s) (λ u. r (k + 1) n (next s))) e

  -- the budget counts the instruction that is begun
  pub goes_on_lem : (k n : ℕ) (s : S) → v k n s ≡ go → (n ≡ 0 → ⊥) → r k n s ≡ r (k + 1) (n - 1) (next s)
  goes_on_lem k zero s e z = absurd (z refl)
  goes_on_lem k (suc n) s e z =
      let y : n ≡ suc n - 1 = omega arith in
      more k n s ∙ ap (λ (x : Verdict A). after x (end k s) (λ u. r (k + 1) n (next s))) e ∙ ap (λ (j : ℕ). r (k + 1) j (next s)) y

-- ---- `run`

-- to go on is to have found the machine running and a budget left
to_go : (h b z f : Bool) (s : State) → verdict_if h b z f s ≡ go → (h ≡ false) × (z ≡ false)
to_go false false false f s e = (refl, refl)
to_go false false true f s e = absurd (let x : ◌≡◌ {A = ℕ} 0 1 = cc in omega arith)
to_go false true z f s e = absurd (let x : ◌≡◌ {A = ℕ} 0 1 = cc in omega arith)
to_go true b z f s e = absurd (let x : ◌≡◌ {A = ℕ} 0 1 = cc in omega arith)

module _ (b : List ℕ) (k n : ℕ) (m : Machine) where
  pub run_stops : (c : Result RunStop Refusal) → verdict b k n m ≡ stop c → run b k n m ≡ run_end k m c
  unfolding run
  run_stops c e = stops_at (verdict b) run_end (Ok Budget) (λ m. (step_instruction m).machine) (run b) (λ k m. refl) (λ k n m. refl) k n m c e

  pub run_goes : verdict b k n m ≡ go → (n ≡ 0 → ⊥) → run b k n m ≡ run b (k + 1) (n - 1) (step_instruction m).machine
  unfolding run
  run_goes e z = goes_on_lem (verdict b) run_end (Ok Budget) (λ m. (step_instruction m).machine) (run b) (λ k m. refl) (λ k n m. refl) k n m e z

  pub running : verdict b k n m ≡ go → (m.state.control.halted ≡ false) × (n ≡ 0 → ⊥)
  running e = let t = to_go m.state.control.halted (reached b k m.state.control.pc) (eqb n 0) (over_counted m.counters) m.state e in (t.0, eqb-false n 0 t.1)

-- a halted control unit is lawful whatever its execute ticks
halted_ok : (a b : Bool) → a && b ≡ true → a && true ≡ true
halted_ok true b e = refl
halted_ok false b e = e

spent_lawful : (c : Control) → lawful c ≡ true → lawful (spent_control c) ≡ true
unfolding lawful
spent_lawful c e = halted_ok (leb c.tick 6) _ e

-- ---- the parts after a stop: the machine that they make is the closed one by computation

closed-lawful : (spent : Bool) (s : State) → lawful s.control ≡ true → lawful (cond spent (spent_state s) s).control ≡ true
closed-lawful true s e = spent_lawful s.control e
closed-lawful false s e = e

pub closed-fit : (n : ℕ) (q : Parts) → Fit q → Fit (closed_parts n q)
closed-fit n q f = record { control = closed-lawful (eqb n 3) q.core.state f.control; touched = f.touched; trace = f.trace }

-- A turn of the guarded loop: the guarded run by its verdict.
-- Assumes nothing.
use Rattle.std.specs.Prelude.{Option}
use Prim.Native.Nat.{ℕ, ◌+◌, ◌-◌}
use native.Mathlib.Omega.{arith}
use mathlib.Core.Path.{◌≡◌, refl}
use mathlib.Core.Bool.{Bool, true, false}
use mathlib.Core.List.{List}
use lib.ListN.{get_or}
use borrow.Author.Tests.{eqb-false}
use lib.Dec.{eqb}
use Rattle.control.specs.declared.control.Fault.{Fault}
use Rattle.guard.specs.declared.stops.GuardedStop.{GuardedStop}
use Rattle.guard.specs.declared.stops.GuardedStop.TheVariants.{Budget}
use Rattle.guard.specs.Stops.{stop, go, reached}
use Rattle.vm.specs.Guard.{Guarded, guard, guarded_step, guarded_end, guarded_run, next_word}
use Rattle.guard.specs.Stops.{guard_if, hidden_jump}
use Rattle.vm.proofs.Runs.{stops_at, goes_on_lem}

-- ---- the guarded run by its verdict

-- to go on is to have found the machine running and a budget left
to_go : (h b z w j : Bool) (f : Option Fault) → guard_if h b z w j f ≡ go → (h ≡ false) × (z ≡ false)
to_go false false false w j f e = (refl, refl)
to_go false false true w j f e = absurd (let x : ◌≡◌ {A = ℕ} 0 1 = cc in omega arith)
to_go false true z w j f e = absurd (let x : ◌≡◌ {A = ℕ} 0 1 = cc in omega arith)
to_go true b z w j f e = absurd (let x : ◌≡◌ {A = ℕ} 0 1 = cc in omega arith)

module _ (hid : ℕ → Bool) (b : List ℕ) (k n : ℕ) (g : Guarded) where
  pub guard_stops : (c : GuardedStop) → guard hid b k n g ≡ stop c → guarded_run hid b k n g ≡ guarded_end k g c
  unfolding guarded_run
  guard_stops c e = stops_at (guard hid b) guarded_end Budget guarded_step (guarded_run hid b) (λ k g. refl) (λ k n g. refl) k n g c e

  pub going : guard hid b k n g ≡ go → (g.machine.state.control.halted ≡ false) × (n ≡ 0 → ⊥)
  going e =
      let m = g.machine in
      let pc = m.state.control.pc in
      let t = to_go m.state.control.halted (reached b k pc) (eqb n 0) (hid (get_or g.marks.memory pc 0)) (hidden_jump hid (next_word m) g.marks.registers) m.state.fault e in
      (t.0, eqb-false n 0 t.1)

  pub guard_goes : guard hid b k n g ≡ go → guarded_run hid b k n g ≡ guarded_run hid b (k + 1) (n - 1) (guarded_step g)
  unfolding guarded_run
  guard_goes e = goes_on_lem (guard hid b) guarded_end Budget guarded_step (guarded_run hid b) (λ k g. refl) (λ k n g. refl) k n g e (going e).1

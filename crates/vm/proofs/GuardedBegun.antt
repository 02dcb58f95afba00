-- A guarded run of which so many instructions are known to be begun: what is left of it is the whole.
-- Assumes nothing.
use Rattle.std.specs.Prelude.{Option}
use Prim.Native.Nat.{ℕ, zero, suc, ◌+◌, ◌-◌, ◌<◌}
use native.Mathlib.Omega.{arith}
use mathlib.Core.Path.{◌≡◌, ap, sym, ◌∙◌}
use mathlib.Core.Bool.{Bool, false}
use mathlib.Core.List.{List}
use borrow.Author.Tests.{ne_eqb}
use lib.Dec.{eqb}
use lib.ListN.{get_or}
use Rattle.control.specs.declared.control.Fault.{Fault}
use Rattle.guard.specs.Stops.{go, reached, hidden_jump, guard_if}
use Rattle.vm.specs.Guard.{Guarded, next_word, guarded_step, guarded_steps, guard, guarded_run}
use Rattle.vm.proofs.Guards.{guard_goes}

-- an instruction is tested as with a budget of one, whatever budget is left
one_any : (h b w j : Bool) (f : Option Fault) (z : Bool) → z ≡ false → guard_if h b z w j f ≡ guard_if h b false w j f
one_any h b w j f z e = ap (λ (x : Bool). guard_if h b x w j f) e

module _ (hid : ℕ → Bool) (b : List ℕ) where
  any_budget : (k n : ℕ) (g : Guarded) → (n ≡ 0 → ⊥) → guard hid b k n g ≡ guard hid b k 1 g
  any_budget k n g z =
      let m = g.machine in
      let pc = m.state.control.pc in
      one_any m.state.control.halted (reached b k pc) (hid (get_or g.marks.memory pc 0)) (hidden_jump hid (next_word m) g.marks.registers) m.state.fault (eqb n 0) (ne_eqb n 0 z)

  -- t instructions are begun
  unfoldable pub Taken : ℕ → ℕ → Guarded → Type 0
  Taken k t g = (i : ℕ) → i < t → guard hid b (k + i) 1 (guarded_steps i g) ≡ go

  plus_one : (k i : ℕ) → k + 1 + i ≡ k + suc i
  plus_one k i = omega arith

  -- with these and n more as budget
  pub taken_run : (t k n : ℕ) (g : Guarded) → Taken k t g → guarded_run hid b k (t + n) g ≡ guarded_run hid b (k + t) n (guarded_steps t g)
  unfolding Taken guarded_steps
  taken_run zero k n g h =
      let x : k ≡ k + 0 = omega arith in
      let y : 0 + n ≡ n = omega arith in
      λ i. guarded_run hid b (x i) (y i) g
  taken_run (suc t) k n g h =
      let x : k + 0 ≡ k = omega arith in
      let some : suc t + n ≡ 0 → ⊥ = λ e. omega (arith, e) in
      let first : guard hid b k (suc t + n) g ≡ go = any_budget k (suc t + n) g some ∙ ap (λ (j : ℕ). guard hid b j 1 g) (sym x) ∙ h 0 (omega arith) in
      let y : suc t + n - 1 ≡ t + n = omega arith in
      guard_goes hid b k (suc t + n) g first
      ∙ ap (λ (j : ℕ). guarded_run hid b (k + 1) j (guarded_step g)) y
      ∙ taken_run t (k + 1) n (guarded_step g) (unfold Taken in (λ i l. ap (λ (j : ℕ). guard hid b j 1 (guarded_steps i (guarded_step g))) (plus_one k i) ∙ h (suc i) (omega arith)))
      ∙ ap (λ (j : ℕ). guarded_run hid b j n (guarded_steps t (guarded_step g))) (plus_one k t)

-- A turn of the loop over ticks: `steps` by its first tick.
-- Assumes nothing.
use Prim.Native.Nat.{ℕ, zero, suc, ◌+◌, ◌-◌, ◌≤◌}
use native.Mathlib.Omega.{arith}
use mathlib.Core.Path.{◌≡◌, refl, ap, sym, ◌∙◌}
use Rattle.vm.specs.declared.parts.Done.{Done}
use Rattle.vm.specs.Machine.{Machine, micro_step, next_done}
use Rattle.vm.specs.Instruction.{Steps, nothing, ticked, unless_zero, steps}

unless : {A : Type 0} (n : ℕ) (a : A) (b : Unit {0} → A) → (n ≡ 0 → ⊥) → unless_zero n a b ≡ b tt
unless zero a b h = absurd (h refl)
unless (suc n) a b h = refl

both : {A : Type 0} (n : ℕ) (a : A) → unless_zero n a (λ u. a) ≡ a
both zero a = refl
both (suc n) a = refl

abbrev pub at : Machine → ℕ → Done → Steps
at m k d = record { machine = m; ticks = k; done = d }

-- what the tick before did counts no more where one is left
same_done : (f : ℕ) (m : Machine) (k : ℕ) (d e : Done) → 1 ≤ f → steps f (at m k d) ≡ steps f (at m k e)
unfolding steps ticked
same_done zero m k d e h = absurd (omega arith)
same_done (suc f) m k d e h = refl

module _ (m : Machine) (k : ℕ) {n : Machine} {d : Done} (e : n ≡ micro_step m) (g : d ≡ next_done m) where
  first : ticked (at m k nothing) ≡ at n (k + 1) d
  unfolding ticked
  first = λ i. at (sym e i) (k + 1) (sym g i)

  tick_of_lem : (ticked (at m k nothing)).machine.state.control.tick ≡ n.state.control.tick
  tick_of_lem = ap (λ (s : Steps). s.machine.state.control.tick) first

  -- the tick ends nothing, and others are left
  pub go_on : (l : ℕ) → 2 ≤ l → (n.state.control.tick ≡ 0 → ⊥) → steps l (at m k nothing) ≡ steps (l - 1) (at n (k + 1) nothing)
  unfolding steps
  go_on zero p h = absurd (omega arith)
  go_on (suc f) p h =
      let z : f ≡ suc f - 1 = omega arith in
      unless _ (ticked (at m k nothing)) (λ u. steps f (ticked (at m k nothing))) (λ y. h (sym tick_of_lem ∙ y))
      ∙ ap (steps f) first
      ∙ same_done f n (k + 1) d nothing (omega arith)
      ∙ ap (λ (j : ℕ). steps j (at n (k + 1) nothing)) z

  -- the tick ends the instruction
  pub ended : (l : ℕ) → 1 ≤ l → n.state.control.tick ≡ 0 → steps l (at m k nothing) ≡ at n (k + 1) d
  unfolding steps
  ended zero p h = absurd (omega arith)
  ended (suc f) p h = ap (λ (j : ℕ). unless_zero j (ticked (at m k nothing)) (λ u. steps f (ticked (at m k nothing)))) (tick_of_lem ∙ h) ∙ first

  -- no tick is left
  pub spent : (l : ℕ) → l ≡ 1 → steps l (at m k nothing) ≡ at n (k + 1) d
  unfolding steps
  spent l h = ap (λ (j : ℕ). steps j (at m k nothing)) h ∙ both (ticked (at m k nothing)).machine.state.control.tick (ticked (at m k nothing)) ∙ first

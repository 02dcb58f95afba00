-- A loop that does the same n times (`times`, `specs/Machine.antt`).
-- Assumes nothing.
use Prim.Native.Nat.{ℕ, suc, ◌+◌, ◌-◌, ◌≤◌, ◌<◌}
use native.Mathlib.Omega.{arith}
use mathlib.Core.Path.{◌≡◌, ap, ◌∙◌}
use Rattle.massey_bench.specs.Machine.{times}

-- what is to come after i turns, b being there now, a at the start
pub record Going {A : Type 0} (f : A → A) (n i : ℕ) (a b : A) : Type 0 where
  pub few : i ≤ n
  pub rest : times (n - i) f b ≡ times n f a

module _ {A : Type 0} (f : A → A) (n : ℕ) (a : A) where
  pub at_start : Going f n 0 a a
  at_start = record { few = omega arith; rest = let k : n - 0 ≡ n = omega arith in ap (λ (j : ℕ). times j f a) k }

  pub turned : {i : ℕ} {b c : A} → i < n → Going f n i a b → c ≡ f b → Going f n (i + 1) a c
  unfolding times
  turned {i} {b} {c} h g e =
      let k : suc (n - (i + 1)) ≡ n - i = omega arith in
      record { few = omega arith; rest = ap (times (n - (i + 1)) f) e ∙ ap (λ (j : ℕ). times j f b) k ∙ g.rest }

  pub at_end_lem : {i : ℕ} {b : A} → n ≤ i → Going f n i a b → b ≡ times n f a
  unfolding times
  at_end_lem {i} {b} h g =
      let k : 0 ≡ n - i = omega arith in
      ap (λ (j : ℕ). times j f b) k ∙ g.rest

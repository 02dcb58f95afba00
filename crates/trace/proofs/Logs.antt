-- The records of an instruction, one after the other.
-- Assumes nothing.
use Rattle.std.proofs.Common.{◌≡◌, ℕ, zero, suc, ◌+◌, ◌-◌, ◌%◌, ◌^◌, ◌<◌, ◌≤◌, Bool, refl, ap, arith}
use Rattle.isa.specs.Text.{text}
use Rattle.plan.specs.Plan.{tick_text}
use Rattle.control.specs.Count.{more}
use Rattle.trace.specs.Trace.{Arrays, tick_phase}
use Rattle.trace.specs.Lines.{lines}
use Rattle.trace.specs.Forms.{push_into, logged_in}

module _ (n : ℕ) where
  pub line_next : (t k a : ℕ) (taken : Bool) (w : ℕ) (q : Arrays) → t < n
      → logged_in (lines (n - t) t k a taken w) q ≡ logged_in (lines (n - (t + 1)) (t + 1) k a taken w) (push_into (record { number = more (t + 1) k; address = a; phase = tick_phase t; text = text (tick_text t taken w) }) q)
  unfolding lines logged_in
  line_next t k a taken w q h = let z : n - t ≡ suc (n - (t + 1)) = omega arith in ap (λ (x : ℕ). logged_in (lines x t k a taken w) q) z

  pub line_end : (t k a : ℕ) (taken : Bool) (w : ℕ) (q : Arrays) → n ≤ t → logged_in (lines (n - t) t k a taken w) q ≡ q
  unfolding lines logged_in
  line_end t k a taken w q h = let z : n - t ≡ 0 = omega arith in ap (λ (x : ℕ). logged_in (lines x t k a taken w) q) z

-- the number of a record
pub more_at : (t k : ℕ) → more (t + 1) k ≡ (k + (t + 1)) % 2 ^ 64
more_at zero k = refl
more_at (suc t) k = let z : suc t + 1 ≡ suc (t + 1) = omega arith in omega (arith, more_at t k, ap (λ (n : ℕ). more n k) z)

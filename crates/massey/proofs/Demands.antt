-- Demand 3 of the archive's call for a report, as `specs/Demand.antt` states it.
-- Assumes nothing.
use Prim.Native.Nat.{ℕ, zero, suc}
use native.Mathlib.Omega.{arith}
use mathlib.Core.Path.{◌≡◌, refl, sym, ap, ◌∙◌}
use mathlib.Core.List.{List}
use lib.ListN.{length, take}
use Rattle.secret.specs.Outcome.{report_in}
use Rattle.secret.specs.Program.{bytes_refusal, bytes_outcome}
use Rattle.secret.proofs.Programs.{bytes-told}
use Rattle.secret.proofs.Theorem.{demand_three_bytes}
use Rattle.massey.specs.Calls.{length_of, number_of, reported_outcome}
use Rattle.massey.specs.Demand.{DemandThreeArchive}

-- a length is answered only where nothing is refused
length-told : (r l m : ℕ) → number_of r l ≡ length_of m → (r ≡ 0) × (m ≡ l)
length-told zero l m e = (refl, cc)
length-told (suc r) l m e = let z : ◌≡◌ {A = ℕ} 0 1 = cc in absurd (omega arith)

module _ (x b : List ℕ) (m : ℕ) (e : (reported_outcome x b).answer ≡ length_of m) where
  told : ((bytes_outcome x b).answer.refused ≡ 0) × (m ≡ (bytes_outcome x b).answer.length)
  unfolding reported_outcome
  told = length-told (bytes_outcome x b).answer.refused (bytes_outcome x b).answer.length m e

  served : bytes_refusal x (length b) ≡ 0
  served = sym (bytes-told x b) ∙ told.0

  first : take m (reported_outcome x b).buffer ≡ report_in (bytes_outcome x b)
  unfolding reported_outcome
  first = ap (λ (k : ℕ). take k (bytes_outcome x b).buffer) told.1

pub demand_three_archive : DemandThreeArchive
demand_three_archive x y b d m n p q v w =
    let t = demand_three_bytes x y b d (served x b m p) (served y d n q) v w in
    let left = first x b m p in
    let right = first y d n q in
    (λ e. t.0 (sym left ∙ e ∙ right), λ s. left ∙ t.1 s ∙ sym right)

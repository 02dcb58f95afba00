-- A register that a transfer names is one of sixteen.
-- Assumes nothing.
use Rattle.std.proofs.Common.{◌≡◌, ℕ, ◌%◌, ◌<◌, List, set, refl, ap, arith, Option, Some, None}
use Rattle.isa.specs.Sizes.{register_count}
use Rattle.control.specs.declared.control.RegisterWrite.{RegisterWrite}
use Rattle.trace.specs.Cells.{registers_after, register_of}
use Rattle.trace.specs.Forms.{registers_by}

pub one_of_sixteen : (w : Option RegisterWrite) (r : List ℕ) → register_of w < register_count → registers_by w r ≡ registers_after w r
one_of_sixteen None r h = refl
one_of_sixteen (Some w) r h = let e : w.register % register_count ≡ w.register = omega arith in ap (λ (k : ℕ). set r k w.value) e

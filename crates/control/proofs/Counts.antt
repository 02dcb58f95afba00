-- The laws of `specs/Count.antt`.
-- Assumes nothing.
use Rattle.std.proofs.Common.{◌≡◌, ℕ, ◌+◌, ◌≤◌, arith}
use Rattle.control.specs.Count.{one_more}

-- a machine that is not refused 9 counts exactly
pub one_more_lem : (n : ℕ) → n ≤ 18446744073709551600 → one_more n ≡ n + 1
one_more_lem n h = omega arith

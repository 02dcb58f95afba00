-- A shift of 16 or more gives 0, whatever is shifted.
-- Assumes nothing.
use Rattle.std.proofs.Common.{◌≡◌, ℕ, ◌≤◌, le-ltb}
use Rattle.tick.specs.Tick.{right16, left16}

pub shift_out : (n v : ℕ) → 16 ≤ n → (right16 n v ≡ 0) × (left16 n v ≡ 0)
unfolding right16 left16
shift_out n v h = (rw (le-ltb n 16 h), rw (le-ltb n 16 h))

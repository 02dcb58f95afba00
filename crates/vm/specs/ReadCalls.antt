-- What a call that reads a machine answers beside plain values of it (01, section 10; vm.rs).
-- Assumes nothing.
use Rattle.std.specs.Prelude.{ℕ, ◌-◌, Bool, cond, eqb, Option, Some, None}

-- none between instructions and once halted, else the transfer that was just made
abbrev pub position_of : Bool → ℕ → Option ℕ
position_of halted t = cond halted None (cond (eqb t 0) None (Some (t - 1)))

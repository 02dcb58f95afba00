-- What a transfer does to memory and registers (01, section 3; vm.rs, `micro_step`).
-- Assumes nothing.
use Rattle.std.specs.Prelude.{ℕ, List, slice_set, Option, Some, None}
use Rattle.control.specs.declared.control.BusTransfer.{BusTransfer}
use Rattle.control.specs.declared.control.BusTransfer.TheVariants.{Read, Write}
use Rattle.control.specs.declared.control.RegisterWrite.{RegisterWrite}

abbrev pub registers_after : Option RegisterWrite → List ℕ → List ℕ
registers_after None r = r
registers_after (Some w) r = slice_set r w.register w.value

-- the register that is written, 0 for none
abbrev pub register_of : Option RegisterWrite → ℕ
register_of None = 0
register_of (Some w) = w.register

abbrev pub memory_after : Option BusTransfer → List ℕ → List ℕ
memory_after None m = m
memory_after (Some (Read a v)) m = m
memory_after (Some (Write a v)) m = slice_set m a v

-- The last transfer over the bus of a whole instruction (01, section 3; 02, Change 11).
-- Assumes nothing.
use Rattle.std.specs.Prelude.{ℕ, Option, Some, None}
use Rattle.control.specs.declared.control.BusTransfer.{BusTransfer}
use Rattle.control.specs.declared.control.BusTransfer.TheVariants.{Read, Write}

-- that of the fetch, of the word w at a, unless there is a later one; its address is MAR then, and its value MDR
abbrev pub last_bus : Option BusTransfer → ℕ → ℕ → Option BusTransfer
last_bus None a w = Some (Read a w)
last_bus (Some (Read b v)) a w = Some (Read b v)
last_bus (Some (Write b v)) a w = Some (Write b v)

abbrev pub last_address : Option BusTransfer → ℕ → ℕ
last_address None a = a
last_address (Some (Read b v)) a = b
last_address (Some (Write b v)) a = b

abbrev pub last_value : Option BusTransfer → ℕ → ℕ
last_value None w = w
last_value (Some (Read b v)) w = v
last_value (Some (Write b v)) w = v

-- what the last tick sends: only STORE's is a transfer over the bus
abbrev pub last_sent : Option BusTransfer → Option BusTransfer
last_sent None = None
last_sent (Some (Read a v)) = None
last_sent (Some (Write a v)) = Some (Write a v)

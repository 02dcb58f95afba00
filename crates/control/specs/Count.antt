-- The four counters (01, section 1, refusal 9, and section 3; vm.rs, `micro_step`).
-- Assumes nothing.
use Rattle.std.specs.Prelude.{ℕ, zero, suc, ◌+◌, ◌%◌, ◌^◌, Bool, cond, ◌||◌, nat_lt, Option, Some, None}
use Rattle.control.specs.declared.control.BusTransfer.{BusTransfer}
use Rattle.control.specs.declared.control.BusTransfer.TheVariants.{Read, Write}
use Rattle.control.specs.declared.counters.Counters.{Counters}

-- a running machine counts no further than this
abbrev pub counter_limit : ℕ
counter_limit = 18446744073709551600

abbrev pub far : ℕ → Bool
far n = nat_lt counter_limit n

-- one of them is near its end
unfoldable pub over_counted : Counters → Bool
over_counted k = far k.instructions || (far k.micro_operations || (far k.bus_reads || far k.bus_writes))

-- one more; a machine is refused before it comes round
abbrev pub one_more : ℕ → ℕ
one_more n = (n + 1) % 2 ^ 64

-- n more
abbrev pub more : ℕ → ℕ → ℕ
more zero k = k
more (suc n) k = one_more (more n k)

-- a read and a write are counted apart
abbrev pub count_transfer : Option BusTransfer → Counters → Counters
count_transfer None k = k
count_transfer (Some (Read a v)) k = record {
  instructions = k.instructions;
  micro_operations = k.micro_operations;
  bus_reads = one_more k.bus_reads;
  bus_writes = k.bus_writes;
}
count_transfer (Some (Write a v)) k = record {
  instructions = k.instructions;
  micro_operations = k.micro_operations;
  bus_reads = k.bus_reads;
  bus_writes = one_more k.bus_writes;
}

-- each tick is a micro operation; whether it completes an instruction that counts
abbrev pub count_work : Bool → Counters → Counters
count_work completed k = record {
  instructions = cond completed (one_more k.instructions) k.instructions;
  micro_operations = one_more k.micro_operations;
  bus_reads = k.bus_reads;
  bus_writes = k.bus_writes;
}

unfoldable pub count_tick : Option BusTransfer → Bool → Counters → Counters
count_tick bus completed k = count_work completed (count_transfer bus k)

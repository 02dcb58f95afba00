-- `Ticks` and `Runs`: what ticks, instructions and runs add to the bus counters; `Totals`: the theorem; `Promises`: the calls' own promises give what it asks;
-- `Holds`: every list of calls has a past; `Examples`: two of them.
pub mod Ticks
pub mod Runs
pub mod Totals
pub mod Promises
pub mod Holds
pub mod Examples

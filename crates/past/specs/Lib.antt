-- `Past`: the ticks that each call makes, and a machine's past; `Played`: a past of every list of calls; `Examples`: two of them.
pub mod Past
pub mod Played
pub mod Examples

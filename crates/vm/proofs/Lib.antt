-- The laws by subject. Of ticks and instructions: `TickLaws`, `TickTurns` (a turn of the loop over ticks), `Newest` (the texts
-- that an instruction leaves, and its end), `Steps` (an instruction tick by tick), `Direct` (a whole instruction is its ticks), `DirectParts` (the code's whole instruction is that).
-- Of runs: `Runs` and `Guards` (a turn of the loop over instructions, and of the guarded one), `Plain` (the guarded machine is the plain one), `Totals` (the total of hidden words is their count), `Forgets`
-- (a trace forgets), `Skips`, `GuardedBegun` and `GuardedSkips` (runs whose first instructions are made without records), `Ahead` (the code that makes them).
-- Of calls: `Fits` (their tests), `Starts` (those that start a machine anew), `GuardedStarts` (the guarded run's input and new machine), `Histories`, and
-- `Reached` (served calls leave a machine).
pub mod TickLaws
pub mod TickTurns
pub mod Newest
pub mod Steps
pub mod Direct
pub mod DirectParts
pub mod Runs
pub mod Guards
pub mod Plain
pub mod Totals
pub mod Forgets
pub mod Skips
pub mod GuardedBegun
pub mod GuardedSkips
pub mod Ahead
pub mod Fits
pub mod Starts
pub mod GuardedStarts
pub mod Histories
pub mod Reached

-- The laws by subject: `Ticks` of `specs/Tick.antt`, `Shifts` of shifts by 16 or more, and `Lawfuls`, that a tick of a machine leaves one.
pub mod Ticks
pub mod Shifts
pub mod Lawfuls

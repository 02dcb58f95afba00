-- `Machines` has the laws of `specs/Machine.antt`, `Loops` those of its loops.
pub mod Machines
pub mod Loops

-- The laws by subject: `Addresses` of `specs/Address.antt`, `Faults` of a fault's code, `Counts` of `specs/Count.antt`, and `Lawfuls` of `specs/Lawful.antt`.
pub mod Addresses
pub mod Faults
pub mod Counts
pub mod Lawfuls

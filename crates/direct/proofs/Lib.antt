-- The laws by subject: `Counts` of the counters, `Words` of what a word writes, `Tables` of the tables, `Lanes` of one instruction without its records, `Stretches` of many, and `Wholes` of one with its records.
pub mod Counts
pub mod Words
pub mod Tables
pub mod Lanes
pub mod Stretches
pub mod Wholes

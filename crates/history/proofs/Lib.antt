-- `Parts` has what is read and lent of bytes, `Records` the laws of a record, `Stores` those of push and of the newest record,
-- `Collects` those of the differing addresses, and `Rust` that the records are the Rust's list.
pub mod Parts
pub mod Records
pub mod Stores
pub mod Collects
pub mod Rust

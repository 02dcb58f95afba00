pub mod Record
pub mod Store
pub mod Differences
pub mod Restore
pub mod Rust

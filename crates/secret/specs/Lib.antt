pub mod Widths
pub mod Report
pub mod Forms
pub mod Public
pub mod Outcome
pub mod Program
pub mod Demand
pub mod Marked

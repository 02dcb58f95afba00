pub mod Work
pub mod Light
pub mod Table
pub mod Lane
pub mod Whole

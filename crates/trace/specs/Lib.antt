pub mod Trace
pub mod Touched
pub mod Cells
pub mod Lines
pub mod Forms

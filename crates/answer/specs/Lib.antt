pub mod Line
pub mod Answer

pub mod Machine
pub mod History

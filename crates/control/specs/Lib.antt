pub mod Address
pub mod Control
pub mod Operation
pub mod Codes
pub mod Lawful
pub mod Count
pub mod Last

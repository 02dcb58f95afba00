pub mod Disassembly
pub mod Forms
pub mod Operands
pub mod Examples

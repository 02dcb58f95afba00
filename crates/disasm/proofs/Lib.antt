-- `Texts` has the laws of `specs/Disassembly.antt`, `Whole` that a text tells its word.
pub mod Texts
pub mod Whole

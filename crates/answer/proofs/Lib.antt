-- `Lines` has the laws of the lines that a program writes, `Answers` those of its answer in a buffer.
pub mod Lines
pub mod Answers

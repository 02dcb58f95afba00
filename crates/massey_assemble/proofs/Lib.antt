-- `Answers` has the laws of `specs/Answer.antt`.
pub mod Answers

-- `Answers` has the laws of `specs/Calls.antt`, `Demands` proves `specs/Demand.antt`.
pub mod Answers
pub mod Demands

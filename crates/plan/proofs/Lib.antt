-- `Plans` has the laws of `specs/Plan.antt`.
pub mod Plans

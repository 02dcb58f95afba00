-- `Owners` has the union and what is hidden of it, owner by owner; `Moves` the marks of an instruction in one form; `Totals` the full count of hidden words, and that a carried total is that count.
pub mod Owners
pub mod Moves
pub mod Totals

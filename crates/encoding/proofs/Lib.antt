-- `Written` has the laws of what is written over bytes, `Numbers` those of numbers in bytes, `Members` those of a search, and `Loops` a turn of each loop of the code.
pub mod Written
pub mod Numbers
pub mod Loops
pub mod Members
pub mod Refusals

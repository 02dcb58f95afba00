-- `Hex` has the laws of the template for hexadecimal numbers.
pub mod Hex

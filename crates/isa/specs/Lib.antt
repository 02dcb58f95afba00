pub mod Sizes
pub mod Text
pub mod Opcode
pub mod Word
pub mod Nibbles
pub mod Format

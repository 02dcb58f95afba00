-- `Texts` has the laws of `specs/Text.antt`, `Words` those of words and their struct, `Fills` those of
-- templates, `Tables` those of tables with a row for each opcode, `Pairs` those of the table of digits, `Nibbles`
-- that of the unused digits, `Truths` those of tests.
pub mod Truths
pub mod Texts
pub mod Words
pub mod Fills
pub mod Tables
pub mod Pairs
pub mod Nibbles

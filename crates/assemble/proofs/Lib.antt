-- What is read is what the grammar says: `Scans` by one pattern, `Instructions` by all forms, `Exact` a line, `Texts` a whole text, with its image, and
-- `Refusals` which number is given. The listing and back: `Listed` the text of a word, `RoundTrip` an image, `Back` what the calls write.
-- For the functions' proofs: `Steps` bytes, keys and forms, `Rows` lines, `Linking` labels and addresses, `Answers` what the calls answer.
pub mod Scans
pub mod Instructions
pub mod Exact
pub mod Texts
pub mod Refusals
pub mod Listed
pub mod RoundTrip
pub mod Steps
pub mod Rows
pub mod Linking
pub mod Answers
pub mod Back

-- In the order of document 02's sentences: `Grammar` has the instructions, `Lines` a line, `Assembly` a whole text and its image, `Refusals` which refusal is
-- given, `Answer` what the calls answer. `Reading` has what the code holds while it reads.
pub mod Grammar
pub mod Lines
pub mod Assembly
pub mod Refusals
pub mod Answer
pub mod Reading

-- What the assembler program answers (02, Change 4, in the form of 01, section 6): to the bytes that it read, and whether they are the whole input.
-- Assumes nothing.
use Rattle.std.specs.Prelude.{ℕ, Bool, cond, List, ltb, length}
use Rattle.encoding.specs.Answer.{Outcome}
use Rattle.answer.specs.Answer.{answer_of, answer_outcome}
use Rattle.assemble.specs.Answer.{image_bytes, bytes_refusal}

-- the longest text that the program takes
abbrev pub text_limit : ℕ
text_limit = 262144

-- refused 6: the input could not be read to its end, or is longer, before all other tests; else as the call on bytes is, with this room for the image
unfoldable pub program_refusal : Bool → List ℕ → ℕ → ℕ
program_refusal whole text room = cond whole (cond (ltb text_limit (length text)) 6 (bytes_refusal text room)) 6

-- the bytes that the program writes: the image's words, or the refusal's line
unfoldable pub program_answer : Bool → List ℕ → ℕ → List ℕ
program_answer whole text room = answer_of (program_refusal whole text room) (image_bytes text)

-- they stand at the buffer's start; where not even the line fits, nothing is written
unfoldable pub program_outcome : Bool → List ℕ → List ℕ → Outcome ℕ
program_outcome whole text out = answer_outcome (program_answer whole text (length out)) out

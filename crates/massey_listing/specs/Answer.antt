-- What the listing program answers (01, section 7, in the form of section 6): to the bytes that it read, and whether they are the whole input.
-- Assumes nothing.
use Rattle.std.specs.Prelude.{ℕ, Bool, cond, List, length}
use Rattle.encoding.specs.Answer.{Outcome}
use Rattle.answer.specs.Answer.{answer_of, answer_outcome}
use Rattle.listing.specs.Listing.{bytes_refusal, bytes_listing}

-- refused 6: the input could not be read to its end; else as the call on bytes is, with this room for the listing
unfoldable pub program_refusal : Bool → List ℕ → ℕ → ℕ
program_refusal whole input room = cond whole (bytes_refusal (length input) room) 6

-- the bytes that the program writes: the listing, or the refusal's line
unfoldable pub program_answer : Bool → List ℕ → ℕ → List ℕ
program_answer whole input room = answer_of (program_refusal whole input room) (bytes_listing input)

-- they stand at the buffer's start; where not even the line fits, nothing is written
unfoldable pub program_outcome : Bool → List ℕ → List ℕ → Outcome ℕ
program_outcome whole input out = answer_outcome (program_answer whole input (length out)) out

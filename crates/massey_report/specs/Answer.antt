-- What the report program writes (01, section 6): the report of its input, or the line of the refusal.
-- Assumes nothing.
use Rattle.std.specs.Prelude.{ℕ, Bool, cond, List, length, take}
use Rattle.secret.specs.Report.{report_bytes}
use Rattle.secret.specs.Program.{input_of, bytes_refusal}
use Rattle.encoding.specs.Answer.{Outcome}
use Rattle.answer.specs.Answer.{answer_of, answer_outcome}

-- the number of the refusal, 0 for none; where a read failed it is 6, since the input may go on: whether none did, the input, the length of the buffer
abbrev pub program_refusal : Bool → List ℕ → ℕ → ℕ
program_refusal whole b room = cond whole (bytes_refusal b room) 6

-- the bytes that are the answer
unfoldable pub program_answer : Bool → List ℕ → ℕ → List ℕ
program_answer whole b room = answer_of (program_refusal whole b room) (report_bytes (input_of b))

-- they stand at the start of the buffer, and the bytes behind them are kept; where they do not fit nothing is written, and the length is 0
abbrev pub program_outcome : Bool → List ℕ → List ℕ → Outcome ℕ
program_outcome whole b out = answer_outcome (program_answer whole b (length out)) out

-- what is handed to `write`: the first bytes of the buffer, as many as the length says
abbrev pub handed : Outcome ℕ → List ℕ
handed o = take o.answer o.buffer

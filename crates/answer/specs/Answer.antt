-- What a program answers (01, section 6): the bytes that it writes are the first of a buffer.
-- Assumes nothing.
use Rattle.std.specs.Prelude.{ℕ, zero, suc, cond, List, ltb, length}
use Rattle.encoding.specs.Bytes.{over}
use Rattle.encoding.specs.Answer.{Outcome, outcome}
use Rattle.answer.specs.Line.{refusal_line}

-- how many bytes of the buffer are the answer, and the buffer: they stand at its start, and the bytes behind them are kept; an answer that does
-- not fit is not written, and is no byte
unfoldable pub answer_outcome : List ℕ → List ℕ → Outcome ℕ
answer_outcome bytes out = cond (ltb (length out) (length bytes)) (outcome 0 out) (outcome (length bytes) (over out 0 bytes))

-- the line of the refusal, or the bytes of a call that is served
abbrev pub answer_of : ℕ → List ℕ → List ℕ
answer_of zero served = served
answer_of (suc n) served = refusal_line (suc n)

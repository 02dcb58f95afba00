-- What the call for a report answers, and the buffer that it leaves (01, sections 1 and 6).
-- Assumes nothing.
use Rattle.std.specs.Prelude.{ℕ, Ok, List, length, take}
use Rattle.encoding.specs.Bytes.{over}
use Rattle.encoding.specs.Answer.{Told, Outcome, outcome, unless_refused}
use Rattle.encoding.specs.Refusal.{told}
use Rattle.guard.specs.Input.{Input}
use Rattle.secret.specs.Report.{report_bytes}
use Rattle.secret.specs.Public.{report_refusal}

-- a length, and the buffer
abbrev pub answered_length : ℕ → List ℕ → Outcome Told
answered_length n b = outcome (told (Ok n)) b

-- the report r in the first bytes of the buffer, and its length; what stands behind it is kept
abbrev pub delivered : List ℕ → List ℕ → Outcome Told
delivered r out = answered_length (length r) (over out 0 r)

unfoldable pub report_outcome : Input → List ℕ → Outcome Told
report_outcome i out = unless_refused (report_refusal i (length out)) out (delivered (report_bytes i) out)

-- the report of a call: the buffer's first bytes, as many as the returned length
abbrev pub report_in : Outcome Told → List ℕ
report_in o = take o.answer.length o.buffer

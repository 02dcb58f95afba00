-- Demand 3 (01, section 6) of what the report program writes.
-- Assumes nothing.
use Rattle.std.specs.Prelude.{ℕ, ◌≡◌, ◌↔◌, true, List, length}
use Rattle.secret.specs.Public.{SamePublic}
use Rattle.secret.specs.Program.{input_of, bytes_refusal}
use Rattle.secret.specs.Demand.{AllBytes}
use Rattle.massey_report.specs.Answer.{program_outcome, handed}

-- two inputs x and y that were read whole and are not refused, and the buffers b and d
abbrev pub DemandThreeProgram : Type 0
DemandThreeProgram = (x y b d : List ℕ) → bytes_refusal x (length b) ≡ 0 → bytes_refusal y (length d) ≡ 0 → AllBytes x → AllBytes y
    → (handed (program_outcome true x b) ≡ handed (program_outcome true y d)) ↔ SamePublic (input_of x) (input_of y)

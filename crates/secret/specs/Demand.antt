-- Demand 3 (01, section 6; 02, Change 7): two accepted guarded runs have equal reports exactly when image length, budget, breakpoint list, clearance, owner bytes
-- and each starting word that is not hidden from that reader are the same.
-- So a report tells its reader nothing of what is hidden, and all that is public of its input. `proofs/Theorem.antt` proves what is stated here.
-- Assumes nothing.
use Rattle.std.specs.Prelude.{ℕ, ◌<◌, ◌≡◌, ◌↔◌, List, length, get_or}
use Rattle.guard.specs.Input.{Input}
use Rattle.secret.specs.Report.{report_bytes}
use Rattle.secret.specs.Public.{report_refusal, SamePublic}
use Rattle.secret.specs.Outcome.{report_outcome, report_in}
use Rattle.secret.specs.Program.{input_of, bytes_refusal, bytes_outcome}

-- the image is an array of 16-bit words, and the report program's input one of bytes, as the calls' types say
abbrev pub Words : Input → Type 0
Words i = (a : ℕ) → get_or i.image a 0 < 65536

abbrev pub AllBytes : List ℕ → Type 0
AllBytes b = (i : ℕ) → get_or b i 0 < 256

-- of the reports: the inputs, and the lengths of the buffers that the reports are written to
abbrev pub DemandThree : Type 0
DemandThree = (i j : Input) (m n : ℕ) → report_refusal i m ≡ 0 → report_refusal j n ≡ 0 → Words i → Words j
    → (report_bytes i ≡ report_bytes j) ↔ SamePublic i j

-- of what `report` leaves: the inputs, and the buffers b and d that were lent
abbrev pub DemandThreeCalls : Type 0
DemandThreeCalls = (i j : Input) (b d : List ℕ) → report_refusal i (length b) ≡ 0 → report_refusal j (length d) ≡ 0 → Words i → Words j
    → (report_in (report_outcome i b) ≡ report_in (report_outcome j d)) ↔ SamePublic i j

-- of what `report_bytes` leaves: the report program's inputs x and y, and the buffers
abbrev pub DemandThreeBytes : Type 0
DemandThreeBytes = (x y b d : List ℕ) → bytes_refusal x (length b) ≡ 0 → bytes_refusal y (length d) ≡ 0 → AllBytes x → AllBytes y
    → (report_in (bytes_outcome x b) ≡ report_in (bytes_outcome y d)) ↔ SamePublic (input_of x) (input_of y)

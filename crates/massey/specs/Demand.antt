-- Demand 3 (01, section 6) of the archive's call for a report.
-- Assumes nothing.
use Rattle.std.specs.Prelude.{ℕ, ◌≡◌, ◌↔◌, List, take}
use Rattle.secret.specs.Public.{SamePublic}
use Rattle.secret.specs.Program.{input_of}
use Rattle.secret.specs.Demand.{AllBytes}
use Rattle.massey.specs.Calls.{length_of, reported_outcome}

-- the inputs x and y, the buffers b and d, and the lengths m and n that are answered: the report is the buffer's first bytes
abbrev pub DemandThreeArchive : Type 0
DemandThreeArchive = (x y b d : List ℕ) (m n : ℕ) → (reported_outcome x b).answer ≡ length_of m → (reported_outcome y d).answer ≡ length_of n → AllBytes x → AllBytes y
    → (take m (reported_outcome x b).buffer ≡ take n (reported_outcome y d).buffer) ↔ SamePublic (input_of x) (input_of y)

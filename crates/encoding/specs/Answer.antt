-- What a call that writes into a lent buffer answers (01, sections 1 and 6, and the last paragraph).
-- Assumes nothing.
use Rattle.std.specs.Prelude.{ℕ, zero, suc, List}

-- what it answers, and the buffer that it leaves
pub record Outcome (A : Type 0) : Type 0 where
  pub answer : A
  pub buffer : List ℕ

abbrev pub outcome : {A : Type 0} → A → List ℕ → Outcome A
outcome a b = record { answer = a; buffer = b }

-- an answer by number: that of the refusal, 0 for none, and the length of what was written, 0 where it is refused
pub record Told : Type 0 where
  pub refused : ℕ
  pub length : ℕ

-- the number of the refusal alone, and the buffer as it was; where there is none, the second
abbrev pub unless_refused : ℕ → List ℕ → Outcome Told → Outcome Told
unless_refused zero out o = o
unless_refused (suc n) out o = outcome (record { refused = suc n; length = 0 }) out

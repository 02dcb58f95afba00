-- Why a call is refused, by 01's numbers (01, section 1; 02, Change 4).
-- Assumes nothing.
use Rattle.std.specs.Prelude.{ℕ, Result, Ok, Err}
use Rattle.encoding.specs.Answer.{Told}
use Rattle.encoding.specs.declared.refusal.Refusal.{Refusal}
use Rattle.encoding.specs.declared.refusal.Refusal.TheVariants.{LongImage, OwnerCount, BreakpointCount, LargeBudget, ShortBuffer, InputLength, ShortStore, NoMachine, FullCounter, NoHistory, Grammar, Label, WordCount}

abbrev pub refusal_number : Refusal → ℕ
refusal_number LongImage = 1
refusal_number OwnerCount = 2
refusal_number BreakpointCount = 3
refusal_number LargeBudget = 4
refusal_number ShortBuffer = 5
refusal_number InputLength = 6
refusal_number ShortStore = 7
refusal_number NoMachine = 8
refusal_number FullCounter = 9
refusal_number NoHistory = 10
refusal_number Grammar = 11
refusal_number Label = 12
refusal_number WordCount = 13

-- the number of the refusal that an answer is, 0 where it is none
abbrev pub refused_by : {A : Type 0} → Result A Refusal → ℕ
refused_by (Ok a) = 0
refused_by (Err r) = refusal_number r

-- an answer by number (01, the last paragraph): a length, or the number of the refusal
abbrev pub told : Result ℕ Refusal → Told
told (Ok n) = record { refused = 0; length = n }
told (Err r) = record { refused = refusal_number r; length = 0 }

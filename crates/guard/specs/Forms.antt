-- The verdicts as the code has them, and the one test of `may_go` for both kinds of run. A reader need not believe it:
-- what a run tests stands in Stops.antt, and the proofs of `run_parts` and `guarded_parts` (vm) and of Lanes.antt (direct) show that these give the same.
-- Assumes nothing.
use Rattle.std.specs.Prelude.{ℕ, Bool, false, cond, not, eqb, Option, Some, None}
use Rattle.guard.specs.Stops.{Verdict, go, stop}

-- what the code's verdict says: no stop is to go on
abbrev pub verdict_of : {A : Type 0} → Option A → Verdict A
verdict_of None = go
verdict_of (Some c) = stop c

-- both, but for their budgets, the counters and a hidden jump (02, Change 11): which marks hide, whether more are asked for, the table of breakpoints
-- at the instruction's address, the word's mark
unfoldable pub passes : (ℕ → Bool) → Bool → ℕ → ℕ → Bool
passes hid more b m = cond more (cond (eqb b 0) (not (hid m)) false) false

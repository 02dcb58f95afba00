-- The records of a whole instruction, one after the other (01, section 3; 02, Change 11).
-- Assumes nothing.
use Rattle.std.specs.Prelude.{ℕ, zero, suc, ◌+◌, Bool, List, [], ◌∷◌}
use Rattle.isa.specs.Text.{text}
use Rattle.plan.specs.Plan.{tick_text}
use Rattle.control.specs.Count.{more}
use Rattle.trace.specs.declared.records.TraceRecord.{TraceRecord}
use Rattle.trace.specs.Trace.{pushed, tick_phase}

-- of n ticks from tick t on: micro operations before the instruction, its address, whether a jump is taken, the word
unfoldable pub lines : ℕ → ℕ → ℕ → ℕ → Bool → ℕ → List TraceRecord
lines zero t k a taken w = []
lines (suc n) t k a taken w =
    record { number = more (t + 1) k; address = a; phase = tick_phase t; text = text (tick_text t taken w) }
    ∷ lines n (t + 1) k a taken w

-- a trace with more records, one after the other
unfoldable pub logged : {A : Type 0} → List A → List A → List A
logged [] t = t
logged (e ∷ es) t = logged es (pushed e t)

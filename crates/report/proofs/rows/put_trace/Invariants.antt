-- Assumes nothing.
use Prim.Native.Nat.{ℕ, ◌+◌, ◌%◌}
use mathlib.Core.List.{List}
use Rattle.trace.specs.Trace.{trace_limit}
use Rattle.secret.specs.Widths.{trace_length}
use Rattle.secret.specs.Forms.{slot_bytes}
use Rattle.report.proofs.Turns.{Rows}
use Rattle.report.proofs.rows.put_trace.Given as goal

abbrev pub piece : ℕ → List ℕ → List ℕ → ℕ → List ℕ
piece start k i j = slot_bytes k i ((start % trace_limit + j) % trace_limit)

abbrev pub invariant-loop-i : goal.invariant-loop-i
invariant-loop-i l = Rows trace_length (piece l.start l.columns l.numbers) l.n l.initial.out l.at l.i l.out

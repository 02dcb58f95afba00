-- Assumes nothing.
use Prim.Native.Nat.{ℕ}
use mathlib.Core.List.{List}
use lib.ListN.{length, get_or}
use Rattle.secret.specs.Widths.{break_length}
use Rattle.secret.specs.Report.{break_record}
use Rattle.report.proofs.Turns.{Rows}
use Rattle.report.proofs.rows.put_breaks.Given as goal

abbrev pub piece : List ℕ → ℕ → List ℕ
piece list i = break_record (get_or list i 0)

abbrev pub invariant-loop-i : goal.invariant-loop-i
invariant-loop-i l = Rows break_length (piece l.list) (length l.list) l.initial.out l.at l.i l.out

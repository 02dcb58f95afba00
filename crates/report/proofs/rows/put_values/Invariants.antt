-- Assumes nothing.
use Prim.Native.Nat.{ℕ}
use mathlib.Core.List.{List}
use lib.ListN.{length, get_or}
use Rattle.encoding.specs.Bytes.{big_endian}
use Rattle.marks.specs.Owners.{hidden_from}
use Rattle.secret.specs.Widths.{value_length}
use Rattle.secret.specs.Report.{value_record}
use Rattle.report.proofs.Turns.{Rows}
use Rattle.report.proofs.rows.put_values.Given as goal

abbrev pub piece : ℕ → ℕ → ℕ → List ℕ → List ℕ → ℕ → List ℕ
piece clearance kind width values marks i = value_record (hidden_from clearance) kind (big_endian width i) (get_or marks i 0) (get_or values i 0)

abbrev pub invariant-loop-i : goal.invariant-loop-i
invariant-loop-i l = Rows (value_length l.width) (piece l.clearance l.kind l.width l.values l.marks) (length l.values) l.initial.out l.at l.i l.out

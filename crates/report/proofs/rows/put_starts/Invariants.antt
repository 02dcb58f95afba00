-- Assumes nothing.
use Prim.Native.Nat.{ℕ}
use mathlib.Core.List.{List}
use lib.ListN.{get_or}
use Rattle.isa.specs.Sizes.{memory_words}
use Rattle.vm.specs.Calls.{image_words}
use Rattle.marks.specs.Owners.{hidden_from}
use Rattle.secret.specs.Widths.{head_length, start_length}
use Rattle.secret.specs.Report.{start_record}
use Rattle.report.proofs.Turns.{Rows}
use Rattle.report.proofs.rows.put_starts.Given as goal

abbrev pub piece : ℕ → List ℕ → List ℕ → ℕ → List ℕ
piece clearance image marks a = start_record (hidden_from clearance) a (get_or marks a 0) (get_or (image_words image) a 0)

abbrev pub invariant-loop-i : goal.invariant-loop-i
invariant-loop-i l = Rows start_length (piece l.clearance l.image l.marks) memory_words l.initial.out head_length l.i l.out

-- Assumes nothing.
use Rattle.std.proofs.Common.{◌≡◌, ◌-◌}
use Rattle.trace.specs.Trace.{arrays_of}
use Rattle.trace.specs.Lines.{lines}
use Rattle.trace.specs.Forms.{logged_in}
use Rattle.trace.proofs.lines.push_lines.Given as goal

abbrev pub invariant-loop-tick : goal.invariant-loop-tick
invariant-loop-tick l =
    logged_in (lines (l.n - l.tick) l.tick l.before l.address l.taken l.word) (arrays_of l.last l.columns l.numbers l.lengths) ≡ logged_in (lines l.n 0 l.before l.address l.taken l.word) (arrays_of l.initial.last l.initial.columns l.initial.numbers l.initial.lengths)

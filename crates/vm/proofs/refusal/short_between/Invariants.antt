-- None of the lengths so far is over 32, unless `over` says so.
-- Assumes nothing.
use Prim.Native.Nat.{◌-◌}
use mathlib.Core.Path.{◌≡◌}
use mathlib.Core.Bool.{not}
use lib.ListN.{take, drop}
use Rattle.trace.specs.Trace.{short_texts}
use Rattle.vm.proofs.refusal.short_between.Given as goal

abbrev pub invariant-loop-length : goal.invariant-loop-length
invariant-loop-length l = not l.over ≡ short_texts (take l.length-index (take (l.to - l.from) (drop l.from l.lengths)))

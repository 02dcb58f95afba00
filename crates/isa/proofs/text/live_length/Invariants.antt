-- The invariant: the first n bytes are the first i without the spaces at their end.
-- Assumes nothing.
use Prim.Native.Nat.{◌≤◌}
use mathlib.Core.Path.{◌≡◌}
use lib.ListN.{take}
use Rattle.isa.specs.Text.{trimmed}
use Rattle.isa.proofs.text.live_length.Given as goal

abbrev pub invariant-loop-i : goal.invariant-loop-i
invariant-loop-i l = (take l.n l.s ≡ trimmed (take l.i l.s)) × (l.n ≤ l.i)

-- The invariant: the array holds the first i bytes of the filled template, and zeros.
-- Assumes nothing.
use mathlib.Core.Path.{◌≡◌}
use lib.ListN.{take}
use Rattle.isa.specs.Text.{padded}
use Rattle.isa.specs.Format.{fill}
use Rattle.isa.proofs.digits.format.Given as goal

abbrev pub invariant-loop-i : goal.invariant-loop-i
invariant-loop-i l = l.bytes ≡ padded 32 (take l.i (fill l.word l.template))

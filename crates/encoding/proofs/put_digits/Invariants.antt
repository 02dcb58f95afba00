-- The invariant: what is left to write, the `width - i` bytes of `left`, makes of the slice what is wanted.
-- Assumes nothing.
use mathlib.Core.Path.{◌≡◌}
use Prim.Native.Nat.{◌-◌}
use Rattle.encoding.specs.Bytes.{over, big_endian}
use Rattle.encoding.proofs.put_digits.Given as goal

abbrev pub invariant-loop-i : goal.invariant-loop-i
invariant-loop-i l = over l.out l.at (big_endian (l.width - l.i) l.left) ≡ over l.initial.out l.at (big_endian l.width l.n)

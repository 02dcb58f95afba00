-- The invariant: what is read, with what is left to read, is what is wanted.
-- Assumes nothing.
use mathlib.Core.Path.{◌≡◌}
use mathlib.Core.List.{◌++◌}
use Prim.Native.Nat.{◌+◌, ◌*◌, ◌-◌}
use lib.ListN.{length, take, drop}
use Rattle.encoding.specs.Bytes.{numbers}
use Rattle.encoding.proofs.get_each.Given as goal

abbrev pub invariant-loop-i : goal.invariant-loop-i
invariant-loop-i l =
    take l.i l.out ++ numbers 2 (length l.initial.out - l.i) (drop (l.at + 2 * l.i) l.bytes) ≡ numbers 2 (length l.initial.out) (drop l.at l.bytes)

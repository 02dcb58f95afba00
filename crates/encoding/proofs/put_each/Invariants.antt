-- The invariant: what is left to write makes of the slice what is wanted.
-- Assumes nothing.
use mathlib.Core.Path.{◌≡◌}
use mathlib.Core.List.{List}
use Prim.Native.Nat.{ℕ, ◌+◌, ◌*◌, ◌-◌}
use lib.ListN.{length, get_or}
use Rattle.encoding.specs.Bytes.{over, big_endian, big_endians, each_from}
use Rattle.encoding.proofs.put_each.Given as goal

abbrev pub piece : List ℕ → ℕ → List ℕ
piece words j = big_endian 2 (get_or words j 0)

abbrev pub invariant-loop-i : goal.invariant-loop-i
invariant-loop-i l =
    over l.out (l.at + 2 * l.i) (each_from (piece l.words) l.i (length l.words - l.i)) ≡ over l.initial.out l.at (big_endians 2 l.words)

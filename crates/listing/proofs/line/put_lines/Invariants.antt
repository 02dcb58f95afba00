-- The invariant: with the lines that are left written too, the buffer is what it is to be.
-- Assumes nothing.
use Prim.Native.Nat.{◌+◌, ◌*◌, ◌-◌}
use mathlib.Core.Path.{◌≡◌}
use lib.ListN.{length}
use Rattle.encoding.specs.Bytes.{over, each_from}
use Rattle.listing.specs.Listing.{line_of}
use Rattle.listing.proofs.line.put_lines.Given as goal

abbrev pub invariant-loop-i : goal.invariant-loop-i
invariant-loop-i l =
    (length l.out ≡ length l.initial.out) × (over l.out (l.at + 45 * l.i) (each_from (line_of l.words) l.i (length l.words - l.i)) ≡ over l.initial.out l.at (each_from (line_of l.words) 0 (length l.words)))

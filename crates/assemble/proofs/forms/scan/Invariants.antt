-- The invariant: what the rest of the form reads from here on is what the form reads.
-- Assumes nothing.
use Prim.Native.Nat.{◌+◌, ◌*◌, ◌≤◌}
use mathlib.Core.Path.{◌≡◌}
use mathlib.Core.List.{map}
use lib.ListN.{length}
use Rattle.assemble.specs.Grammar.{token}
use Rattle.assemble.specs.Reading.{keyed}
use Rattle.assemble.proofs.Steps.{rest}
use Rattle.assemble.proofs.forms.scan.Given as goal

abbrev pub invariant-loop-b : goal.invariant-loop-b
invariant-loop-b l = record {
  inside : l.spot.at ≤ length l.s;
  light : l.spot.word ≤ l.base + 65536 * l.b-index;
  reads : rest l.pattern l.s l.b-index l.spot ≡ keyed (map token l.pattern) l.base 0 l.s;
}

-- The invariant: the number so far is that of the bytes so far.
-- Assumes nothing.
use mathlib.Core.Path.{◌≡◌}
use Prim.Native.Nat.{◌^◌, ◌<◌}
use lib.ListN.{drop}
use Rattle.encoding.specs.Bytes.{number}
use Rattle.encoding.proofs.get_digits.Given as goal

abbrev pub invariant-loop-byte : goal.invariant-loop-byte
invariant-loop-byte l = (l.read ≡ number l.byte-index (drop l.at l.bytes)) × (l.read < 256 ^ l.byte-index)

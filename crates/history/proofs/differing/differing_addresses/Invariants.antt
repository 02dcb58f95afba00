-- `differing_addresses` meets its contract. The invariant: the addresses so far, with those that are left, are all.
-- Assumes nothing.
use Rattle.std.proofs.Common.{◌≡◌, ◌+◌, ◌≤◌, length}
use Rattle.isa.specs.Sizes.{memory_words}
use Rattle.history.specs.Differences.{differ}
use Rattle.history.proofs.Collects.{Found}
use Rattle.history.proofs.differing.differing_addresses.Given as goal

abbrev pub invariant-loop-i : goal.invariant-loop-i
invariant-loop-i l =
    (l.i-iterator.count + length l.i-iterator.iter.a.rest.now ≡ memory_words)
    × (l.count ≤ l.i-iterator.count)
    × Found memory_words l.addresses l.count (differ l.i-iterator.count l.i-iterator.iter.a.rest.now l.i-iterator.iter.b.rest.now) (differ 0 l.fn.image l.fn.memory)

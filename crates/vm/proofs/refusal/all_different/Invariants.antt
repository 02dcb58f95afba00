-- The table of those seen says 1 of an address just where it came before.
-- Assumes nothing.
use Prim.Native.Nat.{ℕ, ◌<◌}
use mathlib.Core.Path.{◌≡◌}
use mathlib.Core.Bool.{true, cond}
use lib.ListN.{length, get_or, take}
use Rattle.isa.specs.Sizes.{memory_words}
use Rattle.trace.specs.Touched.{distinct}
use Rattle.encoding.specs.Bytes.{member}
use Rattle.vm.proofs.refusal.all_different.Given as goal

abbrev pub invariant-loop-item : goal.invariant-loop-item
invariant-loop-item l =
    let live = take l.n l.items in
    (length l.seen ≡ memory_words) × (distinct (take l.item-index live) ≡ true)
    × ((a : ℕ) → a < memory_words → get_or l.seen a 0 ≡ cond (member a (take l.item-index live)) 1 0)

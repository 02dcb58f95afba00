-- The invariant: what is left to be saved of the machine that is there, in the store as it is then.
-- Assumes nothing.
use Prim.Native.Nat.{ℕ}
use mathlib.Core.Path.{◌≡◌}
use mathlib.Core.List.{List}
use lib.ListN.{length}
use Rattle.vm.specs.declared.machine.Machine.{Machine as Code}
use Rattle.massey_bench.specs.History.{Kept, push}
use Rattle.massey_bench.proofs.Loops.{Going}
use Rattle.massey_bench.proofs.undo.massey_pushes.Given as goal

abbrev pub held : List ℕ → Code → Kept
held d m = record { store = d; machine = m }

abbrev pub invariant-loop : goal.invariant-loop
invariant-loop l = (length l.store ≡ length l.initial.store) × Going push l.n l.counter (held l.initial.store l.initial.m) (held l.store l.m)

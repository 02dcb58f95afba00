-- The invariant: what is left to be undone of the machine that is there.
-- Assumes nothing.
use Prim.Native.Nat.{ℕ}
use mathlib.Core.List.{List}
use Rattle.vm.specs.declared.machine.Machine.{Machine as Code}
use Rattle.vm.specs.History.{undone}
use Rattle.massey_bench.proofs.Loops.{Going}
use Rattle.massey_bench.proofs.undo.massey_undos.Given as goal

abbrev pub back : List ℕ → Code → Code
back d m = (undone d m).machine

abbrev pub invariant-loop : goal.invariant-loop
invariant-loop l = Going (back l.store) l.n l.counter l.initial.m l.m

-- The archive's calls on a machine's history: so many pushes or undos one after the other, on a new machine that says it has so many records.
-- Assumes nothing.
use Rattle.std.specs.Prelude.{ℕ, List, length}
use Rattle.vm.specs.declared.machine.Machine.{Machine as Code}
use Rattle.vm.specs.Calls.{with_history}
use Rattle.vm.specs.History.{saved, saved_store, undone}
use Rattle.massey_bench.specs.Machine.{start, times}

pub record Kept : Type 0 where
  pub store : List ℕ
  pub machine : Code

abbrev pub kept : List ℕ → List ℕ → ℕ → Kept
kept image store count = record { store = store; machine = with_history count (start image) }

abbrev pub push : Kept → Kept
push k = record { store = saved_store k.store k.machine; machine = (saved (length k.store) k.machine).machine }

abbrev pub pushes : ℕ → Kept → Kept
pushes n = times n push

abbrev pub undos : ℕ → List ℕ → Code → Code
undos n d = times n (λ m. (undone d m).machine)

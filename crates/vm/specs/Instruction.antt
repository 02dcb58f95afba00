-- One instruction (01, section 4; vm.rs, `step_instruction`): ticks until one ends it.
-- Assumes nothing.
use Rattle.std.specs.Prelude.{ℕ, zero, suc, ◌+◌, false, List, [], ◌∷◌, length, get_or, None}
use Rattle.isa.specs.Text.{Text}
use Rattle.isa.specs.Text.{text}
use Rattle.plan.specs.declared.plan.TransferPlan.{TransferPlan}
use Rattle.vm.specs.declared.parts.Done.{Done}
use Rattle.vm.specs.Machine.{Machine, next_text, next_done, micro_step}

-- a machine, how many ticks were made, and what the last one did
pub record Steps : Type 0 where
  pub machine : Machine
  pub ticks : ℕ
  pub done : Done

abbrev pub nothing : Done
nothing = record { bus = None; write = None; faulted = false }

abbrev pub started : Machine → Steps
started m = record { machine = m; ticks = 0; done = nothing }

unfoldable pub ticked : Steps → Steps
ticked s = record { machine = micro_step s.machine; ticks = s.ticks + 1; done = next_done s.machine }

-- the second value unless the number is 0; it waits to be asked for
abbrev pub unless_zero : {A : Type 0} → ℕ → A → (Unit {0} → A) → A
unless_zero zero a b = a
unless_zero (suc n) a b = b tt

-- ticks until one ends the instruction, at most that many
unfoldable pub steps : ℕ → Steps → Steps
steps zero s = s
steps (suc f) s = unless_zero (ticked s).machine.state.control.tick (ticked s) (λ u. steps f (ticked s))

-- no instruction has more than seven ticks
unfoldable pub step_instruction : Machine → Steps
step_instruction m = steps 7 (started m)

-- the texts of those ticks, and the struct that holds them: at most seven, and empty ones past them
unfoldable pub tick_texts : ℕ → Machine → List Text
tick_texts zero m = []
tick_texts (suc f) m = next_text m ∷ unless_zero (micro_step m).state.control.tick [] (λ u. tick_texts f (micro_step m))

abbrev pub texts_from : List Text → TransferPlan
texts_from l =
    let none = text [] in
    record {
      texts = get_or l 0 none ∷ get_or l 1 none ∷ get_or l 2 none ∷ get_or l 3 none ∷ get_or l 4 none ∷ get_or l 5 none ∷ get_or l 6 none ∷ [];
      count = length l;
    }

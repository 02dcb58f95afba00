-- A machine from `new` by served calls is never refused 8.
-- Assumes nothing.
use Prim.Native.Nat.{ℕ, ◌≤◌}
use native.Mathlib.Omega.{arith}
use mathlib.Core.Path.{◌≡◌}
use mathlib.Core.Bool.{true}
use mathlib.Core.List.{List, []}
use borrow.Author.Tests.{leb-true}
use lib.Dec.{leb}
use lib.ListN.{length}
use Rattle.isa.specs.Sizes.{memory_words}
use Rattle.control.specs.Lawful.{lawful}
use Rattle.vm.specs.declared.machine.Machine.{Machine as Code}
use Rattle.vm.specs.Refusal.{parts_ok}
use Rattle.vm.specs.Calls.{is_machine, restarted, image_words, loaded, reset, clear, clear_history}
use Rattle.isa.proofs.Truths.{both}
use Rattle.vm.specs.History.{saved, undone}
use Rattle.vm.proofs.Starts.{size_few, new_ok}
use Rattle.vm.proofs.Histories.{saved-lasts, undone-lasts}

size : (m : Code) → is_machine m ≡ true → m.image_len ≤ memory_words
unfolding parts_ok
size m e = leb-true m.image_len memory_words (both (leb m.image_len memory_words) _ (both (lawful m.state.control) _ e).1).0

pub loaded-lasts : (image : List ℕ) (m : Code) → is_machine m ≡ true → is_machine (loaded image m).machine ≡ true
unfolding loaded
loaded-lasts image m e = rw e (new_ok (image_words image) _ m.history_len (size_few (length image)))

pub reset-lasts : (m : Code) → is_machine m ≡ true → is_machine (reset m).machine ≡ true
unfolding reset
reset-lasts m e = rw e (new_ok m.image m.image_len m.history_len (size m e))

pub clear-lasts : (m : Code) → is_machine m ≡ true → is_machine (clear m).machine ≡ true
unfolding clear
clear-lasts m e = rw e (new_ok (image_words []) 0 0 (omega arith))

pub clear-history-lasts : (m : Code) → is_machine m ≡ true → is_machine (clear_history m).machine ≡ true
unfolding clear_history
clear-history-lasts m e = rw e e

-- by which calls a machine is reached, with any store; the image's array has 256 words, as its type tells; `micro_step`, `step_instruction`, `run`, `direct_instruction` and `direct_run` promise `lasting`, and the readings leave the machine as it is
pub data Reached : Code → Type 0 where
  new : Reached (restarted (image_words []) 0 0)
  load : (image : List ℕ) (m : Code) → Reached m → Reached (loaded image m).machine
  again : (m : Code) → Reached m → Reached (reset m).machine
  cleared : (m : Code) → Reached m → Reached (clear m).machine
  forgotten : (m : Code) → Reached m → Reached (clear_history m).machine
  kept : (n : ℕ) (m : Code) → Reached m → Reached (saved n m).machine
  undid : (d : List ℕ) (m : Code) → length m.image ≡ memory_words → Reached m → Reached (undone d m).machine
  moved : (m n : Code) → Reached m → (is_machine m ≡ true → is_machine n ≡ true) → Reached n

pub never_refused : (m : Code) → Reached m → is_machine m ≡ true
never_refused _ new = new_ok (image_words []) 0 0 (omega arith)
never_refused _ (load image m r) = loaded-lasts image m (never_refused m r)
never_refused _ (again m r) = reset-lasts m (never_refused m r)
never_refused _ (cleared m r) = clear-lasts m (never_refused m r)
never_refused _ (forgotten m r) = clear-history-lasts m (never_refused m r)
never_refused _ (kept n m r) = saved-lasts n m (never_refused m r)
never_refused _ (undid d m z r) = undone-lasts d m z (never_refused m r)
never_refused _ (moved m n r lasting) = lasting (never_refused m r)

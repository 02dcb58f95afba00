-- Laws of the calls that start a machine anew (`specs/Calls.antt`): the words of an image, and a machine that was just switched on.
-- Assumes nothing.
use Prim.Native.Nat.{ℕ, ◌≤◌}
use native.Mathlib.Omega.{arith}
use mathlib.Core.Path.{◌≡◌, ap}
use mathlib.Core.Bool.{Bool, true, ◌&&◌}
use mathlib.Core.List.{List}
use borrow.Author.Tests.{le-leb}
use Rattle.isa.specs.Sizes.{memory_words}
use Rattle.control.specs.Lawful.{lawful}
use Rattle.trace.specs.Trace.{live_lengths, short_texts}
use Rattle.trace.specs.Touched.{distinct}
use Rattle.vm.specs.Refusal.{parts_ok}
use Rattle.vm.specs.Calls.{is_machine, restarted, image_size}

-- ---- a machine that was just switched on is a machine

pub size_few : (n : ℕ) → image_size n ≤ memory_words
size_few n = omega arith

pub new_ok : (image : List ℕ) (n h : ℕ) → n ≤ memory_words → is_machine (restarted image n h) ≡ true
unfolding restarted parts_ok lawful live_lengths short_texts distinct
new_ok image n h le = ap (λ (b : Bool). b && true) (le-leb n memory_words le)

-- The calls that run an image on a new machine and answer how many micro operations it made (01, sections 3 and 4).
-- Assumes nothing.
use Rattle.std.specs.Prelude.{ℕ, zero, suc, ◌/◌, min, true, cond, List, length}
use Rattle.isa.specs.Sizes.{memory_words}
use Rattle.encoding.specs.Bytes.{numbers}
use Rattle.control.specs.Count.{over_counted}
use Rattle.vm.specs.declared.machine.Machine.{Machine as Code}
use Rattle.vm.specs.Machine.{Machine, micro_step}
use Rattle.vm.specs.Instruction.{step_instruction}
use Rattle.vm.specs.Calls.{view_of, restarted, image_words}
use Rattle.vm.specs.RunCalls.{run_call}

-- how many words count of so many bytes
abbrev pub word_count : ℕ → ℕ
word_count n = min (n / 2) memory_words

-- the words of an image, high byte first; an odd byte at the end is none
unfoldable pub words_of : List ℕ → List ℕ
words_of image = numbers 2 (word_count (length image)) image

-- a machine just switched on with them
unfoldable pub start : List ℕ → Code
start image = restarted (image_words (words_of image)) (word_count (length image)) 0

-- f, n times
unfoldable pub times : {A : Type 0} → ℕ → (A → A) → A → A
times zero f a = a
times (suc n) f a = times n f (f a)

-- a halted machine stays as it is, and so does one that is refused 9
unfoldable pub moving : (Machine → Machine) → Machine → Machine
moving next m = cond m.state.control.halted m (cond (over_counted m.counters) m (next m))

abbrev pub made_by : Machine → ℕ
made_by m = m.counters.micro_operations

-- the machine after n ticks
unfoldable pub ticks_on : List ℕ → ℕ → Machine
ticks_on image n = times n (moving micro_step) (view_of (start image))

unfoldable pub ticks_count : List ℕ → ℕ → ℕ
ticks_count image n = made_by (ticks_on image n)

-- a run after n ticks, with these breakpoints
unfoldable pub run_count : List ℕ → ℕ → ℕ → List ℕ → ℕ
run_count image n budget breaks = made_by (run_call true breaks budget (ticks_on image n)).machine

unfoldable pub steps_count : List ℕ → ℕ → ℕ
steps_count image n = made_by (times n (moving (λ m. (step_instruction m).machine)) (view_of (start image)))

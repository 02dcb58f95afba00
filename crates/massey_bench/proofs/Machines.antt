-- The laws of `specs/Machine.antt`: the words of an image, the machine that is started on them, and what a step of it leaves.
-- Assumes nothing.
use Prim.Native.Nat.{ℕ, ◌+◌, ◌*◌, ◌≤◌}
use native.Mathlib.Omega.{arith}
use mathlib.Core.Path.{◌≡◌, refl, ap, ◌∙◌}
use mathlib.Core.Bool.{Bool, true, false, cond}
use mathlib.Core.List.{List, []}
use borrow.Author.Tests.{le-leb}
use lib.ListN.{length, take}
use lib.Seq.{length-take-le}
use Rattle.isa.specs.Sizes.{memory_words}
use Rattle.encoding.specs.Bytes.{numbers, read_words}
use Rattle.encoding.proofs.Numbers.{length-numbers}
use Rattle.control.specs.Count.{over_counted}
use Rattle.vm.specs.declared.machine.Machine.{Machine as Code}
use Rattle.vm.specs.Machine.{Machine, micro_step}
use Rattle.vm.specs.Instruction.{step_instruction}
use Rattle.vm.specs.Refusal.{step_refusal_if, step_refusal}
use Rattle.vm.specs.Calls.{view_of, is_machine, step_refusal_of, restarted, image_words, image_size, loaded}
use Rattle.vm.specs.StepCalls.{effect_if, halted_op, micro_op, micro_effect, halted_report, instruction_report, step_effect}
use Rattle.vm.proofs.Starts.{new_ok}
use Rattle.massey_bench.specs.Machine.{word_count, words_of, start, moving}

-- ---- the words of an image

-- no more than memory has count, and they lie in the bytes
pub count_fits : (n : ℕ) → (word_count n ≤ memory_words) × (2 * word_count n ≤ n)
count_fits n = (omega arith, omega arith)

-- what is read into the front of an array
pub words_read : (image zs : List ℕ) {n : ℕ} {ws : List ℕ} → length zs ≡ 256 → n ≡ word_count (length image) → ws ≡ read_words image 0 (take n zs) → ws ≡ words_of image
unfolding read_words words_of
words_read image zs {n} l k e =
    let f = count_fits (length image) in
    let t : length (take n zs) ≡ n = length-take-le n zs (omega (arith, f.0)) in
    e ∙ rw t (rw (le-leb (0 + 2 * n) (length image) (omega (arith, f.1))) (ap (λ (j : ℕ). numbers 2 j image) k))

pub words-length : (image : List ℕ) → length (words_of image) ≡ word_count (length image)
unfolding words_of
words-length image = length-numbers 2 (word_count (length image)) image

-- ---- the machine that is started

pub start_ok : (image : List ℕ) → is_machine (start image) ≡ true
unfolding start
start_ok image = new_ok (image_words (words_of image)) (word_count (length image)) 0 (count_fits (length image)).0

no_history : (image : List ℕ) (n h : ℕ) → (restarted image n h).history_len ≡ h
unfolding restarted
no_history image n h = refl

-- no more words than memory has all count
all-count : {n : ℕ} → n ≤ memory_words → image_size n ≡ n
all-count h = omega (arith, h)

loaded_new : (ws : List ℕ) (m : Code) → is_machine m ≡ true → length ws ≤ memory_words → (loaded ws m).machine ≡ restarted (image_words ws) (length ws) m.history_len
unfolding loaded
loaded_new ws m ok h =
    rw ok (ap (λ (n : ℕ). restarted (image_words ws) n m.history_len) (all-count h))

-- the words of an image, loaded on a new machine
pub start-loaded : (image : List ℕ) {ws : List ℕ} {m : Code} → ws ≡ words_of image → m ≡ restarted (image_words []) 0 0 → (loaded ws m).machine ≡ start image
unfolding start
start-loaded image {ws} {m} e g =
    let new = restarted (image_words []) 0 0 in
    let l = words-length image in
    let f = count_fits (length image) in
    (λ i. (loaded (e i) (g i)).machine)
    ∙ loaded_new (words_of image) new (new_ok (image_words []) 0 0 (omega arith)) (omega (arith, l, f.0))
    ∙ (λ i. restarted (image_words (words_of image)) (l i) (no_history (image_words []) 0 0 i))

-- ---- what a step leaves

left_effect : {A : Type 0} (h o : Bool) (still moved : A) (m next : Machine) → (effect_if (step_refusal_if true h o) h still moved m next).machine ≡ cond h m (cond o m next)
left_effect true o still moved m next = refl
left_effect false true still moved m next = refl
left_effect false false still moved m next = refl

-- of a machine, a call whose effect goes by refusal 9 and by whether it is halted
after : {A : Type 0} (s : Code) (still moved : A) (next : Machine) → is_machine s ≡ true
    → (effect_if (step_refusal_of s) s.state.control.halted still moved (view_of s) next).machine ≡ cond s.state.control.halted (view_of s) (cond (over_counted s.counters) (view_of s) next)
unfolding step_refusal
after s still moved next ok =
    let h = s.state.control.halted in
    let o = over_counted s.counters in
    ap (λ (b : Bool). (effect_if (step_refusal_if b h o) h still moved (view_of s) next).machine) ok ∙ left_effect h o still moved (view_of s) next

pub after-tick : (s : Code) → is_machine s ≡ true → (micro_effect (step_refusal_of s) (view_of s)).machine ≡ moving micro_step (view_of s)
unfolding micro_effect moving
after-tick s ok = let v = view_of s in after s (halted_op v.state) (micro_op v) (micro_step v) ok

pub after-step : (s : Code) → is_machine s ≡ true → (step_effect (step_refusal_of s) (view_of s)).machine ≡ moving (λ v. (step_instruction v).machine) (view_of s)
unfolding step_effect moving
after-step s ok = let v = view_of s in after s (halted_report v) (instruction_report v) (step_instruction v).machine ok

-- The guarded run of an image: what a served input has, and the machine that is switched on with it.
-- Assumes nothing.
use Prim.Native.Nat.{ℕ, zero, suc, ◌≤◌, ◌-◌}
use native.Mathlib.Omega.{arith}
use mathlib.Core.Path.{◌≡◌, refl, ap, sym, ◌∙◌}
use mathlib.Core.Bool.{Bool, true, false, cond}
use mathlib.Core.List.{List, ◌++◌, append-nil}
use borrow.Author.Tests.{ltb-false, eqb-true, ne_eqb}
use lib.Dec.{eqb, ltb}
use lib.ListN.{length, replicate, length-replicate}
use lib.Seq.{take_all}
use Rattle.isa.specs.Sizes.{memory_words}
use Rattle.isa.proofs.Texts.{zeros_at}
use Rattle.trace.specs.Trace.{columns_length}
use Rattle.vm.specs.declared.machine.Machine.{Machine as Code}
use Rattle.vm.specs.Forms.{Fit, Sizes}
use Rattle.vm.specs.Calls.{parts_of, view_of, is_machine, rest_of, restarted, image_words, image_size}
use Rattle.marks.specs.Owners.{hidden_from}
use Rattle.marks.specs.Total.{hidden_count, IsCount}
use Rattle.vm.specs.Guard.{guarded_start, guarded_run, guarded_of, GuardedAnswer, served_answer, refused_answer, guarded_answer}
use Rattle.guard.specs.Input.{Input, break_limit, budget_limit, guard_refusal, input_refusal}
use Rattle.vm.proofs.Starts.{size_few, new_ok}
use Rattle.vm.proofs.Fits.{fit}

-- ---- a new machine

long : (n : ℕ) → length (replicate {A = ℕ} n 0) ≡ n
long n = length-replicate {A = ℕ} n 0

pub new_fit : (image : List ℕ) (n h : ℕ) → n ≤ memory_words → Fit (parts_of (restarted image n h))
unfolding restarted
new_fit image n h le =
    let z : Sizes (parts_of (restarted image n h)) =
    record {
      touched = long memory_words;
      bytes = λ i. omega (arith, zeros_at memory_words i);
      columns = long columns_length;
      numbers = long 512;
      lengths = long 512;
    } in
    fit (parts_of (restarted image n h)) n (new_ok image n h le) z

-- ---- a served input

size_is : (n : ℕ) → n ≤ memory_words → image_size n ≡ n
size_is n le = omega (arith, le)

-- 256 marks are all of them
words_are : (l : List ℕ) → length l ≡ memory_words → image_words l ≡ l
unfolding image_words
words_are l e =
    let z : memory_words - length l ≡ 0 = omega arith in
    (λ k. take_all memory_words l (omega arith) k ++ replicate (z k) 0) ∙ append-nil l

pub served_input : (i : Input) → input_refusal i ≡ 0 → (length i.image ≤ memory_words) × (length i.marks ≡ memory_words) × (i.budget ≤ budget_limit)
unfolding guard_refusal
served_input i e = go (ltb memory_words (length i.image)) (eqb (length i.marks) memory_words) (ltb break_limit (length i.breaks)) (ltb budget_limit i.budget) refl refl refl e
  where
    go : (a b c d : Bool) → ltb memory_words (length i.image) ≡ a → eqb (length i.marks) memory_words ≡ b → ltb budget_limit i.budget ≡ d
        → ◌≡◌ {A = ℕ} (cond a 1 (cond b (cond c 3 (cond d 4 0)) 2)) 0
        → (length i.image ≤ memory_words) × (length i.marks ≡ memory_words) × (i.budget ≤ budget_limit)
    go true b c d p q r z = absurd (omega (arith, z))
    go false false c d p q r z = absurd (omega (arith, z))
    go false true true d p q r z = absurd (omega (arith, z))
    go false true false true p q r z = absurd (omega (arith, z))
    go false true false false p q r z =
        (omega (arith, ltb-false memory_words (length i.image) p), eqb-true (length i.marks) memory_words q, ltb-false budget_limit i.budget r)

-- its marks in the code's array, and their count
pub load_counts : (i : Input) → input_refusal i ≡ 0 → {marks : List ℕ} {n : ℕ} → marks ≡ image_words i.marks → n ≡ hidden_count (hidden_from i.clearance) i.marks → IsCount (hidden_from i.clearance) marks n
load_counts i z e c =
    let full = (served_input i z).1 in
    let all = e ∙ words_are i.marks full in
    record { full = ap length all ∙ full; count = c ∙ ap (hidden_count (hidden_from i.clearance)) (sym all) }

-- ---- by what the code finds: the words, how many count, the machine, the marks

module _ (i : Input) {new : Code} {words : List ℕ} {size : ℕ} (machine : new ≡ restarted words size 0) (loaded : words ≡ image_words i.image) (counted : size ≡ image_size (length i.image)) where
  few : size ≤ memory_words
  few = omega (arith, counted, size_few (length i.image))

  pub load_fit : Fit (parts_of new)
  load_fit = rw machine (new_fit words size 0 few)

  pub load_ok : is_machine new ≡ true
  load_ok = ap is_machine machine ∙ new_ok words size 0 few

  module _ (served : input_refusal i ≡ 0) where
    has : (length i.image ≤ memory_words) × (length i.marks ≡ memory_words) × (i.budget ≤ budget_limit)
    has = served_input i served

    pub load_rest : rest_of new ≡ record { image = image_words i.image; length = length i.image; history = 0 }
    unfolding restarted
    load_rest = ap rest_of machine ∙ (λ k. record { image = loaded k; length = (counted ∙ size_is (length i.image) has.0) k; history = 0 })

    pub load_run : {marks : List ℕ} → marks ≡ image_words i.marks → guarded_run (hidden_from i.clearance) i.breaks 0 i.budget (record { machine = view_of new; marks = record { memory = marks; registers = replicate 16 0; mdr = 0 } }) ≡ guarded_of i
    unfolding guarded_of guarded_start
    load_run e =
        let m = machine ∙ (λ k. restarted (loaded k) ((counted ∙ size_is (length i.image) has.0) k) 0) in
        λ k. guarded_run (hidden_from i.clearance) i.breaks 0 i.budget (record { machine = view_of (m k); marks = record { memory = (e ∙ words_are i.marks has.1) k; registers = replicate 16 0; mdr = 0 } })

-- ---- what the call answers

module _ (i : Input) where
  pub answer_served : input_refusal i ≡ 0 → guarded_answer i ≡ served_answer i
  unfolding guarded_answer
  answer_served e = ap (λ (n : ℕ). cond (eqb n 0) (served_answer i) (refused_answer n)) e

  pub answer-refused : {n : ℕ} → n ≡ input_refusal i → (n ≡ 0 → ⊥) → refused_answer n ≡ guarded_answer i
  unfolding guarded_answer
  answer-refused {n} e h =
      sym (ap (λ (b : Bool). cond b (served_answer i) (refused_answer n)) (ne_eqb n 0 h))
      ∙ ap (λ (k : ℕ). cond (eqb k 0) (served_answer i) (refused_answer k)) e

-- the number is that of the input's refusal, whatever is answered
pub answer-refusal : (i : Input) → (guarded_answer i).refused ≡ input_refusal i
unfolding refused_answer
answer-refusal i = go (input_refusal i) refl
  where
    go : (n : ℕ) → input_refusal i ≡ n → (guarded_answer i).refused ≡ input_refusal i
    go zero e = ap (λ (a : GuardedAnswer). a.refused) (answer_served i e) ∙ sym e
    go (suc n) e = ap (λ (a : GuardedAnswer). a.refused) (sym (answer-refused i {n = suc n} (sym e) (λ z. omega (arith, z)))) ∙ sym e

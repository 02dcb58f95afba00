-- A run whose first instructions are made without a trace: it ends as the run itself does, where 129 instructions follow.
-- Assumes nothing.
use Prim.Native.Nat.{ℕ, zero, suc, ◌+◌, ◌-◌, ◌*◌, ◌≤◌, ◌<◌}
use native.Mathlib.Omega.{arith}
use mathlib.Core.Path.{◌≡◌, refl, ap, sym, subst, ◌∙◌}
use mathlib.Core.Bool.{Bool, false}
use mathlib.Core.List.{List}
use borrow.Author.Tests.{eqb-false}
use lib.Dec.{eqb}
use lib.ListN.{length, length-append}
use Rattle.isa.specs.Word.{decode_word}
use Rattle.plan.specs.Plan.{execute_ticks_of}
use Rattle.control.specs.Count.{over_counted}
use Rattle.trace.specs.declared.records.TraceRecord.{TraceRecord}
use Rattle.guard.specs.Stops.{go, reached, verdict_if}
use Rattle.vm.specs.Machine.{Machine}
use Rattle.vm.specs.Instruction.{step_instruction}
use Rattle.vm.specs.Run.{verdict, run}
use Rattle.vm.proofs.Plain.{instructions}
use Rattle.vm.proofs.Runs.{run_goes}
use Rattle.trace.specs.Lines.{lines, logged}
use Rattle.direct.specs.Work.{halts}
use Rattle.direct.specs.Light.{Light, word_at, taken_by, records_of, light_step, light_steps, records_in}
use Rattle.vm.specs.Direct.{light_of, direct_on}
use Rattle.vm.proofs.Direct.{direct_is_step}
use Rattle.vm.proofs.Forgets.{logged_append, few-logged, forgets}

-- ---- instructions, one more at the end

instructions_back : (k : ℕ) (m : Machine) → instructions (suc k) m ≡ (step_instruction (instructions k m)).machine
unfolding instructions
instructions_back zero m = refl
instructions_back (suc k) m = instructions_back k (step_instruction m).machine

instructions_add : (j k : ℕ) (m : Machine) → instructions (j + k) m ≡ instructions k (instructions j m)
unfolding instructions
instructions_add zero k m = let z : 0 + k ≡ k = omega arith in ap (λ (n : ℕ). instructions n m) z
instructions_add (suc j) k m =
    let z : suc j + k ≡ suc (j + k) = omega arith in
    ap (λ (n : ℕ). instructions n m) z ∙ instructions_add j k (step_instruction m).machine

pub steps_add : (j k : ℕ) (l : Light) → light_steps (j + k) l ≡ light_steps k (light_steps j l)
unfolding light_steps
steps_add j zero l = let z : j + 0 ≡ j = omega arith in ap (λ (n : ℕ). light_steps n l) z
steps_add j (suc k) l = let z : j + suc k ≡ suc (j + k) = omega arith in ap (λ (n : ℕ). light_steps n l) z ∙ ap light_step (steps_add j k l)

minus_two : (n j o : ℕ) → n - (j + o) ≡ n - j - o
minus_two n j o = omega arith

-- ---- at least four records to an instruction

length-lines : (n t k a : ℕ) (taken : Bool) (w : ℕ) → length (lines n t k a taken w) ≡ n
unfolding lines
length-lines zero t k a taken w = refl
length-lines (suc n) t k a taken w = ap suc (length-lines n (t + 1) k a taken w)

four_records : (l : Light) → 4 ≤ length (records_of l)
unfolding records_of
four_records l = let w = word_at l in omega (arith, length-lines (4 + execute_ticks_of (decode_word w)) 0 l.counters.micro_operations l.pc (taken_by w l.registers) w)

many_records : (k : ℕ) (l : Light) → 4 * k ≤ length (records_in k l)
unfolding records_in
many_records zero l = omega arith
many_records (suc k) l = rw length-append (omega (arith, many_records k l, four_records (light_steps k l)))

-- ---- a machine between two instructions, and after k of them

pub record Ready (m : Machine) : Type 0 where
  pub tick : m.state.control.tick ≡ 0
  pub running : m.state.control.halted ≡ false
  pub few : length m.trace ≤ 512

-- none of the first k halts
unfoldable pub Lasts : ℕ → Light → Type 0
Lasts k l = (i : ℕ) → i < k → halts (decode_word (word_at (light_steps i l))) ≡ false

pub record After (k : ℕ) (l : Light) (t : List TraceRecord) (m : Machine) : Type 0 where
  pub light : light_of m ≡ light_steps k l
  pub tick : m.state.control.tick ≡ 0
  pub running : m.state.control.halted ≡ false
  pub trace : m.trace ≡ logged (records_in k l) t

-- the machine is known but for its trace
next : (k : ℕ) (l : Light) (t : List TraceRecord) (m : Machine) → After k l t m → (step_instruction m).machine ≡ direct_on (light_steps k l) (logged (records_in k l) t)
next k l t m a = direct_is_step m a.tick a.running ∙ (λ i. direct_on (a.light i) (a.trace i))

after-direct : (k : ℕ) (l : Light) (t : List TraceRecord) → halts (decode_word (word_at (light_steps k l))) ≡ false → After (suc k) l t (direct_on (light_steps k l) (logged (records_in k l) t))
unfolding direct_on light_steps light_step records_in
after-direct k l t h = record { light = refl; tick = refl; running = h; trace = sym (logged_append (records_in k l) (records_of (light_steps k l)) t) }

move : (k : ℕ) (l : Light) (t : List TraceRecord) {x y : Machine} → x ≡ y → After k l t y → After k l t x
move k l t e a = subst (λ (z : Machine). After k l t z) (sym e) a

after_none : (m : Machine) → Ready m → After 0 (light_of m) m.trace (instructions 0 m)
unfolding instructions light_steps records_in logged
after_none m r = record { light = refl; tick = r.tick; running = r.running; trace = refl }

pub after : (k : ℕ) (m : Machine) → Ready m → Lasts k (light_of m) → After k (light_of m) m.trace (instructions k m)
unfolding Lasts
after zero m r h = after_none m r
after (suc k) m r h =
    move (suc k) (light_of m) m.trace
    (instructions_back k m ∙ next k (light_of m) m.trace (instructions k m) (after k m r (λ i l. h i (omega arith))))
    (after-direct k (light_of m) m.trace (h k (omega arith)))

-- ---- two machines that differ in what the next instruction sets, and in their traces

pub twins : (k : ℕ) (m n : Machine) → Ready m → Ready n → light_of m ≡ light_of n → 128 ≤ k → Lasts k (light_of m) → instructions (suc k) m ≡ instructions (suc k) n
unfolding Lasts
twins k m n r s e h g =
    let l = light_of m in
    let a : instructions (suc k) m ≡ direct_on (light_steps k l) (logged (records_in k l) m.trace) = instructions_back k m ∙ next k l m.trace (instructions k m) (after k m r g) in
    let g' : Lasts k (light_of n) = unfold Lasts in (λ i q. ap (λ (x : Light). halts (decode_word (word_at (light_steps i x)))) (sym e) ∙ g i q) in
    let b : instructions (suc k) n ≡ direct_on (light_steps k (light_of n)) (logged (records_in k (light_of n)) n.trace) = instructions_back k n ∙ next k (light_of n) n.trace (instructions k n) (after k n s g') in
    let f : logged (records_in k l) m.trace ≡ logged (records_in k l) n.trace = forgets (records_in k l) m.trace n.trace (omega (arith, many_records k l)) r.few s.few in
    a ∙ ap (direct_on (light_steps k l)) f ∙ (λ i. direct_on (light_steps k (e i)) (logged (records_in k (e i)) n.trace)) ∙ sym b

-- ---- a run, by its verdicts

-- what a run tests before an instruction, and that the instruction does not halt: breakpoints, instructions begun, budget left
pub record Go (b : List ℕ) (k n : ℕ) (l : Light) : Type 0 where
  pub unbroken : reached b k l.pc ≡ false
  pub budget : eqb n 0 ≡ false
  pub counted : over_counted l.counters ≡ false
  pub lasts : halts (decode_word (word_at l)) ≡ false

-- so before each of the first j
abbrev pub Goes : List ℕ → ℕ → ℕ → ℕ → Light → Type 0
Goes b k n j l = (i : ℕ) → i < j → Go b (k + i) (n - i) (light_steps i l)

goes : (h b z f : Bool) (m : Machine) → h ≡ false → b ≡ false → z ≡ false → f ≡ false → verdict_if h b z f m.state ≡ go
goes h b z f m p q r s = rw (p, q, r, s)

minus_none : (n : ℕ) → n - 0 ≡ n
minus_none n = omega arith

minus_one : (n i : ℕ) → n - 1 - i ≡ n - suc i
minus_one n i = omega arith

plus_none : (k : ℕ) → k + 0 ≡ k
plus_none k = omega arith

plus_one : (k i : ℕ) → k + 1 + i ≡ k + suc i
plus_one k i = omega arith

module _ (b : List ℕ) where
  -- the run begins them all
  pub skips : (j k n : ℕ) (m : Machine) → ((i : ℕ) → i < j → verdict b (k + i) (n - i) (instructions i m) ≡ go) → ((i : ℕ) → i < j → n - i ≡ 0 → ⊥) → run b k n m ≡ run b (k + j) (n - j) (instructions j m)
  unfolding instructions
  skips zero k n m g z = λ i. run b (sym (plus_none k) i) (sym (minus_none n) i) m
  skips (suc j) k n m g z =
      let first : verdict b k n m ≡ go = (λ i. verdict b (sym (plus_none k) i) (sym (minus_none n) i) m) ∙ g 0 (omega arith) in
      let some : n ≡ 0 → ⊥ = λ e. z 0 (omega arith) (minus_none n ∙ e) in
      run_goes b k n m first some
      ∙ skips j (k + 1) (n - 1) (step_instruction m).machine
      (λ i h. (λ o. verdict b (plus_one k i o) (minus_one n i o) (instructions i (step_instruction m).machine)) ∙ g (suc i) (omega arith))
      (λ i h e. z (suc i) (omega arith) (sym (minus_one n i) ∙ e))
      ∙ (λ i. run b (plus_one k j i) (minus_one n j i) (instructions j (step_instruction m).machine))

  -- what the light machine shows of the verdicts
  lasting : (k n j : ℕ) (l : Light) → Goes b k n j l → Lasts j l
  unfolding Lasts
  lasting k n j l g i h = (g i h).lasts

  verdicts : (k n j : ℕ) (m : Machine) → Ready m → Goes b k n j (light_of m) → (i : ℕ) → i < j → verdict b (k + i) (n - i) (instructions i m) ≡ go
  unfolding Lasts
  verdicts k n j m r g i h =
      let a = after i m r (unfold Lasts in (λ o q. (g o (omega arith)).lasts)) in
      let x = instructions i m in
      goes x.state.control.halted (reached b (k + i) x.state.control.pc) (eqb (n - i) 0) (over_counted x.counters) x a.running
      (ap (λ (l : Light). reached b (k + i) l.pc) a.light ∙ (g i h).unbroken) (g i h).budget (ap (λ (l : Light). over_counted l.counters) a.light ∙ (g i h).counted)

  pub skips_light : (k n j : ℕ) (m : Machine) → Ready m → Goes b k n j (light_of m) → run b k n m ≡ run b (k + j) (n - j) (instructions j m)
  skips_light k n j m r g = skips j k n m (verdicts k n j m r g) (λ i h. eqb-false (n - i) 0 (g i h).budget)

  -- a part of what is begun
  part : (k n j i : ℕ) (l : Light) → i ≤ j → Goes b k n j l → Goes b k n i l
  part k n j i l h g o q = g o (omega arith)

  -- the rest of it, from where j are made
  rest : (k n j J : ℕ) (l : Light) → j ≤ J → Goes b k n J l → Goes b (k + j) (n - j) (J - j) (light_steps j l)
  rest k n j J l h g o q =
      let x : k + (j + o) ≡ k + j + o = omega arith in
      let y : n - (j + o) ≡ n - j - o = minus_two n j o in
      moved x y (steps_add j o l) (g (j + o) (omega arith))
    where
      moved : {k k' n n' : ℕ} {l l' : Light} → k ≡ k' → n ≡ n' → l ≡ l' → Go b k n l → Go b k' n' l'
      moved {k} {k'} {n} {n'} {l} {l'} p q r a = subst (λ (z : Light). Go b k' n' z) r (subst (λ (z : ℕ). Go b k' z l) q (subst (λ (z : ℕ). Go b z n l) p a))

  -- J instructions are known to be begun; the machine n stands where j of them are made, but for its trace and what the next one sets
  pub light-run : (k B j J : ℕ) (m n : Machine) → Ready m → Ready n → Goes b k B J (light_of m) → light_of n ≡ light_steps j (light_of m) → j + 129 ≤ J → run b k B m ≡ run b (k + j) (B - j) n
  light-run k B j J m n r s g e h =
      let l = light_of m in
      let i = J - j in
      let x = instructions j m in
      let a = after j m r (lasting k B j l (part k B J j l (omega arith) g)) in
      let ready : Ready x = record { tick = a.tick; running = a.running; few = subst (λ (t : List TraceRecord). length t ≤ 512) (sym a.trace) (few-logged (records_in j l) m.trace r.few) } in
      let gx : Goes b (k + j) (B - j) i (light_of x) = subst (λ (z : Light). Goes b (k + j) (B - j) i z) (sym a.light) (rest k B j J l (omega arith) g) in
      let gn : Goes b (k + j) (B - j) i (light_of n) = subst (λ (z : Light). Goes b (k + j) (B - j) i z) (a.light ∙ sym e) gx in
      let o = i - 1 in
      let w : i ≡ suc o = omega arith in
      let t : instructions i x ≡ instructions i n = ap (λ (y : ℕ). instructions y x) w ∙ twins o x n ready s (a.light ∙ sym e) (omega arith) (lasting (k + j) (B - j) o (light_of x) (part (k + j) (B - j) i o (light_of x) (omega arith) gx)) ∙ ap (λ (y : ℕ). instructions y n) (sym w) in
      skips_light k B j m r (part k B J j l (omega arith) g)
      ∙ skips_light (k + j) (B - j) i x ready gx
      ∙ ap (run b (k + j + i) (B - j - i)) t
      ∙ sym (skips_light (k + j) (B - j) i n s gn)

-- A guarded run whose first instructions are made without a trace ends as the run itself does, where 129 instructions follow.
-- Assumes nothing.
use Rattle.std.specs.Prelude.{Option}
use Prim.Native.Nat.{ℕ, zero, suc, ◌+◌, ◌-◌, ◌≤◌, ◌<◌}
use native.Mathlib.Omega.{arith}
use mathlib.Core.Path.{◌≡◌, refl, ap, sym, subst, ◌∙◌}
use mathlib.Core.Bool.{Bool, false}
use mathlib.Core.List.{List}
use lib.ListN.{length, get_or}
use Rattle.isa.specs.Word.{decode_word}
use Rattle.control.specs.declared.control.Fault.{Fault}
use Rattle.trace.specs.declared.records.TraceRecord.{TraceRecord}
use Rattle.marks.specs.Marks.{Marks, mdr_marked, instruction_marks}
use Rattle.marks.proofs.Moves.{fetch_opens}
use Rattle.guard.specs.Stops.{go, reached, hidden_jump, guard_if}
use Rattle.vm.specs.Machine.{Machine}
use Rattle.vm.specs.Guard.{Guarded, next_word, guarded_step, guarded_steps, guarded_run}
use Rattle.vm.proofs.Plain.{instructions, plain-steps}
use Rattle.direct.specs.Work.{halts}
use Rattle.direct.specs.Light.{Light, word_at, light_steps, records_in, marks_steps}
use Rattle.vm.specs.Direct.{light_of}
use Rattle.vm.proofs.Forgets.{few-logged}
use Rattle.vm.proofs.Skips.{Ready, Lasts, after, twins, steps_add}
use Rattle.vm.proofs.GuardedBegun.{Taken, taken_run}

guarded_back : (k : ℕ) (g : Guarded) → guarded_steps (suc k) g ≡ guarded_step (guarded_steps k g)
unfolding guarded_steps
guarded_back zero g = refl
guarded_back (suc k) g = guarded_back k (guarded_step g)

guarded_add : (j k : ℕ) (g : Guarded) → guarded_steps (j + k) g ≡ guarded_steps k (guarded_steps j g)
unfolding guarded_steps
guarded_add zero k g = let z : 0 + k ≡ k = omega arith in ap (λ (n : ℕ). guarded_steps n g) z
guarded_add (suc j) k g = let z : suc j + k ≡ suc (j + k) = omega arith in ap (λ (n : ℕ). guarded_steps n g) z ∙ guarded_add j k (guarded_step g)

-- the marks go by the words of the light machine
marks-none : (g : Guarded) → (guarded_steps 0 g).marks ≡ marks_steps 0 (light_of g.machine) g.marks
unfolding guarded_steps marks_steps
marks-none g = refl

marks_next : (k : ℕ) (l : Light) (q : Marks) → marks_steps (suc k) l q ≡ instruction_marks (word_at (light_steps k l)) (marks_steps k l q)
unfolding marks_steps
marks_next k l q = refl

pub marks_of_lem : (k : ℕ) (g : Guarded) → Ready g.machine → Lasts k (light_of g.machine) → (guarded_steps k g).marks ≡ marks_steps k (light_of g.machine) g.marks
unfolding Lasts
marks_of_lem zero g r h = marks-none g
marks_of_lem (suc k) g r h =
    let l = light_of g.machine in
    let p : Lasts k l = unfold Lasts in (λ i q. h i (omega arith)) in
    let a = after k g.machine r p in
    ap (λ (x : Guarded). x.marks) (guarded_back k g)
    ∙ ap (λ (m : Machine). instruction_marks (next_word m) (guarded_steps k g).marks) (plain-steps k g)
    ∙ (λ i. instruction_marks (word_at (a.light i)) (marks_of_lem k g r p i))
    ∙ sym (marks_next k l g.marks)

-- whatever MDR's mark was: the next instruction sets it anew
pub opened : (k : ℕ) (l : Light) (p q : Marks) → mdr_marked 0 p ≡ mdr_marked 0 q → mdr_marked 0 (marks_steps k l p) ≡ mdr_marked 0 (marks_steps k l q)
unfolding marks_steps
opened zero l p q e = e
opened (suc k) l p q e = ap (mdr_marked 0) (fetch_opens (word_at (light_steps k l)) (marks_steps k l p) (marks_steps k l q) (opened k l p q e))

opened_next : (k : ℕ) (l : Light) (p q : Marks) → mdr_marked 0 p ≡ mdr_marked 0 q → marks_steps (suc k) l p ≡ marks_steps (suc k) l q
unfolding marks_steps
opened_next k l p q e = fetch_opens (word_at (light_steps k l)) (marks_steps k l p) (marks_steps k l q) (opened k l p q e)

-- two guarded machines that differ in what the next instruction sets, and in their traces
pub guarded_twins : (k : ℕ) (g h : Guarded) → Ready g.machine → Ready h.machine → light_of g.machine ≡ light_of h.machine → mdr_marked 0 g.marks ≡ mdr_marked 0 h.marks → 128 ≤ k → Lasts (suc k) (light_of g.machine) → guarded_steps (suc k) g ≡ guarded_steps (suc k) h
unfolding Lasts
guarded_twins k g h r s e q n p =
    let p' : Lasts (suc k) (light_of h.machine) = unfold Lasts in (λ i o. ap (λ (x : Light). halts (decode_word (word_at (light_steps i x)))) (sym e) ∙ p i o) in
    let m = plain-steps (suc k) g ∙ twins k g.machine h.machine r s e n (unfold Lasts in (λ i o. p i (omega arith))) ∙ sym (plain-steps (suc k) h) in
    let w = marks_of_lem (suc k) g r p ∙ (λ i. marks_steps (suc k) (e i) g.marks) ∙ opened_next k (light_of h.machine) g.marks h.marks q ∙ sym (marks_of_lem (suc k) h s p') in
    λ i. record { machine = m i; marks = w i }

-- what a guarded run tests before an instruction, but for its budget, and that the instruction does not halt
pub record Open (hid : ℕ → Bool) (b : List ℕ) (k : ℕ) (l : Light) (q : Marks) : Type 0 where
  pub unbroken : reached b k l.pc ≡ false
  pub word : hid (get_or q.memory l.pc 0) ≡ false
  pub jump : hidden_jump hid (word_at l) q.registers ≡ false
  pub lasts : halts (decode_word (word_at l)) ≡ false

abbrev pub Opens : (ℕ → Bool) → List ℕ → ℕ → ℕ → Light → Marks → Type 0
Opens hid b k j l q = (i : ℕ) → i < j → Open hid b (k + i) (light_steps i l) (marks_steps i l q)

module _ (hid : ℕ → Bool) (b : List ℕ) where
  passed : (h u w j : Bool) (f : Option Fault) → h ≡ false → u ≡ false → w ≡ false → j ≡ false → guard_if h u false w j f ≡ go
  passed h u w j f p q r s = rw (p, q, r, s)

  lasting : (k j : ℕ) (l : Light) (q : Marks) → Opens hid b k j l q → Lasts j l
  unfolding Lasts
  lasting k j l q o i h = (o i h).lasts

  takes : (k j : ℕ) (g : Guarded) → Ready g.machine → Opens hid b k j (light_of g.machine) g.marks → Taken hid b k j g
  unfolding Taken Lasts
  takes k j g r o i h =
      let l = light_of g.machine in
      let p : Lasts i l = unfold Lasts in (λ x y. (o x (omega arith)).lasts) in
      let a = after i g.machine r p in
      let m : (guarded_steps i g).machine ≡ instructions i g.machine = plain-steps i g in
      let e : light_of (guarded_steps i g).machine ≡ light_steps i l = ap light_of m ∙ a.light in
      let q = marks_of_lem i g r p in
      let x = guarded_steps i g in
      let pc = x.machine.state.control.pc in
      passed x.machine.state.control.halted (reached b (k + i) pc) (hid (get_or x.marks.memory pc 0)) (hidden_jump hid (next_word x.machine) x.marks.registers) x.machine.state.fault
      (ap (λ (y : Machine). y.state.control.halted) m ∙ a.running)
      (ap (λ (y : Light). reached b (k + i) y.pc) e ∙ (o i h).unbroken)
      ((λ y. hid (get_or (q y).memory (e y).pc 0)) ∙ (o i h).word)
      ((λ y. hidden_jump hid (word_at (e y)) (q y).registers) ∙ (o i h).jump)

  pub marks_add : (j k : ℕ) (l : Light) (q : Marks) → marks_steps (j + k) l q ≡ marks_steps k (light_steps j l) (marks_steps j l q)
  unfolding marks_steps
  marks_add j zero l q = let z : j + 0 ≡ j = omega arith in ap (λ (n : ℕ). marks_steps n l q) z
  marks_add j (suc k) l q =
      let z : j + suc k ≡ suc (j + k) = omega arith in
      ap (λ (n : ℕ). marks_steps n l q) z ∙ (λ i. instruction_marks (word_at (steps_add j k l i)) (marks_add j k l q i))

  moved : {k k' : ℕ} {l l' : Light} {q q' : Marks} → k ≡ k' → l ≡ l' → q ≡ q' → Open hid b k l q → Open hid b k' l' q'
  moved {k} {k'} {l} {l'} {q} {q'} x y z a = subst (λ (n : Marks). Open hid b k' l' n) z (subst (λ (n : Light). Open hid b k' n q) y (subst (λ (n : ℕ). Open hid b n l q) x a))

  rest : (k j J : ℕ) (l : Light) (q : Marks) → j ≤ J → Opens hid b k J l q → Opens hid b (k + j) (J - j) (light_steps j l) (marks_steps j l q)
  rest k j J l q h o i y =
      let z : k + (j + i) ≡ k + j + i = omega arith in
      moved z (steps_add j i l) (marks_add j i l q) (o (j + i) (omega arith))

  -- the tests do not see MDR's mark
  unseen : (k j : ℕ) (l : Light) (p q : Marks) → mdr_marked 0 p ≡ mdr_marked 0 q → Opens hid b k j l p → Opens hid b k j l q
  unseen k j l p q e o i h =
      let a = o i h in
      let c = opened i l p q e in
      record { unbroken = a.unbroken; word = ap (λ (x : Marks). hid (get_or x.memory (light_steps i l).pc 0)) (sym c) ∙ a.word; jump = ap (λ (x : Marks). hidden_jump hid (word_at (light_steps i l)) x.registers) (sym c) ∙ a.jump; lasts = a.lasts }

  -- J instructions are known to be begun; h stands where j of them are made, but for its trace and what the next one sets
  pub light-guarded : (k B j J : ℕ) (g h : Guarded) → Ready g.machine → Ready h.machine → Opens hid b k J (light_of g.machine) g.marks
      → light_of h.machine ≡ light_steps j (light_of g.machine) → mdr_marked 0 h.marks ≡ mdr_marked 0 (marks_steps j (light_of g.machine) g.marks) → j + 129 ≤ J → J ≤ B
      → guarded_run hid b k B g ≡ guarded_run hid b (k + j) (B - j) h
  unfolding Lasts
  light-guarded k B j J g h r s o e q n f =
      let l = light_of g.machine in
      let i = J - j in
      let x = guarded_steps j g in
      let pj : Lasts j l = unfold Lasts in (λ y z. (o y (omega arith)).lasts) in
      let m : x.machine ≡ instructions j g.machine = plain-steps j g in
      let a = after j g.machine r pj in
      let ready : Ready x.machine = record {
        tick = ap (λ (y : Machine). y.state.control.tick) m ∙ a.tick;
        running = ap (λ (y : Machine). y.state.control.halted) m ∙ a.running;
        few = subst (λ (t : List TraceRecord). length t ≤ 512) (sym (ap (λ (y : Machine). y.trace) m ∙ a.trace)) (few-logged (records_in j l) g.machine.trace r.few);
      } in
      let lx : light_of x.machine ≡ light_steps j l = ap light_of m ∙ a.light in
      let mx : x.marks ≡ marks_steps j l g.marks = marks_of_lem j g r pj in
      let oj = rest k j J l g.marks (omega arith) o in
      let oh : Opens hid b (k + j) i (light_of h.machine) h.marks = unseen (k + j) i (light_of h.machine) (marks_steps j l g.marks) h.marks (sym q) (subst (λ (y : Light). Opens hid b (k + j) i y (marks_steps j l g.marks)) (sym e) oj) in
      let px : Lasts i (light_of x.machine) = subst (λ (y : Light). Lasts i y) (sym lx) (lasting (k + j) i (light_steps j l) (marks_steps j l g.marks) oj) in
      let p = i - 1 in
      let w : i ≡ suc p = omega arith in
      let t : guarded_steps i x ≡ guarded_steps i h = ap (λ (y : ℕ). guarded_steps y x) w ∙ guarded_twins p x h ready s (lx ∙ sym e) (ap (mdr_marked 0) mx ∙ sym q) (omega arith) (subst (λ (y : ℕ). Lasts y (light_of x.machine)) w px) ∙ ap (λ (y : ℕ). guarded_steps y h) (sym w) in
      let bj : B ≡ J + (B - J) = omega arith in
      let bi : i + (B - J) ≡ B - j = omega arith in
      let kj : k + J ≡ k + j + i = omega arith in
      let jj : J ≡ j + i = omega arith in
      ap (λ (y : ℕ). guarded_run hid b k y g) bj
      ∙ taken_run hid b J k (B - J) g (takes k J g r o)
      ∙ (λ y. guarded_run hid b (kj y) (B - J) (guarded_steps (jj y) g))
      ∙ ap (guarded_run hid b (k + j + i) (B - J)) (guarded_add j i g ∙ t)
      ∙ sym (taken_run hid b i (k + j) (B - J) h (takes (k + j) i h s oh))
      ∙ ap (λ (y : ℕ). guarded_run hid b (k + j) y h) bi

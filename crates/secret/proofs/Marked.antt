-- The run under owners and a clearance is the run under 01's marks 'hidden or not' (`specs/Marked.antt`): the same stop, counts and machine after the same
-- instructions, and each mark 1 where the owners hide. `mark_hides` and `marks_join` of `marks` say that such marks hide and join as 01 has it.
-- Assumes nothing.
use Prim.Native.Nat.{ℕ, zero, suc, ◌+◌}
use mathlib.Core.Path.{◌≡◌, refl, sym, ap, ap₂, ◌∙◌}
use mathlib.Core.Bool.{Bool, true, false, cond, not, ◌&&◌, ◌||◌}
use mathlib.Core.List.{List, [], ◌∷◌}
use lib.Dec.{eqb}
use lib.ListN.{length, get_or, replicate}
use Rattle.isa.specs.Sizes.{memory_words, register_count}
use Rattle.isa.specs.Word.{decode_word, digit_x}
use Rattle.marks.specs.Owners.{joined, hidden_from}
use Rattle.marks.specs.Marks.{Marks, marks_of}
use Rattle.marks.specs.Total.{hidden, hidden_count}
use Rattle.marks.proofs.Owners.{hidden-none, hidden_either}
use Rattle.guard.specs.declared.stops.GuardedStop.{GuardedStop}
use Rattle.guard.specs.declared.stops.GuardedStop.TheVariants.{Budget}
use Rattle.guard.specs.Stops.{Verdict, go, stop, after, reached, is_jump, hidden_jump, guard_if, stop_number}
use Rattle.guard.specs.Input.{Input, guard_refusal, input_refusal}
use Rattle.vm.specs.Machine.{Machine}
use Rattle.vm.specs.Guard.{Guarded, GuardedEnd, guarded_step, guarded_end, guard, guarded_run, guarded_start, guarded_of, served_answer, refused_answer, guarded_answer}
use Rattle.secret.specs.Marked.{marked_list, marked_marks, marked_end, marked_answer, marked_input}
use Rattle.secret.proofs.Related.{Rows, nil, cons, Related, Closed, rows_get, rows-zero, instruction_related}

-- 01's marks are read under clearance 00
abbrev low : ℕ → Bool
low = hidden_from 0

module _ (c : ℕ) where
  abbrev hid : ℕ → Bool
  hid = hidden_from c

  -- the second is 1 where the first is hidden; the third is not asked
  abbrev Flag : ℕ → ℕ → ℕ → Type 0
  Flag a b d = b ≡ hidden hid a

  none : 0 ≡ hidden hid 0
  none = ap (λ (b : Bool). cond b 1 0) (sym (hidden-none c))

  joins : (a b : Bool) → joined (cond a 1 0) (cond b 1 0) ≡ cond (a || b) 1 0
  joins true true = refl
  joins true false = refl
  joins false true = refl
  joins false false = refl

  flag_closed : Closed Flag
  flag_closed = record {
    none = none;
    join = λ {a} {b} {c = x} {d} {e} {f} p q. ap₂ joined p q ∙ joins (hid a) (hid d) ∙ ap (λ (t : Bool). cond t 1 0) (sym (hidden_either c a d));
  }

  -- it hides what it is a flag of
  low_flag : (t : Bool) → low (cond t 1 0) ≡ t
  low_flag true = refl
  low_flag false = refl

  flag_hides : (a : ℕ) {b : ℕ} → b ≡ hidden hid a → low b ≡ hid a
  flag_hides a e = ap low e ∙ low_flag (hid a)

  -- ---- lists

  rows_flag : (l : List ℕ) → Rows Flag l (marked_list hid l) l
  rows_flag [] = nil
  rows_flag (a ∷ l) = cons refl (rows_flag l)

  flag_rows : {k l m : List ℕ} → Rows Flag k l m → l ≡ marked_list hid k
  flag_rows nil = refl
  flag_rows (cons p r) = ap₂ (λ (x : ℕ) (y : List ℕ). x ∷ y) p (flag_rows r)

  zeros : (n : ℕ) → replicate n 0 ≡ marked_list hid (replicate n 0)
  zeros n = flag_rows (rows-zero {R = Flag} none n)

  flag_marks : {k l m : Marks} → Related Flag k l m → l ≡ marked_marks hid k
  flag_marks g = let x = flag_rows g.memory in let y = flag_rows g.registers in let z = g.mdr in λ i. marks_of (x i) (y i) (z i)

  -- as many hide
  pub marked_count : (l : List ℕ) → hidden_count low (marked_list hid l) ≡ hidden_count hid l
  unfolding hidden_count
  marked_count [] = refl
  marked_count (a ∷ l) = ap₂ ◌+◌ (ap (λ (b : Bool). cond b 1 0) (low_flag (hid a))) (marked_count l)

  -- ---- the run

  record Alike (a b : GuardedEnd) : Type 0 where
    stops : a.stop ≡ b.stop
    executed : a.executed ≡ b.executed
    machine : a.guarded.machine ≡ b.guarded.machine
    marks : Related Flag a.guarded.marks b.guarded.marks a.guarded.marks

  guard_same : (breaks : List ℕ) (k n : ℕ) (m : Machine) {p q : Marks} → Related Flag p q p
      → guard hid breaks k n (record { machine = m; marks = p }) ≡ guard low breaks k n (record { machine = m; marks = q })
  guard_same breaks k n m {p} {q} g =
      let pc = m.state.control.pc in
      let w = get_or m.memory pc 0 in
      let at : (r : ℕ) → low (get_or q.registers r 0) ≡ hid (get_or p.registers r 0) = λ r. flag_hides (get_or p.registers r 0) (rows_get {R = Flag} none g.registers r) in
      let x : low (get_or q.memory pc 0) ≡ hid (get_or p.memory pc 0) = flag_hides (get_or p.memory pc 0) (rows_get {R = Flag} none g.memory pc) in
      let y : hidden_jump low w q.registers ≡ hidden_jump hid w p.registers =
      ap₂ (λ (a b : Bool). is_jump (decode_word w) && (not (eqb (digit_x w) 0) && (a || b))) (at (digit_x w)) (at 0) in
      ap₂ (λ (a b : Bool). guard_if m.state.control.halted (reached breaks k pc) (eqb n 0) a b m.state.fault) (sym x) (sym y)

  run_alike : (breaks : List ℕ) (k n : ℕ) (m : Machine) {p q : Marks} → Related Flag p q p
      → Alike (guarded_run hid breaks k n (record { machine = m; marks = p })) (guarded_run low breaks k n (record { machine = m; marks = q }))
  unfolding guarded_run
  run_alike breaks k zero m {p} {q} g = rw (← guard_same breaks k zero m g) (at (guard hid breaks k zero (record { machine = m; marks = p })))
    where
      end : GuardedStop → Marks → GuardedEnd
      end s r = guarded_end k (record { machine = m; marks = r }) s

      at : (v : Verdict GuardedStop) → Alike (after v (λ s. end s p) (λ u. end Budget p)) (after v (λ s. end s q) (λ u. end Budget q))
      at go = record { stops = refl; executed = refl; machine = refl; marks = g }
      at (stop s) = record { stops = refl; executed = refl; machine = refl; marks = g }
  run_alike breaks k (suc n) m {p} {q} g =
      rw (← guard_same breaks k (suc n) m g)
      (at (guard hid breaks k (suc n) (record { machine = m; marks = p }))
      (run_alike breaks (k + 1) n (guarded_step (record { machine = m; marks = p })).machine (instruction_related flag_closed (get_or m.memory m.state.control.pc 0) g)))
    where
      with : Marks → Guarded
      with r = record { machine = m; marks = r }

      next : (ℕ → Bool) → Marks → GuardedEnd
      next h r = guarded_run h breaks (k + 1) n (guarded_step (with r))

      at : (v : Verdict GuardedStop) → Alike (next hid p) (next low q) → Alike (after v (guarded_end k (with p)) (λ u. next hid p)) (after v (guarded_end k (with q)) (λ u. next low q))
      at go a = a
      at (stop s) a = record { stops = refl; executed = refl; machine = refl; marks = g }

module _ (i : Input) where
  abbrev hides : ℕ → Bool
  hides = hidden_from i.clearance

  -- the run, for every input
  pub marked_run : guarded_of (marked_input i) ≡ marked_end hides (guarded_of i)
  unfolding guarded_of guarded_start
  marked_run =
      let c = i.clearance in
      let g : Related (Flag c) (guarded_start i.image i.marks).marks (guarded_start i.image (marked_list hides i.marks)).marks (guarded_start i.image i.marks).marks =
      record { memory = rows_flag c i.marks; registers = rows-zero (none c) register_count; mdr = none c } in
      let a = run_alike c i.breaks 0 i.budget (guarded_start i.image i.marks).machine g in
      let k = flag_marks c a.marks in
      λ x. record { stop = sym a.stops x; executed = sym a.executed x; guarded = record { machine = sym a.machine x; marks = k x } }

  -- it is refused alike
  length_marked : (hid : ℕ → Bool) (l : List ℕ) → length (marked_list hid l) ≡ length l
  length_marked hid [] = refl
  length_marked hid (a ∷ l) = ap suc (length_marked hid l)

  pub marked_refusal : input_refusal (marked_input i) ≡ input_refusal i
  unfolding guard_refusal
  marked_refusal = rw (length_marked hides i.marks)

  marked_served : served_answer (marked_input i) ≡ marked_answer hides (served_answer i)
  marked_served =
      let e = marked_run in
      let total = ap (λ (x : GuardedEnd). hidden_count low x.guarded.marks.memory) e ∙ marked_count i.clearance (guarded_of i).guarded.marks.memory in
      λ x. record { refused = 0; stop = stop_number (e x).stop; executed = (e x).executed; guarded = (e x).guarded; hidden_total = total x; rest = (served_answer i).rest }

  -- a refused answer has no owners
  marked_refused : (n : ℕ) → refused_answer n ≡ marked_answer hides (refused_answer n)
  unfolding refused_answer
  marked_refused n =
      let c = i.clearance in
      let x = zeros c memory_words in
      let y = zeros c register_count in
      let z = none c in
      let a = refused_answer n in
      λ j. record { refused = a.refused; stop = a.stop; executed = a.executed; guarded = record { machine = a.guarded.machine; marks = marks_of (x j) (y j) (z j) }; hidden_total = a.hidden_total; rest = a.rest }

  -- what `guarded_run` answers, for every input
  pub marked_answer_lem : guarded_answer (marked_input i) ≡ marked_answer hides (guarded_answer i)
  unfolding guarded_answer
  marked_answer_lem = go (eqb (input_refusal i) 0) refl
    where
      go : (b : Bool) → eqb (input_refusal i) 0 ≡ b → guarded_answer (marked_input i) ≡ marked_answer hides (guarded_answer i)
      go true e = rw (marked_refusal, e) marked_served
      go false e = rw (marked_refusal, e) (marked_refused (input_refusal i))

-- Every list of calls has a past (`specs/Played.antt`): the struct that is said to hold a machine holds it.
-- Assumes nothing.
use Rattle.std.specs.Prelude.{Result, Ok, Err}
use Rattle.encoding.specs.declared.refusal.Refusal.{Refusal}
use Prim.Native.Nat.{ℕ, zero, suc, ◌+◌, ◌-◌, ◌*◌, ◌≤◌, ◌<◌}
use native.Mathlib.Omega.{arith}
use mathlib.Core.Path.{◌≡◌, refl, ap, sym, subst, ◌∙◌}
use mathlib.Core.Bool.{Bool, true, false, cond}
use mathlib.Core.List.{List, [], ◌∷◌, ◌++◌, map, append_assoc, append-nil}
use lib.Dec.{eqb, ltb}
use lib.ListN.{length, replicate, get_or, take, drop, length-append, length-map, get_or-append, get_or-map}
use lib.Seq.{take_at, drop_at, drop-drop, take_all}
use Rattle.isa.specs.Sizes.{memory_words, text_width}
use Rattle.isa.specs.Text.{padded}
use Rattle.isa.proofs.Texts.{length-padded}
use Rattle.trace.specs.declared.records.TraceRecord.{TraceRecord}
use Rattle.trace.specs.Trace.{trace_limit, addresses_at, record_at, live_in, pushed, slots, live_trace, column, texts_in}
use Rattle.vm.specs.declared.machine.Machine.{Machine as Code}
use Rattle.vm.specs.Machine.{Machine, operands_of, next_text, micro_step}
use Rattle.vm.specs.Instruction.{Steps, started, ticked, unless_zero, steps, step_instruction}
use Rattle.std.proofs.Common.{Option, Some, None, is_some}
use Rattle.history.specs.declared.snapshot.Snapshot.{Snapshot}
use Rattle.history.specs.Store.{newest}
use Rattle.guard.specs.declared.stops.RunStop.{RunStop}
use Rattle.guard.specs.declared.stops.RunStop.TheVariants.{Budget}
use Rattle.guard.specs.Stops.{Verdict, go as going, stop, after as turn}
use Rattle.vm.specs.StepCalls.{effect_if, micro_effect, step_effect}
use Rattle.vm.specs.RunCalls.{run_call}
use Rattle.vm.specs.History.{store_refusal, undo_refusal, saved, restored, restored_by, undone}
use Rattle.vm.specs.Run.{verdict, RunEnd, run_end, run as run_of}
use Rattle.vm.specs.Calls.{view_of, is_machine, step_refusal_of, restarted, serve}
use Rattle.vm.proofs.Forgets.{few-pushed}
use Rattle.vm.proofs.TickLaws.{text_field}
use Rattle.past.specs.Past.{Call, tick, step, run, push, undo, made, left, Past, reset, call}
use Rattle.past.specs.Played.{texts, holding, after, played, ticks_of}

-- ---- a struct that holds a machine

blank : TraceRecord
blank = record { number = 0; address = 0; phase = 0; text = record { bytes = []; len = 0 } }

-- each text in its 32 bytes
abbrev Whole : List TraceRecord → Type 0
Whole [] = Unit {0}
Whole (r ∷ l) = (length r.text.bytes ≡ text_width) × Whole l

-- a field of the records in its column
column_of : (f : TraceRecord → ℕ) (l : List TraceRecord) (i : ℕ) → f blank ≡ 0 → i < length l → get_or (padded trace_limit (map f l)) i 0 ≡ f (get_or l i blank)
unfolding padded
column_of f l i e h =
    let k : i < length (map f l) = omega (arith, length-map l f) in
    get_or-append (map f l) _ 0 i k ∙ ap (get_or (map f l) i) (sym e) ∙ get_or-map f l i blank

text_in : (l : List TraceRecord) (z : List ℕ) (i : ℕ) → Whole l → i < length l → take text_width (drop (i * text_width) (texts l ++ z)) ≡ (get_or l i blank).text.bytes
unfolding texts
text_in [] z i w h = absurd (omega arith)
text_in (r ∷ l) z zero w h = ap (take text_width) (append_assoc r.text.bytes (texts l) z) ∙ take_at r.text.bytes (texts l ++ z) text_width w.0
text_in (r ∷ l) z (suc i) w h =
    let b = r.text.bytes in
    let rest = texts l ++ z in
    let e : suc i * text_width ≡ text_width + i * text_width = omega arith in
    let d : drop (suc i * text_width) ((b ++ texts l) ++ z) ≡ drop (i * text_width) rest =
    ap (drop (suc i * text_width)) (append_assoc b (texts l) z)
    ∙ ap (λ (n : ℕ). drop n (b ++ rest)) e
    ∙ sym (drop-drop (i * text_width) text_width (b ++ rest))
    ∙ ap (drop (i * text_width)) (drop_at b rest text_width w.0) in
    ap (take text_width) d ∙ text_in l z i w.1 (omega arith)

length-texts : (l : List TraceRecord) → Whole l → length (texts l) ≡ length l * text_width
unfolding texts
length-texts [] w = refl
length-texts (r ∷ l) w = length-append r.text.bytes (texts l) ∙ omega (arith, w.0, length-texts l w.1)

-- three columns, one behind the other
module _ (a b c : List ℕ) (n k : ℕ) (p : length a ≡ n) (q : length b ≡ k) (r : length c ≡ k) where
  second : take k (drop n (a ++ (b ++ c))) ≡ b
  second = ap (take k) (drop_at a (b ++ c) n p) ∙ take_at b c k q

  third : take k (drop (n + k) (a ++ (b ++ c))) ≡ c
  third =
      ap (take k) (sym (drop-drop k n (a ++ (b ++ c))) ∙ ap (drop k) (drop_at a (b ++ c) n p) ∙ drop_at b c k q)
      ∙ take_all k c (omega (arith, r))

-- the first slots hold a list
first_slots : {A : Type 0} (l : List A) (d : A) (n : ℕ) (f : ℕ → A) → length l ≤ n → ((i : ℕ) → i < length l → f i ≡ get_or l i d) → take (length l) (slots n f ++ []) ≡ l
unfolding slots
first_slots [] d n f h e = refl
first_slots (r ∷ l) d zero f h e = absurd (omega arith)
first_slots (r ∷ l) d (suc n) f h e =
    let x = e 0 (omega arith) in
    let y = first_slots l d n (λ i. f (suc i)) (omega arith) (λ i p. e (suc i) (omega arith)) in
    λ i. x i ∷ y i

-- the live records of the columns
module _ (l : List TraceRecord) (few : length l ≤ trace_limit) (w : Whole l) where
  abbrev x : List ℕ
  x = padded addresses_at (texts l)

  abbrev of : (TraceRecord → ℕ) → List ℕ
  of f = padded trace_limit (map f l)

  abbrev a : List ℕ
  a = of (λ r. r.address)

  abbrev p : List ℕ
  p = of (λ r. r.phase)

  long : length x ≡ addresses_at
  long = length-padded addresses_at (texts l) (omega (arith, length-texts l w))

  wide : (f : TraceRecord → ℕ) → length (of f) ≡ trace_limit
  wide f = length-padded trace_limit (map f l) (omega (arith, length-map l f))

  record_in_lem : (i : ℕ) → i < length l → record_at x (of (λ r. r.number)) a p (of (λ r. r.text.len)) i ≡ get_or l i blank
  unfolding padded blank
  record_in_lem i h =
      let b = text_in l (replicate (addresses_at - length (texts l)) 0) i w h in
      let n = column_of (λ r. r.number) l i refl h in
      let d = column_of (λ r. r.address) l i refl h in
      let e = column_of (λ r. r.phase) l i refl h in
      let k = column_of (λ r. r.text.len) l i refl h in
      λ j. record { number = n j; address = d j; phase = e j; text = record { bytes = b j; len = k j } }

  live_in_lem : live_trace 0 (length l) x (of (λ r. r.number)) a p (of (λ r. r.text.len)) ≡ l
  unfolding live_trace
  live_in_lem = first_slots l blank trace_limit (record_at x (of (λ r. r.number)) a p (of (λ r. r.text.len))) few record_in_lem

  holds_trace : live_in 0 (length l) (x ++ (a ++ p)) (of (λ r. r.number)) (of (λ r. r.text.len)) ≡ l
  unfolding texts_in column
  holds_trace =
      let t = take_at x (a ++ p) addresses_at long in
      let s = second x a p addresses_at trace_limit long (wide (λ r. r.address)) (wide (λ r. r.phase)) in
      let u = third x a p addresses_at trace_limit long (wide (λ r. r.address)) (wide (λ r. r.phase)) in
      (λ i. live_trace 0 (length l) (t i) (of (λ r. r.number)) (s i) (u i) (of (λ r. r.text.len)))
      ∙ live_in_lem

touched_first : (t : List ℕ) → take (length t) (padded memory_words t) ≡ t
unfolding padded
touched_first t = take_at t (replicate (memory_words - length t) 0) (length t) refl

-- what a trace is: at most 512 records, each text in its 32 bytes
record Traced (l : List TraceRecord) : Type 0 where
  few : length l ≤ trace_limit
  whole : Whole l

holds : (m : Machine) (c : Code) → Traced m.trace → view_of (holding m c) ≡ m
unfolding holding
holds m c h =
    let t = holds_trace m.trace h.few h.whole in
    let n = touched_first m.touched in
    λ i. record { state = m.state; counters = m.counters; memory = m.memory; registers = m.registers; trace = t i; touched = n i }

-- ---- a trace stays one

whole_next : (l : List TraceRecord) (e : TraceRecord) → Whole l → length e.text.bytes ≡ text_width → Whole (l ++ e ∷ [])
whole_next [] e w h = (h, tt)
whole_next (r ∷ l) e w h = (w.0, whole_next l e w.1 h)

whole_drop : (l : List TraceRecord) → Whole l → Whole (drop 1 l)
whole_drop [] w = tt
whole_drop (r ∷ l) w = w.1

whole_pushed : (e : TraceRecord) (t : List TraceRecord) → Whole t → length e.text.bytes ≡ text_width → Whole (pushed e t)
unfolding pushed
whole_pushed e t w h = go (ltb (length t) trace_limit)
  where
    go : (b : Bool) → Whole (cond b t (drop 1 t) ++ e ∷ [])
    go true = whole_next t e w h
    go false = whole_next (drop 1 t) e (whole_drop t w) h

tick_traced : (m : Machine) → Traced m.trace → Traced (micro_step m).trace
unfolding micro_step next_text
tick_traced m h =
    let s = m.state in
    let o = operands_of s m.memory m.registers in
    record { few = few-pushed _ m.trace h.few; whole = whole_pushed _ m.trace h.whole (text_field s.control.tick (eqb o.x o.zero) s.control.ir refl) }

steps_traced : (f : ℕ) (s : Steps) → Traced s.machine.trace → Traced (steps f s).machine.trace
unfolding steps ticked
steps_traced zero s h = h
steps_traced (suc f) s h = go (micro_step s.machine).state.control.tick (steps_traced f (ticked s) (tick_traced s.machine h))
  where
    go : (t : ℕ) → Traced (steps f (ticked s)).machine.trace → Traced (unless_zero t (ticked s) (λ u. steps f (ticked s))).machine.trace
    go zero i = tick_traced s.machine h
    go (suc t) i = i

instruction_traced : (m : Machine) → Traced m.trace → Traced (step_instruction m).machine.trace
unfolding step_instruction
instruction_traced m h = steps_traced 7 (started m) h

run_traced : (b : List ℕ) (k n : ℕ) (m : Machine) → Traced m.trace → Traced (run_of b k n m).machine.trace
unfolding run_of
run_traced b k zero m h = go (verdict b k 0 m)
  where
    go : (v : Verdict (Result RunStop Refusal)) → Traced (turn v (run_end k m) (λ u. run_end k m (Ok Budget))).machine.trace
    go going = h
    go (stop c) = h
run_traced b k (suc n) m h = go (verdict b k (suc n) m) (run_traced b (k + 1) n (step_instruction m).machine (instruction_traced m h))
  where
    go : (v : Verdict (Result RunStop Refusal)) → Traced (run_of b (k + 1) n (step_instruction m).machine).machine.trace → Traced (turn v (run_end k m) (λ u. run_of b (k + 1) n (step_instruction m).machine)).machine.trace
    go going i = i
    go (stop c) i = h

either : {A : Type 0} (P : A → Type 0) (b : Bool) {x y : A} → P x → P y → P (cond b x y)
either P true p q = p
either P false p q = q

-- an undo leaves the trace
undone_traced : (r : Option Snapshot) (m : Code) → Traced (view_of m).trace → Traced (view_of (restored_by r m)).trace
unfolding restored
undone_traced None m h = h
undone_traced (Some s) m h = h

effect_traced : {A : Type 0} (r : Result (Unit {0}) Refusal) (h : Bool) (still moving : A) (m next : Machine) → Traced m.trace → Traced next.trace → Traced (effect_if r h still moving m next).machine.trace
effect_traced (Ok u) true still moving m next p q = p
effect_traced (Ok u) false still moving m next p q = q
effect_traced (Err e) h still moving m next p q = p

serve_traced : (r : Result (Unit {0}) Refusal) (new old : Code) → Traced (view_of new).trace → Traced (view_of old).trace → Traced (view_of (serve r new old).machine).trace
serve_traced (Ok u) new old p q = p
serve_traced (Err e) new old p q = q

left_traced : (c : Call) (m : Code) → Traced (view_of m).trace → Traced (left c m).trace
unfolding left micro_effect step_effect run_call saved undone
left_traced tick m h = effect_traced (step_refusal_of m) m.state.control.halted _ _ _ _ h (tick_traced (view_of m) h)
left_traced step m h = effect_traced (step_refusal_of m) m.state.control.halted _ _ _ _ h (instruction_traced (view_of m) h)
left_traced (run b n) m h = let P : RunEnd → Type 0 = λ e. Traced e.machine.trace in either P (is_machine m) (either P m.state.control.halted h (run_traced b 0 n (view_of m) h)) h
left_traced (push d) m h = serve_traced (store_refusal (length d) m) _ m h h
left_traced (undo d) m h = serve_traced (undo_refusal (length d) (is_some (newest d m.history_len)) m) _ m (undone_traced (newest d m.history_len) m h) h

-- ---- every list

after_leaves : (c : Call) (m : Code) → Traced (view_of m).trace → view_of (after c m) ≡ left c m
unfolding after left
after_leaves tick m h = holds (left tick m) m (left_traced tick m h)
after_leaves step m h = holds (left step m) m (left_traced step m h)
after_leaves (run b n) m h = holds (left (run b n) m) m (left_traced (run b n) m h)
after_leaves (push d) m h = refl
after_leaves (undo d) m h = refl

past_on : (k : List Call) (m : Code) (t : List Machine) → Past k m t → Traced (view_of m).trace → (l : List Call) → Past (k ++ l) (played l m) (t ++ ticks_of l m)
unfolding played ticks_of
past_on k m t p h [] = rw (append-nil k, append-nil t) p
past_on k m t p h (c ∷ l) =
    let n = after c m in
    let e = after_leaves c m h in
    let traced : Traced (view_of n).trace = subst Traced (sym (ap (λ (x : Machine). x.trace) e)) (left_traced c m h) in
    let r = past_on (k ++ c ∷ []) n (t ++ made c m) (call k c m n t p e) traced l in
    rw (← append_assoc k (c ∷ []) l, ← append_assoc t (made c m) (ticks_of l n)) r

pub every_list : (image : List ℕ) (n history : ℕ) (l : List Call) → let m = restarted image n history in Past l (played l m) (ticks_of l m)
unfolding restarted live_trace
every_list image n history l = past_on [] _ [] (reset image n history) (record { few = omega arith; whole = tt }) l

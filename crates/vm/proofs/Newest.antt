-- The newest records of the trace: their texts are those of the ticks just made; and an instruction ends within seven ticks.
-- Assumes nothing.
use Prim.Native.Nat.{ℕ, suc, zero, ◌≤◌, ◌<◌, ◌-◌, ◌+◌, ◌%◌}
use native.Mathlib.Omega.{arith}
use native.Mathlib.Decide.{dec_lt}
use mathlib.Core.Path.{◌≡◌, refl, ap, sym, ◌∙◌}
use mathlib.Core.Bool.{true, false, cond}
use mathlib.Core.List.{List, [], ◌∷◌, ◌++◌, append_assoc, append-nil, map, map-append}
use borrow.Author.Tests.{lt-ltb, le-ltb}
use lib.Dec.{ltb}
use lib.ListN.{length, get_or, take, drop, set, replicate, length-append, length-drop, drop_of_length-le, get_or-append, get_or-eq_default}
use lib.Seq.{get_or-drop, get_or-take, get_or-append-add, drop-append-le, drop-drop}
use Rattle.isa.specs.Text.{Text, text}
use Rattle.control.specs.Lawful.{lawful}
use Rattle.control.proofs.Lawfuls.{lawful-small}
use Rattle.tick.proofs.Lawfuls.{Next, tick_next}
use Rattle.trace.specs.declared.records.TraceRecord.{TraceRecord}
use Rattle.trace.specs.Trace.{pushed, slots, turn, text_at, record_at, live_trace, live_texts, take_last}
use Rattle.vm.specs.Machine.{Machine, operands_of, next_text, next_done, micro_step}
use Rattle.vm.specs.Instruction.{Steps, started, ticked, unless_zero, steps, step_instruction, tick_texts, texts_from}
use Rattle.trace.proofs.Rings.{length-slots, live-length}
use Rattle.vm.proofs.TickTurns.{spent}

-- ---- the newest of the ring

module _ {A : Type 0} where
  -- the value in a slot
  pub get_d_slots : (n i : ℕ) (f : ℕ → A) (d : A) → i < n → get_or (slots n f) i d ≡ f i
  unfolding slots
  get_d_slots zero i f d h = absurd (omega arith)
  get_d_slots (suc n) zero f d h = refl
  get_d_slots (suc n) (suc i) f d h = get_d_slots n i (λ k. f (suc k)) d (omega arith)

  -- the i-th from s on
  pub get_d_turn : (l : List A) (s i : ℕ) (d : A) → s < 512 → i < 512 → length l ≡ 512 → get_or (turn l s) i d ≡ get_or l ((s + i) % 512) d
  get_d_turn l s i d hs hi e = go (dec_lt (s + i) 512)
    where
      go : Dec (s + i < 512) → get_or (turn l s) i d ≡ get_or l ((s + i) % 512) d
      go (yes h) =
          let m : (s + i) % 512 ≡ s + i = omega arith in
          let b : i < length (drop s l) = simp length-drop (omega arith) in
          rw (m, get_or-append (drop s l) (take s l) d i b, get_or-drop)
      go (no h) =
          let j = s + i - 512 in
          let m : (s + i) % 512 ≡ j = omega arith in
          let b : length (drop s l) + j ≡ i = simp length-drop (omega arith) in
          ap (λ (k : ℕ). get_or (turn l s) k d) (sym b) ∙ get_or-append-add (drop s l) (take s l) j d ∙ get_or-take s l j d (omega arith) ∙ ap (λ (k : ℕ). get_or l k d) (sym m)

  -- there are n of the newest n
  pub length-newest : (n : ℕ) (t : List A) → n ≤ length t → length (take_last n t) ≡ n
  length-newest n t h = simp length-drop (omega arith)

  -- past the newest n there is nothing
  pub newest_past : (n i : ℕ) (t : List A) (d : A) → n ≤ length t → n ≤ i → get_or (take_last n t) i d ≡ d
  newest_past n i t d h k = get_or-eq_default (take_last n t) d (omega (arith, length-newest n t h))

  -- of none there are none
  newest-none : (t : List A) → take_last 0 t ≡ []
  newest-none t = drop_of_length-le t {i = length t - 0} (omega arith)

-- there are as many live texts as the ring says
pub texts-length : (start n : ℕ) (x l : List ℕ) → n ≤ 512 → length (live_texts start n x l) ≡ n
unfolding live_texts
texts-length start n x l h = live-length (slots 512 (text_at x l)) (start % 512) n (text_at x l 0) (length-slots 512 (text_at x l)) (omega arith) h

-- and as many live records
pub trace-length : (start n : ℕ) (x i a p l : List ℕ) → n ≤ 512 → length (live_trace start n x i a p l) ≡ n
unfolding live_trace
trace-length start n x i a p l h = live-length (slots 512 (record_at x i a p l)) (start % 512) n (record_at x i a p l 0) (length-slots 512 (record_at x i a p l)) (omega arith) h

-- text i of the newest n
pub newest_at : (start len n i : ℕ) (x l : List ℕ) (d : Text) → n ≤ len → len ≤ 512 → i < n → text_at x l ((start % 512 + len - n + i) % 512) ≡ get_or (take_last n (live_texts start len x l)) i d
unfolding live_texts
newest_at start len n i x l d h k b =
    let s = start % 512 in
    let q = slots 512 (text_at x l) in
    let t = take len (turn q s) in
    let j = len - n + i in
    let e : length t ≡ len = texts-length start len x l k in
    let w : length t - n + i ≡ j = omega arith in
    let m : (s + j) % 512 ≡ (s + len - n + i) % 512 = ap (λ (r : ℕ). r % 512) (omega arith) in
    sym (get_or-drop (length t - n) t i d ∙ ap (λ (r : ℕ). get_or t r d) w ∙ get_or-take len (turn q s) j d (omega arith) ∙ get_d_turn q s j d (omega arith) (omega arith) (length-slots 512 (text_at x l)) ∙ get_d_slots 512 ((s + j) % 512) (text_at x l) d (omega arith) ∙ ap (text_at x l) m)

-- ---- a loop that puts texts in their places

-- the first n of them are there
abbrev pub placed : ℕ → List Text → List Text
placed n t = map (λ (j : ℕ). cond (ltb j n) (get_or t j (text [])) (text [])) (0 ∷ 1 ∷ 2 ∷ 3 ∷ 4 ∷ 5 ∷ 6 ∷ [])

pub placed_none : (t : List Text) {x : Text} → x ≡ text [] → replicate 7 x ≡ placed 0 t
placed_none t e = rw e

pub placed_next : (i : ℕ) (t : List Text) {x : Text} {now : List Text} → i < 7 → x ≡ get_or t i (text []) → now ≡ placed i t → set now i x ≡ placed (i + 1) t
placed_next zero t h e n = rw (n, e)
placed_next (suc zero) t h e n = rw (n, e)
placed_next (suc (suc zero)) t h e n = rw (n, e)
placed_next (suc (suc (suc zero))) t h e n = rw (n, e)
placed_next (suc (suc (suc (suc zero)))) t h e n = rw (n, e)
placed_next (suc (suc (suc (suc (suc zero))))) t h e n = rw (n, e)
placed_next (suc (suc (suc (suc (suc (suc zero)))))) t h e n = rw (n, e)
placed_next (suc (suc (suc (suc (suc (suc (suc i))))))) t h e n = absurd (omega arith)

-- past the last there is an empty text
pub placed_all : (t : List Text) → placed (length t) t ≡ (texts_from t).texts
placed_all t = ap (λ (f : ℕ → Text). map f (0 ∷ 1 ∷ 2 ∷ 3 ∷ 4 ∷ 5 ∷ 6 ∷ [])) (λ i j. each j i)
  where
    each : (j : ℕ) → cond (ltb j (length t)) (get_or t j (text [])) (text []) ≡ get_or t j (text [])
    each j = go (dec_lt j (length t))
      where
        go : Dec (j < length t) → cond (ltb j (length t)) (get_or t j (text [])) (text []) ≡ get_or t j (text [])
        go (yes y) = rw (lt-ltb _ _ y)
        go (no n) = let k : length t ≤ j = omega arith in rw (le-ltb _ _ k) (sym (get_or-eq_default t (text []) k))

-- ---- texts of records

module _ {A B : Type 0} (g : A → B) where
  -- a function of each slot
  map-slots : (n : ℕ) (f : ℕ → A) → map g (slots n f) ≡ slots n (λ k. g (f k))
  unfolding slots
  map-slots zero f = refl
  map-slots (suc n) f = ap (λ (r : List B). g (f 0) ∷ r) (map-slots n (λ k. f (suc k)))

  -- a function of each of the first n
  map-take : (n : ℕ) (l : List A) → map g (take n l) ≡ take n (map g l)
  map-take zero l = refl
  map-take (suc n) [] = refl
  map-take (suc n) (a ∷ l) = ap (λ (r : List B). g a ∷ r) (map-take n l)

  -- a function of each from the n-th on
  map-drop : (n : ℕ) (l : List A) → map g (drop n l) ≡ drop n (map g l)
  map-drop zero l = refl
  map-drop (suc n) [] = refl
  map-drop (suc n) (a ∷ l) = map-drop n l

-- the records' texts
abbrev texts_of : List TraceRecord → List Text
texts_of t = map (λ (r : TraceRecord). r.text) t

-- the texts of the live records are the live texts
pub texts_of_lem : (start n : ℕ) (x i a p l : List ℕ) → map (λ (r : TraceRecord). r.text) (live_trace start n x i a p l) ≡ live_texts start n x l
unfolding live_trace live_texts
texts_of_lem start n x i a p l =
    let g : TraceRecord → Text = λ (r : TraceRecord). r.text in
    let q = slots 512 (record_at x i a p l) in
    map-take g n (turn q (start % 512))
    ∙ ap (take n) (map-append g (drop (start % 512) q) (take (start % 512) q) ∙ (λ j. map-drop g (start % 512) q j ++ map-take g (start % 512) q j) ∙ (λ j. turn (map-slots g 512 (record_at x i a p l) j) (start % 512)))

-- ---- one record more

module _ {A : Type 0} (e : A) (t : List A) (k : ℕ) (hk : k ≤ length t) (room : k < 512) (h : length t ≤ 512) where
  -- the newest k, and then the new one
  pub newest-pushed : take_last (k + 1) (pushed e t) ≡ take_last k t ++ (e ∷ [])
  unfolding pushed
  newest-pushed = go (dec_lt (length t) 512)
    where
      go : Dec (length t < 512) → take_last (k + 1) (pushed e t) ≡ take_last k t ++ (e ∷ [])
      go (yes y) =
          let z : length (t ++ (e ∷ [])) - (k + 1) ≡ length t - k = omega (arith, length-append t (e ∷ [])) in
          rw (lt-ltb _ _ y, z) (drop-append-le (length t - k) t (e ∷ []) (omega arith))
      go (no n) =
          let f : 512 ≤ length t = omega arith in
          let w = length-drop 1 t in
          let z : length (drop 1 t ++ (e ∷ [])) - (k + 1) ≡ 511 - k = omega (arith, length-append (drop 1 t) (e ∷ [])) in
          let y : 1 + (511 - k) ≡ length t - k = omega arith in
          rw (le-ltb _ _ f, z) (drop-append-le (511 - k) (drop 1 t) (e ∷ []) (omega arith) ∙ ap (λ (r : List A). r ++ (e ∷ [])) (drop-drop (511 - k) 1 t ∙ ap (λ (r : ℕ). drop r t) y))

  -- it is counted, and there are no more than 512
  length-pushed : (length (pushed e t) ≤ 512) × (k + 1 ≤ length (pushed e t))
  unfolding pushed
  length-pushed = go (dec_lt (length t) 512)
    where
      go : Dec (length t < 512) → (length (pushed e t) ≤ 512) × (k + 1 ≤ length (pushed e t))
      go (yes y) = rw (lt-ltb _ _ y, length-append) (omega arith, omega arith)
      go (no n) = let z : 512 ≤ length t = omega arith in rw (le-ltb _ _ z, length-append, length-drop) (omega arith, omega arith)

-- ---- a run of ticks

-- one tick, by itself
pub one_step : (m : Machine) → steps 1 (started m) ≡ record { machine = micro_step m; ticks = 1; done = next_done m }
one_step m = spent m 0 refl refl 1 refl

-- from s, of whose records k are counted, ticks with the texts l lead to z
record Made (k : ℕ) (s z : Steps) (l : List Text) : Type 0 where
  count : z.ticks ≡ s.ticks + length l
  held : k + length l ≤ length z.machine.trace
  same : texts_of (take_last (k + length l) z.machine.trace) ≡ texts_of (take_last k s.machine.trace) ++ l

-- no tick is made
none : (k : ℕ) (s : Steps) → k ≤ length s.machine.trace → Made k s s []
none k s h = record {
  count = omega arith;
  held = omega arith;
  same = rw append-nil (ap (λ (j : ℕ). texts_of (take_last j s.machine.trace)) (omega arith));
}

-- one tick is made before
more : (k : ℕ) (s z : Steps) (l : List Text) → k ≤ length s.machine.trace → k < 512 → length s.machine.trace ≤ 512 → Made (k + 1) (ticked s) z l → Made k s z (next_text s.machine ∷ l)
unfolding ticked micro_step
more k s z l h r b q =
    let x = next_text s.machine in
    let t = s.machine.trace in
    let g : TraceRecord → Text = λ (r : TraceRecord). r.text in
    let w : k + 1 + length l ≡ k + suc (length l) = omega arith in
    record {
      count = omega (arith, q.count);
      held = omega (arith, q.held);
      same =
          ap (λ (j : ℕ). texts_of (take_last j z.machine.trace)) (sym w)
          ∙ q.same
          ∙ ap (λ (r : List Text). r ++ l) (ap texts_of (newest-pushed _ t k h r b) ∙ map-append g (take_last k t) _)
          ∙ append_assoc (texts_of (take_last k t)) (x ∷ []) l;
    }

-- ticks until one ends the instruction
makes : (f k : ℕ) (s : Steps) → k ≤ length s.machine.trace → length s.machine.trace ≤ 512 → k + f ≤ 512 → Made k s (steps f s) (tick_texts f s.machine)
unfolding steps tick_texts ticked micro_step
makes zero k s h b r = none k s h
makes (suc f) k s h b r = more k s _ _ h (omega arith) b (go (micro_step s.machine).state.control.tick (λ x y. makes f (k + 1) (ticked s) x y (omega arith)))
  where
    p : (length (ticked s).machine.trace ≤ 512) × (k + 1 ≤ length (ticked s).machine.trace)
    p = length-pushed _ s.machine.trace k h (omega arith) b

    go : (t : ℕ) → (k + 1 ≤ length (ticked s).machine.trace → length (ticked s).machine.trace ≤ 512 → Made (k + 1) (ticked s) (steps f (ticked s)) (tick_texts f (micro_step s.machine)))
        → Made (k + 1) (ticked s) (unless_zero t (ticked s) (λ u. steps f (ticked s))) (unless_zero t [] (λ u. tick_texts f (micro_step s.machine)))
    go zero i = none (k + 1) (ticked s) p.1
    go (suc t) i = i p.1 p.0

-- there are no more texts than ticks asked
texts-few : (f : ℕ) (m : Machine) → length (tick_texts f m) ≤ f
unfolding tick_texts
texts-few zero m = omega arith
texts-few (suc f) m = go (micro_step m).state.control.tick (texts-few f (micro_step m))
  where
    go : (t : ℕ) → length (tick_texts f (micro_step m)) ≤ f → suc (length (unless_zero t [] (λ u. tick_texts f (micro_step m)))) ≤ suc f
    go zero i = omega arith
    go (suc t) i = omega arith

-- the newest records are those of the ticks just made
pub made : (f : ℕ) (m : Machine) → f ≤ 512 → length m.trace ≤ 512 → map (λ (r : TraceRecord). r.text) (take_last (steps f (started m)).ticks (steps f (started m)).machine.trace) ≡ tick_texts f m
made f m h b =
    let q = makes f 0 (started m) (omega arith) b (omega arith) in
    ap (λ (j : ℕ). texts_of (take_last j (steps f (started m)).machine.trace)) q.count
    ∙ q.same
    ∙ ap (λ (r : List TraceRecord). texts_of r ++ tick_texts f m) (newest-none m.trace)

-- there are no more ticks than asked, nor than records
pub few : (f : ℕ) (m : Machine) → f ≤ 512 → length m.trace ≤ 512 → ((steps f (started m)).ticks ≤ f) × ((steps f (started m)).ticks ≤ length (steps f (started m)).machine.trace)
few f m h b =
    let q = makes f 0 (started m) (omega arith) b (omega arith) in
    (omega (arith, q.count, texts-few f m), omega (arith, q.count, q.held))

-- ---- an instruction ends

-- within the ticks that are left of seven
end_in : (f : ℕ) (s : Steps) → lawful s.machine.state.control ≡ true → s.machine.state.control.halted ≡ false → 7 ≤ s.machine.state.control.tick + f → (steps f s).machine.state.control.tick ≡ 0
unfolding steps ticked micro_step
end_in zero s ok r h = absurd (omega (arith, lawful-small s.machine.state.control ok))
end_in (suc f) s ok r h = go (micro_step s.machine).state.control.tick refl (end_in f (ticked s))
  where
    n : Next s.machine.state.control.tick (micro_step s.machine).state.control
    n = tick_next s.machine.state (operands_of s.machine.state s.machine.memory s.machine.registers) ok r

    go : (t : ℕ) → (micro_step s.machine).state.control.tick ≡ t
        → (lawful (micro_step s.machine).state.control ≡ true → (micro_step s.machine).state.control.halted ≡ false → 7 ≤ (micro_step s.machine).state.control.tick + f → (steps f (ticked s)).machine.state.control.tick ≡ 0)
        → (unless_zero t (ticked s) (λ u. steps f (ticked s))).machine.state.control.tick ≡ 0
    go zero e i = e
    go (suc t) e i =
        let g = n.goes (λ z. omega (arith, e, z)) in
        i n.machine g.1 (omega (arith, g.0))

-- a lawful running machine is at an instruction's end after one
pub ends : (m : Machine) → lawful m.state.control ≡ true → m.state.control.halted ≡ false → (step_instruction m).machine.state.control.tick ≡ 0
unfolding step_instruction
ends m ok r = end_in 7 (started m) ok r (omega arith)

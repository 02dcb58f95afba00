-- Many instructions without their records: a turn of the loops, and that they stand where so many instructions of the light machine lead, each of which a run and a guarded run would have begun.
-- Assumes nothing.
use Rattle.std.proofs.Common.{◌≡◌, ℕ, zero, suc, ◌+◌, ◌-◌, ◌*◌, ◌/◌, ◌<◌, ◌≤◌, Bool, true, false, eqb, List, get_or, take, sym, refl, ap, ◌∙◌, subst, arith, eqb-true, eq-eqb, ne_eqb, None, Option, Some}
use Rattle.std.specs.Option.{option_map_or}
use Rattle.isa.specs.declared.opcode.Opcode.{Opcode}
use native.Mathlib.Decide.{dec_lt}
use Rattle.isa.specs.Word.{decode_word}
use Rattle.control.specs.declared.control.Fault.{Fault}
use Rattle.control.specs.declared.counters.Counters.{Counters}
use Rattle.marks.specs.Marks.{Marks, marks_of, mdr_marked, instruction_marks}
use Rattle.marks.specs.Total.{IsCount}
use Rattle.marks.proofs.Moves.{fetch_opens}
use Rattle.trace.specs.Touched.{TouchFit}
use Rattle.direct.specs.declared.light.Lane.{Lane}
use Rattle.direct.specs.Work.{halts}
use Rattle.direct.specs.Light.{Light, word_at, light_step, light_steps, marks_steps, Fast, FastFor}
use Rattle.direct.specs.Table.{Table, table_of}
use Rattle.direct.specs.Lane.{Slots, slots_of, slot_step, slot_next, slot_word, opcode_at, Stretch, stretched, only_if, stretch, stretch_length, length_for, Ahead, ahead, leads, forward, light_in, marks_in}
use Rattle.direct.proofs.Tables.{table_is, unbroken}
use Rattle.direct.proofs.Counts.{Room, room_now, room_whole}
use Rattle.direct.proofs.Lanes.{passed, next_step, Noting, step_notes, step-light, step-marks, step-total, step_byte, step_room}

-- ---- a turn of the loop over instructions

module _ (hid : ℕ → Bool) (b : List ℕ) (L k : ℕ) (s : Slots) where
  pub stretch_turn : k < L → stretch hid b (L - k) k s ≡ option_map_or (λ (o : Opcode). stretch hid b (L - (k + 1)) (k + 1) (slot_next hid o (slot_word s) s)) (opcode_at hid b s) (stretched k s)
  unfolding stretch
  stretch_turn h = let z : L - k ≡ suc (L - (k + 1)) = omega arith in ap (λ (n : ℕ). stretch hid b n k s) z

  pub stretch_over : L ≤ k → stretch hid b (L - k) k s ≡ stretched k s
  unfolding stretch
  stretch_over h = let z : L - k ≡ 0 = omega arith in ap (λ (n : ℕ). stretch hid b n k s) z

-- ---- a turn of the loop over stretches

module _ (hid : ℕ → Bool) (b : List ℕ) (L n : ℕ) (kept : Ahead) (s : Slots) where
  module _ {m : ℕ} (f : m ≡ length_for s.lane.counters) {t : Stretch} (e : t ≡ stretch hid b m 0 s) (h : n < L) where
    whole : leads hid b (L - n) kept (n * stretch_length) s ≡ only_if (eqb t.made stretch_length) kept (λ u. leads hid b (L - (n + 1)) (ahead (n * stretch_length) s) ((n + 1) * stretch_length) t.slots)
    unfolding leads
    whole =
        let z : L - n ≡ suc (L - (n + 1)) = omega arith in
        let y : n * stretch_length + stretch_length ≡ (n + 1) * stretch_length = omega arith in
        let g = sym (e ∙ ap (λ (j : ℕ). stretch hid b j 0 s) f) in
        ap (λ (j : ℕ). leads hid b j kept (n * stretch_length) s) z
        ∙ (λ i. only_if (eqb (g i).made stretch_length) kept (λ u. leads hid b (L - (n + 1)) (ahead (n * stretch_length) s) (y i) (g i).slots))

    pub leads_turn : t.made ≡ stretch_length → leads hid b (L - n) kept (n * stretch_length) s ≡ leads hid b (L - (n + 1)) (ahead (n * stretch_length) s) ((n + 1) * stretch_length) t.slots
    leads_turn q = rw (eq-eqb _ _ q) at whole

    pub leads_stop : (t.made ≡ stretch_length → ⊥) → leads hid b (L - n) kept (n * stretch_length) s ≡ kept
    leads_stop q = rw (ne_eqb _ _ q) at whole

  pub leads_over : (k : ℕ) → L ≤ n → leads hid b (L - n) kept k s ≡ kept
  unfolding leads
  leads_over k h = let z : L - n ≡ 0 = omega arith in ap (λ (j : ℕ). leads hid b j kept k s) z

-- ---- where they stand: breakpoints, the fault, instructions begun before, the machine, its marks and their total at first, and how many were made since

pub record Stands (hid : ℕ → Bool) (b : List ℕ) (f : Option Fault) (k : ℕ) (l : Light) (q : Marks) (u : ℕ) (j : ℕ) (s : Slots) : Type 0 where
  pub light : light_in f s ≡ light_steps j l
  pub marks : marks_in s ≡ mdr_marked 0 (marks_steps j l q)
  pub total : IsCount hid q.memory u → IsCount hid s.marks s.lane.hidden_total
  pub fast : FastFor hid b k j l q
  pub notes : Noting s
  pub byte : s.lane.pc < 256

module _ (hid : ℕ → Bool) (b t : List ℕ) (table : Table b t) (f : Option Fault) (k : ℕ) (l : Light) (q : Marks) (u : ℕ) where
  moved : {i i' : ℕ} {m m' : Light} {p p' : Marks} → i ≡ i' → m ≡ m' → p ≡ p' → Fast hid b i m p → Fast hid b i' m' p'
  moved {i} {i'} {m} {m'} {p} {p'} x y z a =
      subst (λ (n : Marks). Fast hid b i' m' n) z (subst (λ (n : Light). Fast hid b i' n p) y (subst (λ (n : ℕ). Fast hid b n m p) x a))

  -- one more passes
  fast_more : (j : ℕ) → FastFor hid b k j l q → Fast hid b (k + j) (light_steps j l) (marks_steps j l q) → FastFor hid b k (j + 1) l q
  fast_more j g a i h = at (dec_lt i j)
    where
      here : j ≡ i → Fast hid b (k + i) (light_steps i l) (marks_steps i l q)
      here z = moved (ap (λ (n : ℕ). k + n) z) (ap (λ (n : ℕ). light_steps n l) z) (ap (λ (n : ℕ). marks_steps n l q) z) a

      at : Dec (i < j) → Fast hid b (k + i) (light_steps i l) (marks_steps i l q)
      at (yes y) = g i y
      at (no y) = here (omega arith)

  fast_here : (j n : ℕ) (s : Slots) (o : Opcode) → Stands hid b f k l q u j s → Room n s.lane.counters → opcode_at hid t s ≡ Some o → Fast hid b (k + j) (light_steps j l) (marks_steps j l q)
  fast_here j n s o a r e =
      let p = passed hid (get_or t s.lane.pc 0) (get_or s.marks s.lane.pc 0) (slot_word s) s.register_marks o e in
      let x : Fast hid b (k + j) (light_in f s) (marks_in s) = record { unbroken = unbroken b t (k + j) s.lane.pc table a.byte p.here; counted = room_now n s.lane.counters r; word = p.word; jump = p.jump; lasts = ap halts p.decoded ∙ p.lasts } in
      let y : Fast hid b (k + j) (light_steps j l) (mdr_marked 0 (marks_steps j l q)) = moved refl a.light a.marks x in
      record { unbroken = y.unbroken; counted = y.counted; word = y.word; jump = y.jump; lasts = y.lasts }

  next_light : (j : ℕ) → light_step (light_steps j l) ≡ light_steps (j + 1) l
  unfolding light_steps
  next_light j = let z : suc j ≡ j + 1 = omega arith in ap (λ (n : ℕ). light_steps n l) z

  next_marks : (j : ℕ) → instruction_marks (word_at (light_steps j l)) (marks_steps j l q) ≡ marks_steps (j + 1) l q
  unfolding marks_steps
  next_marks j = let z : suc j ≡ j + 1 = omega arith in ap (λ (n : ℕ). marks_steps n l q) z

  stands_more : (j n : ℕ) (s : Slots) (o : Opcode) → Stands hid b f k l q u j s → Room n s.lane.counters → opcode_at hid t s ≡ Some o → Stands hid b f k l q u (j + 1) (slot_step hid (decode_word (slot_word s)) (slot_word s) s)
  stands_more j n s o a r e =
      let p = passed hid (get_or t s.lane.pc 0) (get_or s.marks s.lane.pc 0) (slot_word s) s.register_marks o e in
      let h : halts (decode_word (slot_word s)) ≡ false = ap halts p.decoded ∙ p.lasts in
      let g = fast_here j n s o a r e in
      record {
        light = step-light hid f s a.notes h ∙ ap light_step a.light ∙ next_light j;
        marks =
            step-marks hid f s a.notes
            ∙ (λ i. mdr_marked 0 (instruction_marks (word_at (a.light i)) (a.marks i)))
            ∙ ap (mdr_marked 0) (fetch_opens (word_at (light_steps j l)) (mdr_marked 0 (marks_steps j l q)) (marks_steps j l q) refl ∙ next_marks j);
        total = λ c. step-total hid f s a.notes (a.total c);
        fast = fast_more j a.fast g;
        notes = step_notes hid f s a.notes;
        byte = step_byte hid f s a.notes;
      }

  -- a stretch, of which i were made, from where J were; there is room for what is left of it
  stretch_stands : (J n i : ℕ) (s : Slots) → Stands hid b f k l q u (J + i) s → Room n s.lane.counters → Stands hid b f k l q u (J + (stretch hid t n i s).made) (stretch hid t n i s).slots
  unfolding stretch
  stretch_stands J zero i s a r = a
  stretch_stands J (suc n) i s a r =
      go (opcode_at hid t s) refl (λ o e.
      let z : J + i + 1 ≡ J + (i + 1) = omega arith in
      let next = slot_step hid (decode_word (slot_word s)) (slot_word s) s in
      subst (λ (y : Slots). Stands hid b f k l q u (J + (stretch hid t n (i + 1) y).made) (stretch hid t n (i + 1) y).slots) (next_step hid t s o e)
      (stretch_stands J n (i + 1) next (subst (λ (m : ℕ). Stands hid b f k l q u m next) z (stands_more (J + i) (suc n) s o a r e)) (step_room hid n s r)))
    where
      then : Opcode → Stretch
      then o = stretch hid t n (i + 1) (slot_next hid o (slot_word s) s)

      go : (d : Option Opcode) → opcode_at hid t s ≡ d → ((o : Opcode) → opcode_at hid t s ≡ Some o → Stands hid b f k l q u (J + (then o).made) (then o).slots)
          → Stands hid b f k l q u (J + (option_map_or then d (stretched i s)).made) (option_map_or then d (stretched i s)).slots
      go None e x = a
      go (Some o) e x = x o e

  -- a whole one: there was room for it
  long : (c : Counters) (s : Slots) → eqb (stretch hid t (length_for c) 0 s).made stretch_length ≡ true → (length_for c ≡ stretch_length) × Room stretch_length c
  unfolding stretch
  long c s e = room_whole c (λ z. let x : ◌≡◌ {A = ℕ} 0 stretch_length = sym (ap (λ (n : ℕ). (stretch hid t n 0 s).made) z) ∙ eqb-true _ _ e in omega (arith, x))

  whole_stretch : (j : ℕ) (s : Slots) → Stands hid b f k l q u j s → let r = stretch hid t (length_for s.lane.counters) 0 s in eqb r.made stretch_length ≡ true → Stands hid b f k l q u (j + stretch_length) r.slots
  whole_stretch j s a e =
      let n = length_for s.lane.counters in
      let r = stretch hid t n 0 s in
      let g = long s.lane.counters s e in
      let none : j ≡ j + 0 = omega arith in
      subst (λ (m : ℕ). Stands hid b f k l q u (j + m) r.slots) (eqb-true r.made stretch_length e)
      (stretch_stands j n 0 s (subst (λ (m : ℕ). Stands hid b f k l q u m s) none a) (subst (λ (m : ℕ). Room m s.lane.counters) (sym g.0) g.1))

  -- what holds of all that can be kept holds of what is: each has a whole stretch behind it
  module _ (P : Ahead → Type 0) (B : ℕ) (keep : (j : ℕ) (s : Slots) → Stands hid b f k l q u j s → FastFor hid b k (j + stretch_length) l q → j + stretch_length ≤ B → P (ahead j s)) where
    pub leads_keeps : (n j : ℕ) (kept : Ahead) (s : Slots) → P kept → Stands hid b f k l q u j s → j + n * stretch_length ≤ B → P (leads hid t n kept j s)
    unfolding leads
    leads_keeps zero j kept s p a h = p
    leads_keeps (suc n) j kept s p a h =
        go (eqb (stretch hid t (length_for s.lane.counters) 0 s).made stretch_length) refl (λ e.
        let y = whole_stretch j s a e in
        leads_keeps n (j + stretch_length) (ahead j s) (stretch hid t (length_for s.lane.counters) 0 s).slots (keep j s a y.fast (omega arith)) y (omega arith))
      where
        r : Stretch
        r = stretch hid t (length_for s.lane.counters) 0 s

        go : (g : Bool) → eqb r.made stretch_length ≡ g → (eqb r.made stretch_length ≡ true → P (leads hid t n (ahead j s) (j + stretch_length) r.slots))
            → P (only_if g kept (λ u. leads hid t n (ahead j s) (j + stretch_length) r.slots))
        go false e x = p
        go true e x = x e

-- ---- the whole of it, from a machine whose touched addresses are in order, whatever MDR's mark

module _ (hid : ℕ → Bool) (b : List ℕ) (B : ℕ) (f : Option Fault) (k : ℕ) (s : Lane) (m r u x y : List ℕ) (d : ℕ) (byte : s.pc < 256) (fit : TouchFit s.touched_len u) where
  abbrev pub first : Slots
  first = slots_of s m r u (table_of (take s.touched_len u)) x y

  starts : Stands hid b f k (light_in f first) (marks_of x y d) s.hidden_total 0 first
  unfolding light_steps marks_steps
  starts = record { light = refl; marks = refl; total = λ c. c; fast = λ i h. absurd (omega arith); notes = record { fit = fit; table = table_is (take s.touched_len u) }; byte = byte }

  pub forward_keeps : (P : Ahead → Type 0) → P (ahead 0 first)
      → ((j : ℕ) (z : Slots) → Stands hid b f k (light_in f first) (marks_of x y d) s.hidden_total j z → FastFor hid b k (j + stretch_length) (light_in f first) (marks_of x y d) → j + stretch_length ≤ B → P (ahead j z))
      → P (forward hid b B s m r u x y)
  unfolding forward
  forward_keeps P p keep = leads_keeps hid b (table_of b) (table_is b) f k (light_in f first) (marks_of x y d) s.hidden_total P B keep (B / stretch_length) 0 (ahead 0 first) first p starts (omega arith)

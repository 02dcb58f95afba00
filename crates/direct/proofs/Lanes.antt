-- One instruction without its records: what its calls say is `slot_step`, and that is `light_step` and the marks of the light machine.
-- Assumes nothing.
use Rattle.std.proofs.Common.{◌≡◌, ℕ, suc, ◌+◌, ◌%◌, ◌^◌, ◌<◌, Bool, true, false, cond, not, eqb, List, get_or, take, sym, refl, ap, ◌∙◌, subst, arith, eqb-true, None, Option, Some}
use Rattle.isa.specs.declared.opcode.Opcode.{Opcode}
use Rattle.isa.specs.declared.opcode.Opcode.TheVariants.{Halt}
use Rattle.isa.specs.Word.{decode_word}
use Rattle.control.specs.declared.control.Fault.{Fault}
use Rattle.control.specs.declared.control.Operands.{Operands}
use Rattle.control.specs.declared.counters.Counters.{Counters}
use Rattle.control.proofs.Lawfuls.{true-false}
use Rattle.marks.specs.Marks.{Marks, marks_of, mdr_marked, executed_marks, instruction_marks}
use Rattle.marks.specs.Total.{IsCount}
use Rattle.marks.specs.Forms.{total_by}
use Rattle.marks.proofs.Totals.{total-counts}
use Rattle.guard.specs.Stops.{hidden_jump}
use Rattle.guard.specs.Forms.{passes}
use Rattle.trace.specs.Cells.{memory_after}
use Rattle.trace.specs.Forms.{registers_by}
use Rattle.trace.specs.Touched.{TouchFit, touched_by}
use Rattle.trace.proofs.Writes.{one_of_sixteen}
use Rattle.direct.specs.declared.work.Work.{Work}
use Rattle.direct.specs.Work.{operands, worked, halts, count_whole}
use Rattle.direct.specs.Light.{work_of, light_step}
use Rattle.direct.specs.Table.{Noted, noted_of, Table, touch_seen}
use Rattle.direct.specs.Lane.{Slots, slots_of, slots_by, slot_step, slot_next, lasting_of, slot_word, next_opcode, opcode_at, light_in, marks_in}
use Rattle.direct.proofs.Counts.{Room, room_next}
use Rattle.direct.proofs.Words.{named, sends, unfaulted, stays}
use Rattle.direct.proofs.Tables.{Live, touch_live}

-- ---- the calls of one instruction

pub is_step : (hid : ℕ → Bool) (d : Option Opcode) (w : ℕ) (s : Slots) (k : Work) {o : Operands} {p : ℕ} {n : Noted} {q : Marks} {m r : List ℕ} {c : Counters} {t : ℕ}
    → t ≡ total_by hid d w s.marks s.register_marks s.lane.hidden_total
    → q ≡ executed_marks d w (marks_of s.marks s.register_marks 0)
    → o ≡ operands w s.memory s.registers
    → p ≡ (s.lane.pc + 1) % 2 ^ 8
    → k ≡ worked d w p s.lane.alu o
    → r ≡ registers_by k.write s.registers
    → m ≡ memory_after k.bus s.memory
    → n ≡ touch_seen k.bus (noted_of s.lane.touched_len s.touched s.seen)
    → c ≡ count_whole d k.bus s.lane.counters
    → slots_of (record { counters = c; touched_len = n.places.count; alu = k.alu; hidden_total = t; pc = k.pc }) m r n.places.items n.seen q.memory q.registers ≡ slot_step hid d w s
unfolding slot_step
is_step hid d w s k {n = n} {q} et eq eo ep ek er em en ec =
    let e : k ≡ worked d w ((s.lane.pc + 1) % 2 ^ 8) s.lane.alu (operands w s.memory s.registers) = ek ∙ (λ i. worked d w (ep i) s.lane.alu (eo i)) in
    let t = noted_of s.lane.touched_len s.touched s.seen in
    (λ i. slots_of (record { counters = ec i; touched_len = (en i).places.count; alu = k.alu; hidden_total = et i; pc = k.pc }) (em i) (er i) (en i).places.items (en i).seen (eq i).memory (eq i).registers)
    ∙ (λ i. slots_by d s (e i) (touch_seen (e i).bus t) (executed_marks d w (marks_of s.marks s.register_marks 0)) (total_by hid d w s.marks s.register_marks s.lane.hidden_total))

-- by its opcode, where it does not halt
next_is : (hid : ℕ → Bool) (o : Opcode) (w : ℕ) (s : Slots) → halts (Some o) ≡ false → slot_next hid o w s ≡ slot_step hid (Some o) w s
next_is hid Halt w s h = absurd (true-false h)
next_is hid _ w s h = refl

-- ---- the tests before it

-- where the run goes on behind a word
lasts : (d : Option Opcode) (o : Opcode) → lasting_of d ≡ Some o → (d ≡ Some o) × (halts (Some o) ≡ false)
lasts None o e = absurd (cc)
lasts (Some Halt) o e = absurd (cc)
lasts (Some _) o e = (e, sym (ap halts e))

pub record Passed (hid : ℕ → Bool) (b m w : ℕ) (r : List ℕ) (o : Opcode) : Type 0 where
  pub here : b ≡ 0
  pub word : hid m ≡ false
  pub jump : hidden_jump hid w r ≡ false
  pub decoded : decode_word w ≡ Some o
  pub lasts : halts (Some o) ≡ false

pub passed : (hid : ℕ → Bool) (b m w : ℕ) (r : List ℕ) (o : Opcode) → next_opcode hid b m w r ≡ Some o → Passed hid b m w r o
unfolding passes
passed hid b m w r o e = go (eqb b 0) (hid m) (hidden_jump hid w r) refl refl refl e
  where
    go : (z h j : Bool) → eqb b 0 ≡ z → hid m ≡ h → hidden_jump hid w r ≡ j → cond {A = Option Opcode} (cond z (not h) false) (cond j None (lasting_of (decode_word w))) None ≡ Some o → Passed hid b m w r o
    go true false false a x y f = let l = lasts (decode_word w) o f in record { here = eqb-true b 0 a; word = x; jump = y; decoded = l.0; lasts = l.1 }
    go true false true a x y f = absurd (cc)
    go true true j a x y f = absurd (cc)
    go false h j a x y f = absurd (cc)

-- so it is made as what the word decodes to
pub next_step : (hid : ℕ → Bool) (b : List ℕ) (s : Slots) (o : Opcode) → opcode_at hid b s ≡ Some o → slot_step hid (decode_word (slot_word s)) (slot_word s) s ≡ slot_next hid o (slot_word s) s
next_step hid b s o e =
    let p = passed hid (get_or b s.lane.pc 0) (get_or s.marks s.lane.pc 0) (slot_word s) s.register_marks o e in
    ap (λ (d : Option Opcode). slot_step hid d (slot_word s) s) p.decoded ∙ sym (next_is hid o (slot_word s) s p.lasts)

-- ---- what it does

-- the touched addresses are those of a machine, and the table is theirs
pub record Noting (s : Slots) : Type 0 where
  pub fit : TouchFit s.lane.touched_len s.touched
  pub table : Table (take s.lane.touched_len s.touched) s.seen

module _ (hid : ℕ → Bool) (f : Option Fault) (s : Slots) (t : Noting s) where
  abbrev w : ℕ
  w = slot_word s

  abbrev d : Option Opcode
  d = decode_word w

  abbrev k : Work
  k = work_of d w (light_in f s)

  live : Live (touch_seen k.bus (noted_of s.lane.touched_len s.touched s.seen)) (touched_by k.bus (take s.lane.touched_len s.touched))
  live = touch_live k.bus s.lane.touched_len s.touched s.seen (sends d w ((s.lane.pc + 1) % 2 ^ 8) s.lane.alu (operands w s.memory s.registers) refl) t.fit t.table

  pub step_notes : Noting (slot_step hid d w s)
  unfolding slot_step
  step_notes = record { fit = live.fit; table = subst (λ (p : List ℕ). Table p (touch_seen k.bus (noted_of s.lane.touched_len s.touched s.seen)).seen) (sym live.same) live.table }

  pub step-light : halts d ≡ false → light_in f (slot_step hid d w s) ≡ light_step (light_in f s)
  unfolding slot_step light_step
  step-light h =
      let r = one_of_sixteen k.write s.registers (named d w ((s.lane.pc + 1) % 2 ^ 8) s.lane.alu (operands w s.memory s.registers) refl) in
      let l = light_in f s in
      λ i. record {
        pc = k.pc;
        fault = sym (unfaulted d w s.lane.pc f h) i;
        alu = k.alu;
        counters = count_whole d k.bus s.lane.counters;
        memory = memory_after k.bus s.memory;
        registers = r i;
        touched = live.same i;
      }

  pub step-marks : marks_of (slot_step hid d w s).marks (slot_step hid d w s).register_marks 0 ≡ mdr_marked 0 (instruction_marks w (marks_in s))
  unfolding slot_step instruction_marks
  step-marks = refl

  pub step-total : IsCount hid s.marks s.lane.hidden_total → IsCount hid (slot_step hid d w s).marks (slot_step hid d w s).lane.hidden_total
  unfolding slot_step
  step-total c = total-counts hid d w (marks_in s) s.lane.hidden_total c

  pub step_byte : (slot_step hid d w s).lane.pc < 256
  unfolding slot_step
  step_byte = stays d w ((s.lane.pc + 1) % 2 ^ 8) s.lane.alu (operands w s.memory s.registers) (omega arith)

-- and leaves room for one instruction less
pub step_room : (hid : ℕ → Bool) (n : ℕ) (s : Slots) → Room (suc n) s.lane.counters → Room n (slot_step hid (decode_word (slot_word s)) (slot_word s) s).lane.counters
unfolding slot_step
step_room hid n s r = let w = slot_word s in room_next n (decode_word w) (worked (decode_word w) w ((s.lane.pc + 1) % 2 ^ 8) s.lane.alu (operands w s.memory s.registers)).bus s.lane.counters r

-- A whole instruction with its records: what its calls say is `whole_on`.
-- Assumes nothing.
use Rattle.std.proofs.Common.{◌≡◌, ℕ, ◌+◌, ◌%◌, ◌^◌, Bool, not, List, ◌∙◌, Option}
use Rattle.isa.specs.declared.opcode.Opcode.{Opcode}
use Rattle.isa.specs.Word.{decode_word}
use Rattle.plan.specs.Plan.{execute_ticks_of}
use Rattle.control.specs.declared.control.BusTransfer.{BusTransfer}
use Rattle.control.specs.declared.control.State.{State}
use Rattle.control.specs.declared.control.Operands.{Operands}
use Rattle.control.specs.declared.counters.Counters.{Counters}
use Rattle.control.specs.Last.{last_sent}
use Rattle.trace.specs.Trace.{Arrays}
use Rattle.trace.specs.Lines.{lines}
use Rattle.trace.specs.Cells.{memory_after}
use Rattle.trace.specs.Forms.{logged_in, Places, touch_in, registers_by}
use Rattle.direct.specs.declared.work.Work.{Work}
use Rattle.direct.specs.Work.{operands, worked, counts, state_by, count_whole}
use Rattle.direct.specs.Light.{taken_by}
use Rattle.direct.specs.Whole.{Held, Wholly, whole_on}

-- by the opcode, the word, its execute ticks, whether a jump is taken, and its work
abbrev wholly_by : Option Opcode → ℕ → ℕ → Bool → Held → Work → Wholly
wholly_by d w e taken h k = record {
  held = record {
    state = state_by d w h.state.control.pc h.state.fault k;
    counters = count_whole d k.bus h.counters;
    memory = memory_after k.bus h.memory;
    registers = registers_by k.write h.registers;
    places = touch_in k.bus h.places;
    arrays = logged_in (lines (4 + e) 0 h.counters.micro_operations h.state.control.pc taken w) h.arrays;
  };
  ticks = 4 + e;
  bus = last_sent k.bus;
  write = k.write;
  faulted = not (counts d);
}

pub is_wholly : (w : ℕ) (h : Held) (k : Work) {d : Option Opcode} {taken u : Bool} {e p : ℕ} {o : Operands} {m r : List ℕ} {t : Places} {q : Arrays} {c : Counters} {x : State} {b : Option BusTransfer}
    → d ≡ decode_word w
    → taken ≡ taken_by w h.registers
    → e ≡ execute_ticks_of d
    → o ≡ operands w h.memory h.registers
    → p ≡ (h.state.control.pc + 1) % 2 ^ 8
    → k ≡ worked d w p h.state.last_alu o
    → r ≡ registers_by k.write h.registers
    → m ≡ memory_after k.bus h.memory
    → t ≡ touch_in k.bus h.places
    → q ≡ logged_in (lines (4 + e) 0 h.counters.micro_operations h.state.control.pc taken w) h.arrays
    → c ≡ count_whole d k.bus h.counters
    → x ≡ state_by d w h.state.control.pc h.state.fault k
    → b ≡ last_sent k.bus
    → u ≡ counts d
    → record { held = record { state = x; counters = c; memory = m; registers = r; places = t; arrays = q }; ticks = 4 + e; bus = b; write = k.write; faulted = not u } ≡ whole_on w h
unfolding whole_on
is_wholly w h k {d} {taken} {e = e} ed eg ee eo ep ek er em et eq ec ex eb eu =
    let f : k ≡ worked (decode_word w) w ((h.state.control.pc + 1) % 2 ^ 8) h.state.last_alu (operands w h.memory h.registers) = ek ∙ (λ i. worked (ed i) w (ep i) h.state.last_alu (eo i)) in
    (λ i. record { held = record { state = ex i; counters = ec i; memory = em i; registers = er i; places = et i; arrays = eq i }; ticks = 4 + e; bus = eb i; write = k.write; faulted = not (eu i) })
    ∙ (λ i. wholly_by d w (ee i) (eg i) h k)
    ∙ (λ i. wholly_by (ed i) w (execute_ticks_of (ed i)) (taken_by w h.registers) h k)
    ∙ (λ i. wholly_by (decode_word w) w (execute_ticks_of (decode_word w)) (taken_by w h.registers) h (f i))

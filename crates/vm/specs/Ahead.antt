-- What the code keeps where the instructions of a run that its end does not show (02, Change 11) are made without their records. A reader need not believe
-- it: as `Forms`, it is for helper functions.
-- Assumes nothing.
use Rattle.std.specs.Prelude.{ℕ, ◌+◌, ◌-◌, ◌≤◌, ◌≡◌, Bool, List}
use Rattle.control.specs.Control.{with_pc, with_control, with_alu}
use Rattle.marks.specs.Total.{IsCount}
use Rattle.direct.specs.declared.light.Lane.{Lane}
use Rattle.vm.specs.declared.parts.Core.{Core}
use Rattle.vm.specs.View.{parts, view}
use Rattle.vm.specs.Run.{run}
use Rattle.vm.specs.Guard.{guarded_run}
use Rattle.vm.specs.Forms.{Fit, guarded_on}

-- the part of the small part that an instruction reads and does not set anew, with the total of hidden words
abbrev pub lane_of : Core → ℕ → Lane
lane_of c n = record {
  counters = c.counters;
  touched_len = c.touched_len;
  alu = c.state.last_alu;
  hidden_total = n;
  pc = c.state.control.pc;
}

-- the small part with that part anew
abbrev pub core_with : Core → Lane → Core
core_with c s = record {
  state = with_alu s.alu (with_control (with_pc s.pc c.state.control) c.state);
  counters = s.counters;
  touched_len = s.touched_len;
  trace_start = c.trace_start;
  trace_len = c.trace_len;
}

-- what is left of a run, and of a guarded run, is the whole, whatever the trace and MDR's mark: which marks hide, breakpoints, instructions begun, budget, the parts,
-- marks and total at first, and those after j instructions
pub record Ahead (hid : ℕ → Bool) (b : List ℕ) (k L : ℕ) (from : Core) (m r t x y : List ℕ) (n j : ℕ) (core : Core) (m' r' t' x' y' : List ℕ) (n' : ℕ) : Type 0 where
  pub runs : (c i l : List ℕ) → Fit (parts from m r t c i l)
      → run b k (L - k) (view (parts from m r t c i l)) ≡ run b (k + j) (L - (k + j)) (view (parts core m' r' t' c i l))
  pub guards : (c i l : List ℕ) (d : ℕ) → Fit (parts from m r t c i l)
      → guarded_run hid b k (L - k) (guarded_on (parts from m r t c i l) x y d)
      ≡ guarded_run hid b (k + j) (L - (k + j)) (guarded_on (parts core m' r' t' c i l) x' y' d)
  pub totals : IsCount hid x n → IsCount hid x' n'
  pub fits : (c i l : List ℕ) → Fit (parts from m r t c i l) → Fit (parts core m' r' t' c i l)
  pub within : k + j ≤ L

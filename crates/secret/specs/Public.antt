-- Which calls for a report are refused (01, section 1, numbers 1 to 5), and which inputs a report may not tell apart (section 6; 02, Change 7).
-- Assumes nothing.
use Rattle.std.specs.Prelude.{ℕ, ◌<◌, ◌≡◌, false, cond, eqb, ltb, length, get_or}
use Rattle.isa.specs.Sizes.{memory_words}
use Rattle.marks.specs.Owners.{hidden_from}
use Rattle.vm.specs.Calls.{image_words}
use Rattle.guard.specs.Input.{Input, input_refusal}
use Rattle.secret.specs.Widths.{report_limit}

-- 1 to 4 from the input, then 5 from the length of the buffer, 0 for none
unfoldable pub report_refusal : Input → ℕ → ℕ
report_refusal i room = cond (eqb (input_refusal i) 0) (cond (ltb room report_limit) 5 0) (input_refusal i)

-- the same image length, budget, breakpoint list, clearance and owner bytes, and the same starting word at each address that is not hidden from that reader
pub record SamePublic (i j : Input) : Type 0 where
  pub image : length i.image ≡ length j.image
  pub budget : i.budget ≡ j.budget
  pub breaks : i.breaks ≡ j.breaks
  pub clearance : i.clearance ≡ j.clearance
  pub marks : i.marks ≡ j.marks
  pub words : (a : ℕ) → a < memory_words → hidden_from i.clearance (get_or i.marks a 0) ≡ false
      → get_or (image_words i.image) a 0 ≡ get_or (image_words j.image) a 0

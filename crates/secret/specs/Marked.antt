-- 01's marks inside owners (02, Change 7): 1 for what is hidden from the reader, and 0 for what is not, under clearance 00. `proofs/Marked.antt` shows that the
-- run under owners and a clearance is the run under these marks, so that what is known of such runs holds of all.
-- Assumes nothing.
use Rattle.std.specs.Prelude.{ℕ, Bool, List, map}
use Rattle.marks.specs.Owners.{hidden_from}
use Rattle.marks.specs.Marks.{Marks, marks_of}
use Rattle.marks.specs.Total.{hidden}
use Rattle.guard.specs.Input.{Input}
use Rattle.vm.specs.Guard.{Guarded, GuardedEnd, GuardedAnswer}

module _ (hid : ℕ → Bool) where
  abbrev pub marked_list : List ℕ → List ℕ
  marked_list l = map (hidden hid) l

  abbrev pub marked_marks : Marks → Marks
  marked_marks k = marks_of (marked_list k.memory) (marked_list k.registers) (hidden hid k.mdr)

  -- all else is the same: the machine, the stop, the counts
  abbrev pub marked_guarded : Guarded → Guarded
  marked_guarded g = record { machine = g.machine; marks = marked_marks g.marks }

  abbrev pub marked_end : GuardedEnd → GuardedEnd
  marked_end e = record { stop = e.stop; executed = e.executed; guarded = marked_guarded e.guarded }

  abbrev pub marked_answer : GuardedAnswer → GuardedAnswer
  marked_answer a = record {
    refused = a.refused;
    stop = a.stop;
    executed = a.executed;
    guarded = marked_guarded a.guarded;
    hidden_total = a.hidden_total;
    rest = a.rest;
  }

-- the input whose marks are these
abbrev pub marked_input : Input → Input
marked_input i = record {
  image = i.image;
  marks = marked_list (hidden_from i.clearance) i.marks;
  budget = i.budget;
  breaks = i.breaks;
  clearance = 0;
}

-- The total of hidden words beside a guarded run (02, Change 6): the guarded state that carries it. It is counted at the start, and then changed by STORE
-- alone; `carried` (proofs/Totals.antt) says that it is the full count after every instruction.
-- Assumes nothing.
use Rattle.std.specs.Prelude.{ℕ, zero, suc, Bool}
use Rattle.isa.specs.Word.{decode_word}
use Rattle.marks.specs.Total.{hidden_count, total_after}
use Rattle.vm.specs.Guard.{Guarded, next_word, guarded_step}

pub record Counted : Type 0 where
  pub guarded : Guarded
  pub total : ℕ

module _ (hid : ℕ → Bool) where
  -- the marks of memory are counted, all of them
  abbrev pub counted : Guarded → Counted
  counted g = record { guarded = g; total = hidden_count hid g.marks.memory }

  -- a whole instruction
  abbrev pub counted_step : Counted → Counted
  counted_step c =
      let w = next_word c.guarded.machine in
      record { guarded = guarded_step c.guarded; total = total_after hid (decode_word w) w c.guarded.marks c.total }

  unfoldable pub counted_steps : ℕ → Counted → Counted
  counted_steps zero c = c
  counted_steps (suc n) c = counted_steps n (counted_step c)

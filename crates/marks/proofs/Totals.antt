-- The full count of hidden words, and that a carried total is that count after every instruction (02, Change 6).
-- Assumes nothing.
use Rattle.std.specs.Prelude.{Option, Some}
use Rattle.isa.specs.declared.opcode.Opcode.{Opcode}
use Prim.Native.Nat.{ℕ, ◌+◌, ◌≤◌, ◌<◌}
use native.Mathlib.Omega.{arith}
use mathlib.Core.Path.{◌≡◌, refl, ap, ◌∙◌}
use mathlib.Core.Bool.{Bool, true, false, cond}
use mathlib.Core.List.{List}
use lib.ListN.{length, get_or, set, length-set}
use Rattle.std.specs.List.{count_by}
use Rattle.std.proofs.lemmas.List.Recursion.{is_sum_by}
use Rattle.std.proofs.lemmas.List.Sums.{count_by-le-length, get_or-le-sum_by, sum_by-set}
use Rattle.isa.specs.Sizes.{memory_words}
use Rattle.isa.specs.declared.opcode.Opcode.TheVariants.{StoreMemory}
use Rattle.isa.specs.Word.{decode_word, digit_x}
use Rattle.control.specs.Address.{reached_address}
use Rattle.marks.specs.Marks.{Marks, register_mark, mdr_marked, executed_marks, instruction_marks}
use Rattle.marks.specs.Total.{on_store, hidden, hidden_count, total_after, IsCount}
use Rattle.marks.specs.Forms.{total_by}

module _ (hid : ℕ → Bool) where
  bit : (b : Bool) → cond b 1 0 ≤ 1
  bit true = omega arith
  bit false = omega arith

  -- ---- the full count

  pub hidden-few : (m : ℕ) → hidden hid m ≤ 1
  hidden-few m = bit (hid m)

  pub counted : (l : List ℕ) → hidden_count hid l ≡ count_by hid l
  unfolding hidden_count
  counted = is_sum_by (hidden_count hid) (hidden hid) refl (λ _ _. refl)

  pub count-few : (l : List ℕ) → hidden_count hid l ≤ length l
  count-few l = rw counted (count_by-le-length hid l)

  -- one of those counted
  count-has : (l : List ℕ) (a : ℕ) → a < length l → hidden hid (get_or l a 0) ≤ hidden_count hid l
  count-has l a h = rw counted (get_or-le-sum_by (hidden hid) l a 0 h)

  -- another mark at an address
  count_set : (l : List ℕ) (a n : ℕ) → a < length l → hidden_count hid (set l a n) + hidden hid (get_or l a 0) ≡ hidden_count hid l + hidden hid n
  count_set l a n h = rw (counted l, counted (set l a n)) (sum_by-set (hidden hid) l a n 0 h)

  -- ---- an instruction

  -- the marks after it are as many, and its total is their count
  record Counts (d : Option Opcode) (w : ℕ) (k : Marks) : Type 0 where
    long : length (executed_marks d w (mdr_marked 0 k)).memory ≡ length k.memory
    total : total_after hid d w k (hidden_count hid k.memory) ≡ hidden_count hid (executed_marks d w (mdr_marked 0 k)).memory

  module _ (w : ℕ) (k : Marks) (full : length k.memory ≡ memory_words) where
    store : Counts (Some StoreMemory) w k
    store =
        let at : reached_address w < length k.memory = omega (arith, full) in
        record {
          long = length-set k.memory (reached_address w) (register_mark (digit_x w) k);
          total = omega (arith, count_set k.memory (reached_address w) (register_mark (digit_x w) k) at, count-has k.memory (reached_address w) at);
        }

    counts : (d : Option Opcode) → Counts d w k
    counts (Some StoreMemory) = store
    counts _ = record { long = refl; total = refl }

    pub instruction-long : length (instruction_marks w k).memory ≡ memory_words
    unfolding instruction_marks
    instruction-long = (counts (decode_word w)).long ∙ full

    pub instruction-total : total_after hid (decode_word w) w k (hidden_count hid k.memory) ≡ hidden_count hid (instruction_marks w k).memory
    unfolding instruction_marks
    instruction-total = (counts (decode_word w)).total

-- ---- the code's total, which has 16 bits

module _ (hid : ℕ → Bool) (d : Option Opcode) (w : ℕ) (k : Marks) (t : ℕ) (c : IsCount hid k.memory t) where
  total_by_lem : total_by hid d w k.memory k.registers t ≡ total_after hid d w k t
  total_by_lem =
      let at : reached_address w < length k.memory = omega (arith, c.full) in
      ap (on_store d t) (omega (arith, c.count, c.full, count-few hid k.memory, count-has hid k.memory (reached_address w) at, hidden-few hid (get_or k.registers (digit_x w) 0)))

  -- it stays the count
  pub total-counts : IsCount hid (executed_marks d w (mdr_marked 0 k)).memory (total_by hid d w k.memory k.registers t)
  total-counts = let r = counts hid w k c.full d in record { full = r.long ∙ c.full; count = total_by_lem ∙ ap (total_after hid d w k) c.count ∙ r.total }

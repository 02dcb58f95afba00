-- How many words of memory are hidden (02, Change 6): counted, and kept as a total that STORE alone changes. `hid` says which marks hide a value.
-- Assumes nothing.
use Rattle.std.specs.Prelude.{ℕ, ◌+◌, ◌-◌, ◌≡◌, Bool, cond, List, [], ◌∷◌, length, Option, Some}
use Rattle.isa.specs.declared.opcode.Opcode.{Opcode}
use Rattle.isa.specs.Sizes.{memory_words}
use Rattle.isa.specs.declared.opcode.Opcode.TheVariants.{StoreMemory}
use Rattle.isa.specs.Word.{digit_x}
use Rattle.control.specs.Address.{reached_address}
use Rattle.marks.specs.Marks.{Marks, word_mark, register_mark}

-- a total where an instruction is STORE, which alone changes it: what it was, what it becomes
abbrev pub on_store : Option Opcode → ℕ → ℕ → ℕ
on_store (Some StoreMemory) t n = n
on_store _ t n = t

module _ (hid : ℕ → Bool) where
  -- 1 for a mark that hides
  abbrev pub hidden : ℕ → ℕ
  hidden m = cond (hid m) 1 0

  -- the full count: the marks of memory
  unfoldable pub hidden_count : List ℕ → ℕ
  hidden_count [] = 0
  hidden_count (m ∷ l) = hidden m + hidden_count l

  -- the total after the instruction w, decoded, from the marks before it: STORE gives x's mark to the word, whose old one is taken off
  abbrev pub total_after : Option Opcode → ℕ → Marks → ℕ → ℕ
  total_after d w k t = on_store d t (t + hidden (register_mark (digit_x w) k) - hidden (word_mark (reached_address w) k))

-- a total that is the full count of a machine's marks
pub record IsCount (hid : ℕ → Bool) (marks : List ℕ) (total : ℕ) : Type 0 where
  pub full : length marks ≡ memory_words
  pub count : total ≡ hidden_count hid marks

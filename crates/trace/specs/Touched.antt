-- The touched addresses (01, section 3; vm.rs, `bus_write`): each address of a bus write once, in order of first writing.
-- Assumes nothing.
use Rattle.std.specs.Prelude.{◌≡◌, ℕ, ◌<◌, ◌≤◌, Bool, true, false, cond, List, [], ◌∷◌, ◌++◌, length, take, slice_index, Option, Some, None}
use Rattle.isa.specs.Sizes.{memory_words}
use Rattle.encoding.specs.Bytes.{member}
use Rattle.control.specs.declared.control.BusTransfer.{BusTransfer}
use Rattle.control.specs.declared.control.BusTransfer.TheVariants.{Read, Write}

-- the addresses with one more, unless it is there
unfoldable pub noted : ℕ → List ℕ → List ℕ
noted a l = cond (member a l) l (l ++ (a ∷ []))

-- a bus write notes its address, whatever its value
abbrev pub touched_by : Option BusTransfer → List ℕ → List ℕ
touched_by None l = l
touched_by (Some (Read a v)) l = l
touched_by (Some (Write a v)) l = noted a l

-- what a transfer writes to is a word of memory
abbrev pub Addressed : Option BusTransfer → Type 0
Addressed None = Unit {0}
Addressed (Some (Read a v)) = Unit {0}
Addressed (Some (Write a v)) = a < memory_words

-- no address stands there twice
unfoldable pub distinct : List ℕ → Bool
distinct [] = true
distinct (x ∷ xs) = cond (member x xs) false (distinct xs)

-- what the array is between two ticks, n of its places live
pub record TouchFit (n : ℕ) (t : List ℕ) : Type 0 where
  pub count : n ≤ memory_words
  pub long : length t ≡ memory_words
  pub below : (i : ℕ) → slice_index t i < memory_words
  pub differ : distinct (take n t) ≡ true

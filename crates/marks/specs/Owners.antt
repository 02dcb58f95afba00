-- Owners (02, Change 7): a mark is a byte of eight owners, one bit each, and every byte is one. A reader has a clearance, a byte of owners too.
-- Assumes nothing.
use Rattle.std.specs.Prelude.{ℕ, ◌/◌, ◌%◌, ◌^◌, ◌≡◌, Bool, true, false, not, eqb}
use Rattle.std.specs.Int.Bits.{bit_or}

-- owner i is among them
abbrev pub owned : ℕ → ℕ → Bool
owned i o = eqb (o / 2 ^ i % 2) 1

-- the union: what has two sources has the owners of both
abbrev pub joined : ℕ → ℕ → ℕ
joined a b = bit_or a b

-- hidden from a reader: the clearance with the value's owners is more than the clearance
abbrev pub hidden_from : ℕ → ℕ → Bool
hidden_from clearance owners = not (eqb (joined owners clearance) clearance)

-- what that says, owner by owner (`hidden_outside`): the value has one that the clearance lacks
pub record Outside (clearance owners : ℕ) : Type 0 where
  pub owner : ℕ
  pub has : owned owner owners ≡ true
  pub lacks : owned owner clearance ≡ false

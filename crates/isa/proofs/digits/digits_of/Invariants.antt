-- The invariant: of the word's four digits those of the bytes that are left are still zeros.
-- Assumes nothing.
use Prim.Native.Nat.{ℕ, zero, suc, ◌/◌}
use mathlib.Core.Path.{◌≡◌}
use mathlib.Core.List.{List, [], ◌∷◌}
use Rattle.isa.specs.Format.{hex_digit, hex4}
use Rattle.isa.specs.Word.{digit_y, digit_z}
use Rattle.isa.proofs.digits.digits_of.Given as goal

-- what is held where so many bytes are left
abbrev pub Turned : ℕ → ℕ → List ℕ → ℕ → Type 0
Turned w zero digits rest = digits ≡ hex4 w
Turned w (suc zero) digits rest = (digits ≡ 0 ∷ 0 ∷ hex_digit (digit_y w) ∷ hex_digit (digit_z w) ∷ []) × (rest ≡ w / 256)
Turned w (suc (suc zero)) digits rest = (digits ≡ 0 ∷ 0 ∷ 0 ∷ 0 ∷ []) × (rest ≡ w)
Turned w (suc (suc (suc n))) digits rest = ⊥

abbrev pub invariant-loop-left : goal.invariant-loop-left
invariant-loop-left l = Turned l.word l.left l.digits l.rest

abbrev pub decreases-loop-left : goal.decreases-loop-left
decreases-loop-left l = l.left

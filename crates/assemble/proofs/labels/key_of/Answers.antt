use Prim.Native.Nat.{ℕ, ◌≤◌}
use native.Mathlib.Omega.{arith}
use mathlib.Core.List.{List, [], ◌∷◌, ◌++◌}
use mathlib.Core.Path.{◌≡◌, refl, ◌∙◌}
use lib.ListN.{length, drop, replicate}
use Rattle.std.specs.Int.{w64, from_le_bytes}
use Rattle.assemble.specs.Assembly.{key}
use Rattle.assemble.proofs.labels.key_of.Goals as goal

-- the bytes of a label, and zeros behind them
key-bytes : (l : List ℕ) → length l ≤ 7 → from_le_bytes w64 (l ++ drop (length l) (replicate 8 0)) ≡ key l
unfolding key
key-bytes [] h = refl
key-bytes (a ∷ []) h = omega arith
key-bytes (a ∷ b ∷ []) h = omega arith
key-bytes (a ∷ b ∷ c ∷ []) h = omega arith
key-bytes (a ∷ b ∷ c ∷ d ∷ []) h = omega arith
key-bytes (a ∷ b ∷ c ∷ d ∷ e ∷ []) h = omega arith
key-bytes (a ∷ b ∷ c ∷ d ∷ e ∷ f ∷ []) h = omega arith
key-bytes (a ∷ b ∷ c ∷ d ∷ e ∷ f ∷ g ∷ []) h = omega arith
key-bytes (a ∷ b ∷ c ∷ d ∷ e ∷ f ∷ g ∷ x ∷ l) h = absurd (omega arith)

pub returns : goal.returns
returns c = (rw c.copy_from_slice.ensures.after at c.from_le_bytes.ensures) ∙ key-bytes c.args.l.now c.requires

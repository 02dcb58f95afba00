-- `touched` after an undo (01, section 7): the addresses where memory and image differ, ascending.
-- Assumes nothing.
use Rattle.std.specs.Prelude.{ℕ, suc, ◌≤◌, ◌<◌, cond, List, [], ◌∷◌, eqb, length}
use Rattle.isa.specs.Sizes.{memory_words}
use Rattle.isa.specs.Text.{padded}
use Rattle.history.specs.declared.differing.Differences.{Differences}

-- the addresses at which the two differ, those of their first words being i
unfoldable pub differ : ℕ → List ℕ → List ℕ → List ℕ
differ i [] ys = []
differ i (x ∷ xs) [] = []
differ i (x ∷ xs) (y ∷ ys) = cond (eqb x y) (differ (suc i) xs ys) (i ∷ differ (suc i) xs ys)

-- in an array, zeros behind them; and how many there are
unfoldable pub differences_of : List ℕ → List ℕ → Differences
differences_of image memory = record { addresses = padded memory_words (differ 0 image memory); count = length (differ 0 image memory) }

-- each is at least `low` and below `high`, and larger than the one before it
abbrev pub Ascending : ℕ → ℕ → List ℕ → Type 0
Ascending low high [] = Unit {0}
Ascending low high (x ∷ xs) = (low ≤ x) × ((x < high) × Ascending (suc x) high xs)

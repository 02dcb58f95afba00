-- `member` is the library's test of each element.
-- Assumes nothing.
use Prim.Native.Nat.{ℕ}
use mathlib.Core.Path.{◌≡◌, refl}
use mathlib.Core.Bool.{Bool, true, false, cond, ◌||◌}
use mathlib.Core.List.{List, [], ◌∷◌}
use lib.Dec.{eqb}
use Rattle.std.specs.List.{list_any}
use Rattle.encoding.specs.Bytes.{member}

by_first : (v r : Bool) → (v || r) ≡ cond v true r
by_first true r = refl
by_first false r = refl

pub any-member : (a : ℕ) (l : List ℕ) → list_any (λ (b : ℕ). eqb b a) l ≡ member a l
unfolding member
any-member a [] = refl
any-member a (b ∷ l) = rw (any-member a l) (by_first (eqb b a) (member a l))

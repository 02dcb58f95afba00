-- The laws of templates (`specs/Format.antt`).
-- Assumes nothing.
use Prim.Native.Nat.{ℕ, ◌≤◌}
use mathlib.Core.Path.{◌≡◌, ap, ◌∙◌}
use mathlib.Core.List.{List}
use lib.ListN.{length, get_or, take, length-map, get_or-map}
use lib.Seq.{take_all}
use Rattle.isa.specs.Text.{Text, text}
use Rattle.isa.specs.Format.{hex4, fill, fill_byte}

pub length-fill : (w : ℕ) (s : List ℕ) → length (fill w s) ≡ length s
unfolding fill
length-fill w s = length-map s (fill_byte (hex4 w))

pub get_d_fill : (w : ℕ) (s : List ℕ) (i : ℕ) → get_or (fill w s) i 0 ≡ fill_byte (hex4 w) (get_or s i 0)
unfolding fill
get_d_fill w s i = get_or-map (fill_byte (hex4 w)) s i 0

-- the text of a template that a text has room for
pub filled_whole : (w : ℕ) (s : List ℕ) {r : Text} → length s ≤ 32 → r ≡ text (take 32 (fill w s)) → r ≡ text (fill w s)
filled_whole w s h e = e ∙ ap text (take_all 32 (fill w s) (rw length-fill h))

-- The template for hexadecimal numbers: its end, from a place on.
-- Assumes nothing.
use Prim.Native.Nat.{ℕ, zero, suc, ◌-◌}
use Prim.Native.Char.{code}
use native.Mathlib.Omega.{arith}
use mathlib.Core.Path.{◌≡◌, refl, ap, ◌∙◌}
use mathlib.Core.List.{List, [], ◌∷◌, ◌++◌, map}
use lib.ListN.{length, take, drop, replicate, length-drop}
use lib.Seq.{take_all}
use Rattle.isa.specs.Text.{ascii}
use Rattle.isa.specs.Format.{hex4, fill, fill_byte}
use Rattle.isa.proofs.Fills.{length-fill}
use Rattle.notation.specs.Notation.{hex_width, format_hex}

-- a part of a template
drop-map : (f : ℕ → ℕ) (k : ℕ) (s : List ℕ) → map f (drop k s) ≡ drop k (map f s)
drop-map f zero s = refl
drop-map f (suc k) [] = refl
drop-map f (suc k) (x ∷ s) = drop-map f k s

fill-drop : (w k : ℕ) (s : List ℕ) → fill w (drop k s) ≡ drop k (fill w s)
unfolding fill
fill-drop w k s = drop-map (fill_byte (hex4 w)) k s

filled_zeros : (w : ℕ) → fill w (ascii "0000000000000000000000000000Wxyz") ≡ replicate 28 (code "0") ++ hex4 w
unfolding fill
filled_zeros w = refl

-- the end of the template for hexadecimal numbers, from a place on
pub hex_part : (w digits n : ℕ) → n ≡ hex_width w digits
    → take 32 (fill w (take (32 - (32 - n)) (drop (32 - n) (ascii "0000000000000000000000000000Wxyz")))) ≡ format_hex w digits
unfolding format_hex
hex_part w digits n e =
    let t : List ℕ = ascii "0000000000000000000000000000Wxyz" in
    let k : ℕ = 32 - n in
    let l : length (drop k t) ≡ 32 - k = length-drop k t in
    let m : length (fill w (drop k t)) ≡ 32 - k = length-fill w (drop k t) ∙ l in
    rw (take_all (32 - k) (drop k t) (omega arith), take_all 32 (fill w (drop k t)) (omega arith), fill-drop w k t, ← e)
    (ap (drop k) (filled_zeros w))

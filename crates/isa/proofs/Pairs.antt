-- The table of digit pairs: its rule, tested over the whole table and carried to each byte; and the digits of a byte in a word.
-- Assumes nothing.
use Prim.Native.Nat.{ℕ, ◌+◌, ◌*◌, ◌/◌, ◌%◌, ◌<◌}
use native.Mathlib.Omega.{arith}
use native.Mathlib.Nat.{div-div-eq-div-mul, div-add-mod'}
use mathlib.Core.Path.{◌≡◌, refl, ap, ◌∙◌}
use mathlib.Core.Bool.{Bool, true, ◌&&◌}
use mathlib.Core.List.{List}
use borrow.Author.Tests.{eqb-true}
use lib.Dec.{eqb}
use lib.ListN.{get_or}
use Rattle.isa.specs.Format.{hex_digit, digit_pair, entry_of}
use Rattle.isa.specs.Word.{digit_y, digit_z}
use Rattle.isa.proofs.Truths.{both, below, tested}

-- a byte's entry is its two digits
abbrev pub ruled : List ℕ → ℕ → Bool
ruled pairs b = eqb (get_or pairs b 0) (digit_pair b)

-- the rule of every entry, where the whole table passes the test. `entry_of` stays closed at a use, so that the table is found in what was read and
-- need not be written a second time
pub each_pair : (pairs : List ℕ) (b : ℕ) {r : ℕ} → b < 256 → r ≡ entry_of pairs (b / 16 * 16 + b % 16) → below (ruled pairs) 256 ≡ true → r ≡ digit_pair b
unfolding entry_of
each_pair pairs b h e t =
    let d : b / 16 * 16 + b % 16 ≡ b = div-add-mod' b 16 in
    rw d at e ∙ eqb-true (get_or pairs b 0) (digit_pair b) (tested (ruled pairs) 256 t b h)

-- the halves of a pair are the digits
abbrev halved : ℕ → Bool
halved b = eqb (digit_pair b / 256) (hex_digit (b / 16)) && eqb (digit_pair b % 256) (hex_digit (b % 16))

each_half : below halved 256 ≡ true
unfolding digit_pair
each_half = refl

-- the last two digits of a word are its low byte's
last_digits : (w : ℕ) → (w % 256 / 16 ≡ digit_y w) × (w % 256 % 16 ≡ digit_z w)
last_digits w =
    let a : w / 16 / 16 ≡ w / 256 = div-div-eq-div-mul w 16 16 in
    let p : w / 16 * 16 + w % 16 ≡ w = div-add-mod' w 16 in
    let q : w / 256 * 16 + w / 16 % 16 ≡ w / 16 = rw a at (div-add-mod' (w / 16) 16) in
    let r : w / 256 * 256 + w % 256 ≡ w = div-add-mod' w 256 in
    let s : w % 256 / 16 * 16 + w % 256 % 16 ≡ w % 256 = div-add-mod' (w % 256) 16 in
    (omega (arith, p, q, r, s), omega (arith, p, q, r, s))

pub low_pair : (w : ℕ) {p : ℕ} → p ≡ digit_pair (w % 256) → (p / 256 ≡ hex_digit (digit_y w)) × (p % 256 ≡ hex_digit (digit_z w))
low_pair w e =
    let b : ℕ = w % 256 in
    let t = both (eqb (digit_pair b / 256) (hex_digit (b / 16))) (eqb (digit_pair b % 256) (hex_digit (b % 16))) (tested halved 256 each_half b (omega arith)) in
    let d = last_digits w in (
      rw e (eqb-true (digit_pair b / 256) (hex_digit (b / 16)) t.0 ∙ ap hex_digit d.0),
      rw e (eqb-true (digit_pair b % 256) (hex_digit (b % 16)) t.1 ∙ ap hex_digit d.1),
    )

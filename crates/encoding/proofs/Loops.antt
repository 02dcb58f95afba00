-- A turn of each loop of the code that has no law elsewhere, and its end. Assumes nothing.
use mathlib.Core.Path.{◌≡◌, ap, ◌∙◌}
use mathlib.Core.List.{List, ◌∷◌, ◌++◌, append_assoc, append-nil}
use Prim.Native.Nat.{ℕ, suc, ◌+◌, ◌-◌, ◌*◌, ◌/◌, ◌%◌, ◌^◌, ◌≤◌, ◌<◌}
use native.Mathlib.Nat.{add-zero, le-add_right, pow-le-pow_right}
use native.Mathlib.Numerals.{add-one}
use native.Mathlib.Omega.{arith}
use lib.Dec.{lit<}
use lib.ListN.{length, take, drop, set, get_or, length-append, length-set}
use lib.Seq.{drop-cons, drop-drop, take-set-le, drop-set-lt, get_or-set_same, take-suc-set, get_or-drop, append_snoc, take_all, paste, take-length}
use Rattle.encoding.specs.Bytes.{over, big_endian, number, numbers}
use Rattle.encoding.proofs.Numbers.{length-big_endian, byte_more}

-- a copy that is done
pub paste-over : (d : List ℕ) (at : ℕ) (s : List ℕ) (i : ℕ) → i ≡ length s → paste d at s i ≡ over d at s
unfolding over
paste-over d at s i e = rw (e, take-length, append_assoc)

-- ---- a number's digits

put_step : (d : List ℕ) (at i m : ℕ) → at + i < length d → over (set d (at + i) (m % 256)) at (big_endian i (m / 256)) ≡ over d at (big_endian (suc i) m)
unfolding over big_endian
put_step d at i m h =
    let x : ℕ = m % 256 in
    let behind : drop (at + i) (set d (at + i) x) ≡ x ∷ drop (suc (at + i)) d =
    drop-cons (set d (at + i) x) (at + i) 0 (rw length-set h) ∙ rw (get_or-set_same, drop-set-lt (suc (at + i)) d (at + i) x (omega arith)) in
    let e : suc (at + i) ≡ at + (i + 1) = omega arith in
    rw (take-set-le at d (at + i) x (le-add_right at i), length-big_endian i (m / 256), behind, length-append, length-big_endian i (m / 256), append_assoc)
    (ap (λ (k : ℕ). take at d ++ (big_endian i (m / 256) ++ (x ∷ drop k d))) e)

-- written from the low byte up
pub put_turn : (d : List ℕ) (at w i m : ℕ) → i < w → at + w ≤ length d
    → over (set d (at + w - 1 - i) (m % 256)) at (big_endian (w - (i + 1)) (m / 256)) ≡ over d at (big_endian (w - i) m)
put_turn d at w i m p h =
    let j : ℕ = w - (i + 1) in
    let e : at + w - 1 - i ≡ at + j = omega arith in
    let f : suc j ≡ w - i = omega arith in
    rw e (put_step d at j m (omega arith) ∙ ap (λ (k : ℕ). over d at (big_endian k m)) f)

-- read from the high byte down
pub number-turn : (d : List ℕ) (at i r : ℕ) → r ≡ number i (drop at d) → r * 256 + get_or d (at + i) 0 ≡ number (i + 1) (drop at d)
unfolding number
number-turn d at i r e = rw (add-one, get_or-drop, e)

pub below-turn : (i r b : ℕ) → r < 256 ^ i → b < 256 → r * 256 + b < 256 ^ (i + 1)
below-turn i r b h k = rw add-one (byte_more i r b h k)

-- a number of fewer than eight bytes leaves room for one more
pub room : (i : ℕ) → i < 8 → 256 ^ i ≤ 72057594037927936
room i h = pow-le-pow_right (lit< tt) {j = 7} (omega arith)

-- ---- numbers read one after the other

-- a word in its two bytes
pub word_at : (d : List ℕ) (k : ℕ) → get_or d k 0 * 256 + get_or d (k + 1) 0 ≡ number 2 (drop k d)
unfolding number
word_at d k = rw (get_or-drop k d 0 0, get_or-drop k d 1 0, add-zero) (omega arith)

pub numbers-turn : (w : ℕ) (d out : List ℕ) (at i k : ℕ) → i < length out
    → take (i + 1) (set out i (number w (drop (at + w * i) d))) ++ numbers w k (drop (at + w * (i + 1)) d) ≡ take i out ++ numbers w (suc k) (drop (at + w * i) d)
unfolding numbers
numbers-turn w d out at i k h =
    let e : at + w * suc i ≡ at + w * i + w = omega arith in
    rw (add-one, take-suc-set out i (number w (drop (at + w * i) d)) h, drop-drop, e) (append_snoc (take i out) (number w (drop (at + w * i) d)) (numbers w k (drop (at + w * i + w) d)))

pub numbers-done : (w : ℕ) (d out : List ℕ) (i n : ℕ) → i ≡ n → length out ≡ n → take i out ++ numbers w (n - i) d ≡ out
unfolding numbers
numbers-done w d out i n e l =
    let z : n - i ≡ 0 = omega arith in
    rw (z, append-nil, take_all i out (omega arith))

-- The laws of `specs/Line.antt`: the digits that `io::decimal` makes of a number, and the pieces of a line that the code puts one behind the other.
-- Assumes nothing.
use Prim.Native.Nat.{ℕ, zero, suc, ◌+◌, ◌-◌, ◌*◌, ◌/◌, ◌%◌, ◌^◌, ◌≤◌, ◌<◌}
use native.Mathlib.Nat.{pow-suc, pow-le-pow_right}
use native.Mathlib.Omega.{arith}
use mathlib.Core.Path.{◌≡◌, refl, sym, ap, ◌∙◌}
use mathlib.Core.Bool.{Bool, true, false}
use mathlib.Core.List.{List, [], ◌∷◌, ◌++◌}
use borrow.Author.Tests.{lt-ltb, le-ltb, leb-true, leb-false}
use lib.Dec.{leb, lit<}
use lib.ListN.{length, take, length-append}
use Rattle.io.specs.Digits.{last_digits, IsDigitCount}
use Rattle.isa.specs.Format.{decimal}
use Rattle.encoding.specs.Bytes.{over, written}
use Rattle.encoding.proofs.Written.{over-over, take-over, writtens_eq}

-- a number of 64 bits has 20 digits at most
pub few : (n k : ℕ) → n < 2 ^ 64 → IsDigitCount 10 1 n k → k ≤ 20
few n k small f = go (leb k 20) refl
  where
    go : (b : Bool) → leb k 20 ≡ b → k ≤ 20
    go true e = leb-true k 20 e
    go false e =
        let more : 20 < k = leb-false k 20 e in
        let g : 10 ^ (k - 1) ≤ n = f.2 (omega arith) in
        let p : 10 ^ 20 ≤ 10 ^ (k - 1) = pow-le-pow_right (lit< tt) {i = 20} {j = k - 1} (omega arith) in
        absurd (omega arith)

at_least : (k n : ℕ) → IsDigitCount 10 1 n (suc (suc k)) → 10 ^ suc k ≤ n
at_least k n f =
    let e : suc (suc k) - 1 ≡ suc k = omega arith in
    rw e at (f.2 (omega arith))

-- ten times as small, and one digit less
tenth : (k n : ℕ) → IsDigitCount 10 1 n (suc (suc k)) → IsDigitCount 10 1 (n / 10) (suc k)
tenth k n f =
    let a : 10 ^ suc (suc k) ≡ 10 ^ suc k * 10 = pow-suc 10 (suc k) in
    let b : 10 ^ suc k ≡ 10 ^ k * 10 = pow-suc 10 k in
    let e : suc k - 1 ≡ k = omega arith in
    let g : 10 ^ suc k ≤ n = at_least k n f in
    (omega arith, omega (arith, f.1), λ h. rw e (omega arith))

-- the fewest digits of n, where they are no more than j
digits_in : (j k n : ℕ) → IsDigitCount 10 1 n k → k ≤ j → last_digits 10 k n ≡ decimal j n
unfolding decimal
digits_in j zero n f h = absurd (omega (arith, f.0))
digits_in zero (suc k) n f h = absurd (omega arith)
digits_in (suc j) (suc zero) n f h =
    let l : n < 10 = f.1 in
    let e : n % 10 ≡ n = omega arith in
    rw (e, lt-ltb n 10 l)
digits_in (suc j) (suc (suc k)) n f h =
    let g : 10 ^ suc k ≤ n = at_least k n f in
    let p : 10 ^ 1 ≤ 10 ^ suc k = pow-le-pow_right (lit< tt) {i = 1} {j = suc k} (omega arith) in
    let r : last_digits 10 (suc k) (n / 10) ≡ decimal j (n / 10) = digits_in j (suc k) (n / 10) (tenth k n f) (omega arith) in
    rw (r, lt-ltb (n % 10) 10 (omega arith), le-ltb n 10 (omega arith))

length_digits : (b k n : ℕ) → length (last_digits b k n) ≡ k
length_digits b zero n = refl
length_digits b (suc k) n = length-append (last_digits b k (n / b)) _ ∙ rw (length_digits b k (n / b)) (omega arith)

-- ds are the k digits of n
module _ (n : ℕ) {k : ℕ} {ds : List ℕ} (small : n < 2 ^ 64) (f : IsDigitCount 10 1 n k) (e : ds ≡ last_digits 10 k n) where
  is_decimal : ds ≡ decimal 20 n
  is_decimal = e ∙ digits_in 20 k n f (few n k small f)

  pub count : length (decimal 20 n) ≡ k
  count = sym (ap length is_decimal) ∙ ap length e ∙ length_digits 10 k n

  -- they, and a text behind them
  pub numbered : (d t : List ℕ) (at : ℕ) {o₁ o₂ : List ℕ} → at + (20 + length t) ≤ length d → o₁ ≡ written d at ds → o₂ ≡ written o₁ (at + k) t → o₂ ≡ over d at (decimal 20 n ++ t)
  numbered d t at h c₁ c₂ =
      let s : k ≤ 20 = few n k small f in
      c₂ ∙ rw (c₁, is_decimal)
      (writtens_eq d at ((k, decimal 20 n) ∷ (length t, t) ∷ []) (count, (refl, tt)) (omega arith))

-- a line of two pieces, made in `d`: the bytes up to its end are the line
pub two_pieces : (d a b : List ℕ) (at : ℕ) {o₁ o₂ t : List ℕ} {size : ℕ} → at ≡ length a → at ≤ length d → o₁ ≡ over d 0 a → o₂ ≡ over o₁ at b → size ≡ at + length b → t ≡ take size o₂ → t ≡ a ++ b
two_pieces d a b at {o₁} {o₂} {t} {size} m h c₁ c₂ s e =
    let l : size ≡ length (a ++ b) = s ∙ rw m (sym (length-append a b)) in
    let o : o₂ ≡ over d 0 (a ++ b) = c₂ ∙ rw c₁ (over-over d 0 a b at (omega arith) (omega arith)) in
    e ∙ rw (l, o) (take-over d (a ++ b))

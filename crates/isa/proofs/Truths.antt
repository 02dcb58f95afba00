-- Two tests that both hold; one test of all numbers below n, computed once, which holds of each, so that a table's rule is proved by computing;
-- and the last number of a match.
-- Assumes nothing.
use Prim.Native.Nat.{ℕ, zero, suc, ◌<◌}
use native.Mathlib.Omega.{arith}
use mathlib.Core.Path.{◌≡◌, refl, sym}
use mathlib.Core.Bool.{Bool, true, false, ◌&&◌, true≢false}
use borrow.Author.Tests.{eqb-true, eqb-false}
use lib.Dec.{eqb}

pub both : (a b : Bool) → a && b ≡ true → (a ≡ true) × (b ≡ true)
both true b e = (refl, e)
both false b e = absurd (true≢false (sym e))

-- f holds of every number below n
abbrev pub below : (ℕ → Bool) → ℕ → Bool
below f zero = true
below f (suc n) = f n && below f n

pub tested : (f : ℕ → Bool) (n : ℕ) → below f n ≡ true → (k : ℕ) → k < n → f k ≡ true
tested f zero e k h = absurd (omega arith)
tested f (suc n) e k h = go (eqb k n) refl (λ p. tested f n (both (f n) (below f n) e).1 k p)
  where
    go : (v : Bool) → eqb k n ≡ v → (k < n → f k ≡ true) → f k ≡ true
    go true q r = rw (eqb-true k n q) (both (f n) (below f n) e).0
    go false q r = let z : k ≡ n → ⊥ = eqb-false k n q in r (omega arith)

-- k is none of the numbers below n: what a match that names them leaves for its last arm
abbrev pub Others : ℕ → ℕ → Type 0
Others k zero = Unit {0}
Others k (suc n) = Others k n × (k ≡ n → ⊥)

pub last_arm : (n k : ℕ) → Others k n → k < suc n → k ≡ n
last_arm zero k h l = omega arith
last_arm (suc n) k h l = go (eqb k (suc n)) refl (λ p. last_arm n k h.0 p)
  where
    go : (v : Bool) → eqb k (suc n) ≡ v → (k < suc n → k ≡ n) → k ≡ suc n
    go true q r = eqb-true k (suc n) q
    go false q r = let z : k ≡ suc n → ⊥ = eqb-false k (suc n) q in absurd (h.1 (r (omega arith)))

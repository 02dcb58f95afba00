-- The small laws of values under marks: two lists that are the same wherever no mark hides stay so under reads and writes.
-- Assumes nothing.
use Prim.Native.Nat.{ℕ, zero, suc, ◌<◌}
use native.Mathlib.Nat.{suc_inj}
use native.Mathlib.Omega.{arith}
use mathlib.Core.Path.{◌≡◌, refl, ap, ap₂, sym, ◌∙◌}
use mathlib.Core.Bool.{Bool, true, false, cond}
use mathlib.Core.List.{List, [], ◌∷◌}
use lib.ListN.{length, get_or, set}
use Rattle.marks.specs.Owners.{joined}
use Rattle.secret.proofs.Levels.{Twin, Twins, nil, cons, Joins}

module _ {hid : ℕ → Bool} where
  pub twin_refl : {m a : ℕ} → Twin hid m a a
  twin_refl = record { seen = λ p. refl }

  pub twin_map : (f : ℕ → ℕ) {m a b : ℕ} → Twin hid m a b → Twin hid m (f a) (f b)
  twin_map f t = record { seen = λ p. ap f (t.seen p) }

  -- the mark of what is opened where it is 0 in both
  pub twin_cleared : (c : Bool) {m a b : ℕ} → (c ≡ true → a ≡ 0) → (c ≡ true → b ≡ 0) → Twin hid m a b → Twin hid (cond c 0 m) a b
  twin_cleared true e f t = record { seen = λ p. e refl ∙ sym (f refl) }
  twin_cleared false e f t = t

  pub twins_get : {k v w : List ℕ} → Twins hid k v w → (i : ℕ) → Twin hid (get_or k i 0) (get_or v i 0) (get_or w i 0)
  twins_get nil i = twin_refl
  twins_get (cons t r) zero = t
  twins_get (cons t r) (suc i) = twins_get r i

  pub twins_set : {k v w : List ℕ} → Twins hid k v w → (i : ℕ) {m a b : ℕ} → Twin hid m a b → Twins hid (set k i m) (set v i a) (set w i b)
  twins_set nil i p = nil
  twins_set (cons t r) zero p = cons p r
  twins_set (cons t r) (suc i) p = cons t (twins_set r i p)

  pub twins_of : (k v w : List ℕ) → length v ≡ length k → length w ≡ length k
      → ((i : ℕ) → i < length k → Twin hid (get_or k i 0) (get_or v i 0) (get_or w i 0)) → Twins hid k v w
  twins_of [] [] [] p q h = nil
  twins_of [] [] (b ∷ w) p q h = absurd (omega arith)
  twins_of [] (a ∷ v) w p q h = absurd (omega arith)
  twins_of (m ∷ k) [] w p q h = absurd (omega arith)
  twins_of (m ∷ k) (a ∷ v) [] p q h = absurd (omega arith)
  twins_of (m ∷ k) (a ∷ v) (b ∷ w) p q h = cons (h 0 (omega arith)) (twins_of k v w (suc_inj p) (suc_inj q) (λ i l. h (suc i) (omega arith)))

-- a value of two sources, under the joined mark
pub twin_join : {hid : ℕ → Bool} → Joins hid → (f : ℕ → ℕ → ℕ) {m n a b c d : ℕ} → Twin hid m a b → Twin hid n c d → Twin hid (joined m n) (f a c) (f b d)
twin_join J f {m} {n} s t = record { seen = λ p. ap₂ f (s.seen (J.both m n p).0) (t.seen (J.both m n p).1) }

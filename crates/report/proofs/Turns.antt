-- A loop that writes n records of w bytes, record i at the place of number i: with the records that are left written too, the buffer is what it is to be.
-- Assumes nothing.
use Prim.Native.Nat.{ℕ, suc, ◌+◌, ◌*◌, ◌-◌, ◌≤◌, ◌<◌}
use native.Mathlib.Nat.{add-zero, sub-zero, mul-zero, mul-le-mul_left}
use native.Mathlib.Omega.{arith}
use mathlib.Core.Path.{◌≡◌, refl, sym, ◌∙◌}
use mathlib.Core.List.{List}
use lib.ListN.{length}
use Rattle.encoding.specs.Bytes.{over, each_from}
use Rattle.encoding.proofs.Written.{length_over, each_turn, each_done}

-- before turn i: the bytes of a record by its number, the buffer before the loop, where the first stands, and the buffer
abbrev pub Rows : ℕ → (ℕ → List ℕ) → ℕ → List ℕ → ℕ → ℕ → List ℕ → Type 0
Rows w f n d at i o = (length o ≡ length d) × (over o (at + w * i) (each_from f i (n - i)) ≡ over d at (each_from f 0 n))

module _ (w : ℕ) (f : ℕ → List ℕ) (n : ℕ) (d : List ℕ) (at : ℕ) where
  pub rows_first : Rows w f n d at 0 d
  rows_first = (refl, rw (mul-zero, add-zero, sub-zero))

  pub rows_turn : (i : ℕ) (o : List ℕ) {p : List ℕ} → length (f i) ≡ w → i < n → at + w * n ≤ length d → Rows w f n d at i o → p ≡ over o (at + w * i) (f i) → Rows w f n d at (i + 1) p
  rows_turn i o {p} l h k r e =
      let m : w * suc i ≤ w * n = mul-le-mul_left w h in
      let s : length p ≡ length o = rw e (length_over o (at + w * i) (f i) (omega arith)) in
      (s ∙ r.0, rw e (each_turn w f o at i n l h (omega arith)) ∙ r.1)

  pub rows_last : (i : ℕ) (o : List ℕ) → i ≡ n → Rows w f n d at i o → o ≡ over d at (each_from f 0 n)
  rows_last i o e r = sym (each_done f o (at + w * i) i n e) ∙ r.1

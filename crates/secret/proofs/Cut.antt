-- Cutting equal bytes into equal parts: appends at equal lengths, numbers, rows of records.
-- Assumes nothing.
use mathlib.Core.Path.{◌≡◌, refl, sym, ap, ◌∙◌}
use mathlib.Core.List.{List, [], ◌∷◌, ◌++◌}
use Prim.Native.Nat.{ℕ, zero, suc, ◌+◌, ◌^◌, ◌≤◌, ◌<◌}
use native.Mathlib.Nat.{suc_inj}
use native.Mathlib.Omega.{arith}
use native.Mathlib.Decide.{ℕ_discrete}
use lib.ListN.{length}
use Rattle.encoding.specs.Bytes.{big_endian, number, each_from}
use Rattle.encoding.proofs.Numbers.{length-big_endian, number-big_endian}
use Rattle.encoding.proofs.Written.{length_each}

pub append_cut : (a b : List ℕ) {c d : List ℕ} → length a ≡ length b → a ++ c ≡ b ++ d → (a ≡ b) × (c ≡ d)
append_cut [] [] h e = (refl, e)
append_cut [] (y ∷ b) h e = absurd (omega arith)
append_cut (x ∷ a) [] h e = absurd (omega arith)
append_cut (x ∷ a) (y ∷ b) {c} {d} h e =
    let p : x ≡ y = cc in
    let t : a ++ c ≡ b ++ d = cc in
    let r : (a ≡ b) × (c ≡ d) = append_cut a b (suc_inj h) t in
    (cc, r.1)

-- numbers that fit are told apart by their bytes
pub number_same : (w x y : ℕ) → x < 256 ^ w → y < 256 ^ w → big_endian w x ≡ big_endian w y → x ≡ y
number_same w x y p q e = sym (number-big_endian w x [] p) ∙ ap (λ (l : List ℕ). number w (l ++ [])) e ∙ number-big_endian w y [] q

-- and whatever stands behind them
pub number_cut : (w x y : ℕ) {c d : List ℕ} → x < 256 ^ w → y < 256 ^ w → big_endian w x ++ c ≡ big_endian w y ++ d → (x ≡ y) × (c ≡ d)
number_cut w x y p q e =
    let r = append_cut (big_endian w x) (big_endian w y) (length-big_endian w x ∙ sym (length-big_endian w y)) e in
    (number_same w x y p q r.0, r.1)

module _ (f g : ℕ → List ℕ) where
  -- equal records make equal rows
  pub each_same : (i k : ℕ) → ((j : ℕ) → j < i + k → f j ≡ g j) → each_from f i k ≡ each_from g i k
  unfolding each_from
  each_same i zero h = refl
  each_same i (suc k) h = rw (h i (omega arith), each_same (suc i) k (λ j l. h j (omega arith)))

  -- equal rows of records of one length have equal records
  module _ (w : ℕ) (lf : (j : ℕ) → length (f j) ≡ w) (lg : (j : ℕ) → length (g j) ≡ w) where
    pub each_cut : (i k : ℕ) → each_from f i k ≡ each_from g i k → (j : ℕ) → i ≤ j → j < i + k → f j ≡ g j
    unfolding each_from
    each_cut i zero e j h l = absurd (omega arith)
    each_cut i (suc k) e j h l =
        let c : (f i ≡ g i) × (each_from f (suc i) k ≡ each_from g (suc i) k) = append_cut (f i) (g i) (lf i ∙ sym (lg i)) e in
        let later : suc i ≤ j → f j ≡ g j = λ p. each_cut (suc i) k c.1 j p (omega arith) in
        at (ℕ_discrete j i) later c.0
      where
        at : Dec (j ≡ i) → (suc i ≤ j → f j ≡ g j) → f i ≡ g i → f j ≡ g j
        at (yes p) later first = rw p first
        at (no p) later first = later (omega arith)

    -- a whole row in front of something else
    pub row_cut : (n : ℕ) {c d : List ℕ} → each_from f 0 n ++ c ≡ each_from g 0 n ++ d → ((j : ℕ) → j < n → f j ≡ g j) × (c ≡ d)
    row_cut n e =
        let r = append_cut (each_from f 0 n) (each_from g 0 n) (length_each w f 0 n lf ∙ sym (length_each w g 0 n lg)) e in
        (λ j l. each_cut 0 n r.0 j (omega arith) (omega arith), r.1)

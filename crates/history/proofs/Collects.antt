-- A loop that collects numbers in an array with a count: its state, and a turn with and without a find. Assumes nothing.
use mathlib.Core.Path.{◌≡◌, refl, sym, ap, ◌∙◌}
use mathlib.Core.Bool.{Bool, true, false, cond}
use mathlib.Core.List.{List, [], ◌∷◌, ◌++◌, append_assoc, append-nil}
use Prim.Native.Nat.{ℕ, zero, suc, ◌+◌, ◌-◌, ◌≤◌, ◌<◌}
use native.Mathlib.Numerals.{add-one}
use native.Mathlib.Omega.{arith}
use borrow.Author.Tests.{eq-eqb, ne_eqb}
use Rattle.std.proofs.Math.Nat.{suc-ne-zero}
use mathlib.Core.Logic.{◌⊎◌, inl, inr}
use lib.Dec.{eqb, lit<}
use lib.ListN.{length, take, set, get_or, replicate, length-append}
use lib.Seq.{set_at, take-append_seam}
use Rattle.isa.specs.Sizes.{memory_words}
use Rattle.isa.specs.Text.{padded}
use Rattle.isa.proofs.Texts.{length-padded}
use Rattle.history.specs.Differences.{differ, differences_of, Ascending}

-- the array holds the numbers found so far, zeros behind them; with what is left to find they are all
pub record Found (n : ℕ) (array : List ℕ) (count : ℕ) (left all : List ℕ) : Type 0 where
  pub so_far : List ℕ
  pub array_is : array ≡ padded n so_far
  pub count_is : count ≡ length so_far
  pub all_is : so_far ++ left ≡ all

pub found_none : (n : ℕ) (all : List ℕ) → Found n (replicate n 0) 0 all all
unfolding padded
found_none n all = record { so_far = []; array_is = ap (λ (k : ℕ). replicate k 0) e; count_is = refl; all_is = refl }
  where
    e : n ≡ n - 0
    e = omega arith

pub found-more : (n : ℕ) {array : List ℕ} {count x : ℕ} {left all : List ℕ} → count < n → Found n array count (x ∷ left) all → Found n (set array count x) (count + 1) left all
unfolding padded
found-more n {array} {count} {x} {left} {all} h f =
    let p : List ℕ = f.so_far in
    let c : count ≡ length p = f.count_is in
    let k : n - length p ≡ suc (n - suc (length p)) = omega arith in
    let l : length (p ++ (x ∷ [])) ≡ suc (length p) = length-append p (x ∷ []) ∙ add-one (length p) in
    record {
      so_far = p ++ (x ∷ []);
      array_is = rw (f.array_is, k, set_at p 0 (replicate (n - suc (length p)) 0) x count (sym c), l) (sym (append_assoc p (x ∷ []) (replicate (n - suc (length p)) 0)));
      count_is = omega arith;
      all_is = append_assoc p (x ∷ []) left ∙ f.all_is;
    }

pub found_all : (n : ℕ) {array : List ℕ} {count : ℕ} {all : List ℕ} → Found n array count [] all → (array ≡ padded n all) × (count ≡ length all)
found_all n {array} {count} {all} f =
    let e : f.so_far ≡ all = sym (append-nil f.so_far) ∙ f.all_is in
    (f.array_is ∙ ap (padded n) e, f.count_is ∙ ap length e)

-- what is left, by whether the two differ in their first words
module _ {i j k : ℕ} {xs ys us vs : List ℕ} {x y : ℕ} (xs_is : xs ≡ x ∷ us) (ys_is : ys ≡ y ∷ vs) (j_is : j ≡ i) (k_is : k ≡ i + 1) where
  pub differ_same : x ≡ y → differ i xs ys ≡ differ k us vs
  unfolding differ
  differ_same e = rw (xs_is, ys_is, k_is, add-one, eq-eqb x y e)

  pub differ_other : (x ≡ y → ⊥) → differ i xs ys ≡ j ∷ differ k us vs
  unfolding differ
  differ_other e = rw (xs_is, ys_is, j_is, k_is, add-one, ne_eqb x y e)

-- nothing is left where one of the two ends
pub differ_end : {A : Type 0} {P Q : A → Type 0} (i : ℕ) (xs ys : List ℕ) → ((a : A) × ((length xs ≡ 0) × P a)) ⊎ ((a : A) × ((length ys ≡ 0) × Q a)) → differ i xs ys ≡ []
unfolding differ
differ_end i [] ys e = refl
differ_end i (x ∷ xs) [] e = refl
differ_end i (x ∷ xs) (y ∷ ys) (inl e) = absurd (suc-ne-zero (length xs) e.1.0)
differ_end i (x ∷ xs) (y ∷ ys) (inr e) = absurd (suc-ne-zero (length ys) e.1.0)

-- ---- what the array holds

-- a lower bound that is smaller serves too
lower : (low i high : ℕ) (l : List ℕ) → low ≤ i → Ascending i high l → Ascending low high l
lower low i high [] h a = tt
lower low i high (x ∷ l) h a =
    let k : i ≤ x = a.0 in
    (omega arith, a.1)

differ_ascending : (i high : ℕ) (xs ys : List ℕ) → i + length xs ≤ high → Ascending i high (differ i xs ys)
unfolding differ
differ_ascending i high [] ys h = tt
differ_ascending i high (x ∷ xs) [] h = tt
differ_ascending i high (x ∷ xs) (y ∷ ys) h = go (eqb x y) (differ_ascending (suc i) high xs ys (omega arith))
  where
    go : (t : Bool) → Ascending (suc i) high (differ (suc i) xs ys) → Ascending i high (cond t (differ (suc i) xs ys) (i ∷ differ (suc i) xs ys))
    go true more = lower i (suc i) high (differ (suc i) xs ys) (omega arith) more
    go false more = (omega arith, (omega arith, more))

length-differ : (i : ℕ) (xs ys : List ℕ) → length (differ i xs ys) ≤ length xs
unfolding differ
length-differ i [] ys = omega arith
length-differ i (x ∷ xs) [] = omega arith
length-differ i (x ∷ xs) (y ∷ ys) = go (eqb x y) (length-differ (suc i) xs ys)
  where
    go : (t : Bool) → length (differ (suc i) xs ys) ≤ length xs → length (cond t (differ (suc i) xs ys) (i ∷ differ (suc i) xs ys)) ≤ suc (length xs)
    go true more = omega arith
    go false more = omega arith

-- each element is below the bound, and so are the zeros behind them
zeros_below : (high n : ℕ) → 0 < high → (i : ℕ) → get_or (replicate n 0) i 0 < high
zeros_below high zero h i = h
zeros_below high (suc n) h zero = h
zeros_below high (suc n) h (suc i) = zeros_below high n h i

below : (low high : ℕ) (l : List ℕ) (n : ℕ) → 0 < high → Ascending low high l → (i : ℕ) → get_or (l ++ replicate n 0) i 0 < high
below low high [] n h a i = zeros_below high n h i
below low high (x ∷ l) n h a zero = a.1.0
below low high (x ∷ l) n h a (suc i) = below (suc x) high l n h a.1.1 i

module _ (image memory : List ℕ) (h : length image ≤ memory_words) where
  pub differences_ascending : Ascending 0 memory_words (differ 0 image memory)
  differences_ascending = differ_ascending 0 memory_words image memory (omega arith)

  pub differences_count : (differences_of image memory).count ≤ memory_words
  unfolding differences_of
  differences_count = omega (arith, length-differ 0 image memory)

  pub differences_long : length (differences_of image memory).addresses ≡ memory_words
  unfolding differences_of
  differences_long = length-padded memory_words (differ 0 image memory) (omega (arith, length-differ 0 image memory))

  -- the first `count` addresses are the list
  pub differences_live : take (differences_of image memory).count (differences_of image memory).addresses ≡ differ 0 image memory
  unfolding differences_of padded
  differences_live = take-append_seam (differ 0 image memory) (replicate (memory_words - length (differ 0 image memory)) 0)

  pub differences_below : (i : ℕ) → get_or (differences_of image memory).addresses i 0 < memory_words
  unfolding differences_of padded
  differences_below = below 0 memory_words (differ 0 image memory) (memory_words - length (differ 0 image memory)) (lit< tt) differences_ascending

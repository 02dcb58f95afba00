-- What is read from bytes that are there, and lent of them. Assumes nothing.
use mathlib.Core.Path.{◌≡◌, refl, sym, ap, ◌∙◌}
use mathlib.Core.List.{List, [], ◌∷◌, ◌++◌, append-nil}
use Prim.Native.Nat.{ℕ, zero, suc, ◌+◌, ◌-◌, ◌*◌, ◌≤◌, ◌<◌}
use native.Mathlib.Nat.{zero-add}
use native.Mathlib.Omega.{arith}
use borrow.Author.Tests.{le-leb}
use lib.Dec.{lit<}
use lib.ListN.{length, take, drop, get_or, length-drop, drop_of_length-le}
use lib.Seq.{drop_at, drop-drop, get_or-drop, get_or-take, length-take-le, take-add, take_all, take-take}
use Rattle.encoding.specs.Bytes.{over, number, numbers, read_number, read_words}

-- ---- read

pub number_inside : (d : List ℕ) (at w : ℕ) → w ≤ 8 → at + w ≤ length d → read_number d at w ≡ number w (drop at d)
unfolding read_number
number_inside d at w e h = rw (le-leb w 8 e, le-leb (at + w) (length d) h)

pub words_inside : (d : List ℕ) (at : ℕ) (out : List ℕ) → at + 2 * length out ≤ length d → read_words d at out ≡ numbers 2 (length out) (drop at d)
unfolding read_words
words_inside d at out h = rw (le-leb (at + 2 * length out) (length d) h)

-- ---- lent

-- what a callee that writes `b` over the first bytes of the part from `at` on leaves of the whole
pub part_back : (d : List ℕ) (at : ℕ) (b : List ℕ) → at ≤ length d
    → take at d ++ (over (take (length d - at) (drop at d)) 0 b ++ drop (length d - at) (drop at d)) ≡ over d at b
unfolding over
part_back d at b h =
    let l : length (drop at d) ≡ length d - at = length-drop at d in
    let whole : take (length d - at) (drop at d) ≡ drop at d = take_all (length d - at) (drop at d) (omega arith) in
    let none : drop (length d - at) (drop at d) ≡ [] = drop_of_length-le (drop at d) {i = length d - at} (omega arith) in
    rw (whole, none, append-nil, zero-add, drop-drop)

-- ---- the first n bytes are enough

pub number_cut : (w at n : ℕ) (l : List ℕ) → at + w ≤ n → number w (drop at (take n l)) ≡ number w (drop at l)
unfolding number
number_cut zero at n l h = refl
number_cut (suc w) at n l h =
    let e : get_or (drop at (take n l)) w 0 ≡ get_or (drop at l) w 0 =
    get_or-drop at (take n l) w 0 ∙ get_or-take n l (at + w) 0 (omega arith) ∙ sym (get_or-drop at l w 0) in
    rw (number_cut w at n l (omega arith), e)

pub numbers_cut : (w c at n : ℕ) (l : List ℕ) → at + w * c ≤ n → numbers w c (drop at (take n l)) ≡ numbers w c (drop at l)
unfolding numbers
numbers_cut w zero at n l h = refl
numbers_cut w (suc c) at n l h = rw (number_cut w at n l (omega arith), drop-drop w at (take n l), drop-drop w at l, numbers_cut w c (at + w) n l (omega arith))

-- two lists that begin alike have the same parts there
pub part_same : (n : ℕ) (x y : List ℕ) → n ≤ length x → n ≤ length y → take n x ≡ take n y → (m w : ℕ) → m + w ≤ n → take w (drop m x) ≡ take w (drop m y)
part_same n x y hx hy e m w h = sym (inside x hx) ∙ ap (λ (l : List ℕ). drop m (take (m + w) l)) e ∙ inside y hy
  where
    inside : (z : List ℕ) → n ≤ length z → drop m (take (m + w) (take n z)) ≡ take w (drop m z)
    inside z k = rw (take-take (m + w) n z h, take-add m w z) (drop_at (take m z) (take w (drop m z)) m (length-take-le m z (omega arith)))

-- a part of bytes is bytes
pub take_below : (n : ℕ) (l : List ℕ) → ((i : ℕ) → get_or l i 0 < 256) → (i : ℕ) → get_or (take n l) i 0 < 256
take_below zero l b i = lit< tt
take_below (suc n) [] b i = lit< tt
take_below (suc n) (x ∷ l) b zero = b 0
take_below (suc n) (x ∷ l) b (suc i) = take_below n l (λ j. b (suc j)) i

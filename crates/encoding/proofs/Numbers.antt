-- The laws of numbers in bytes, each once for every width and count: lengths, bounds, and the round trips. Assumes nothing.
use mathlib.Core.Path.{◌≡◌, refl, sym, ap, ◌∙◌}
use mathlib.Core.Bool.{Bool, true, false, cond}
use mathlib.Core.List.{List, [], ◌∷◌, ◌++◌, append_assoc}
use Prim.Native.Nat.{ℕ, zero, suc, ◌+◌, ◌*◌, ◌/◌, ◌%◌, ◌^◌, ◌≤◌, ◌<◌}
use native.Mathlib.Nat.{mul-zero, mul-suc, div-lt_iff_lt-mul, div-add-mod', pow-suc, one-le-pow}
use native.Mathlib.Omega.{arith}
use borrow.Author.Tests.{le-leb}
use lib.Dec.{leb, lit<}
use lib.ListN.{length, take, drop, get_or, length-append, length-drop}
use lib.Seq.{drop_at, drop-cons, drop-length, get_or_at, get_or-drop, take-suc, take-add}
use Rattle.encoding.specs.Bytes.{within, big_endian, big_endians, number, numbers, each_from, written, read_number, read_words}
use Rattle.encoding.proofs.Written.{written_from, length-written}

-- ---- lengths

pub length-big_endian : (w n : ℕ) → length (big_endian w n) ≡ w
unfolding big_endian
length-big_endian zero n = refl
length-big_endian (suc w) n = length-append (big_endian w (n / 256)) (n % 256 ∷ []) ∙ rw (length-big_endian w (n / 256)) (omega arith)

pub length-big_endians : (w : ℕ) (xs : List ℕ) → length (big_endians w xs) ≡ w * length xs
unfolding big_endians
length-big_endians w [] = sym (mul-zero w)
length-big_endians w (x ∷ xs) = length-append (big_endian w x) (big_endians w xs) ∙ rw (length-big_endian w x, length-big_endians w xs) (omega arith)

-- the bytes of a list's numbers from index i on are pieces
pub big_endians_each : (w : ℕ) (xs : List ℕ) (i k : ℕ) → i + k ≡ length xs → each_from (λ j. big_endian w (get_or xs j 0)) i k ≡ big_endians w (drop i xs)
unfolding each_from big_endians
big_endians_each w xs i zero e =
    let l : i ≡ length xs = omega arith in
    rw (l, drop-length)
big_endians_each w xs i (suc k) e = rw (drop-cons xs i 0 (omega arith), big_endians_each w xs (suc i) k (omega arith))

pub length-numbers : (w c : ℕ) (l : List ℕ) → length (numbers w c l) ≡ c
unfolding numbers
length-numbers w zero l = refl
length-numbers w (suc c) l = ap suc (length-numbers w c (drop w l))

-- ---- what is written is read back

-- a number, whatever stands behind it
pub number-big_endian : (w n : ℕ) (rest : List ℕ) → n < 256 ^ w → number w (big_endian w n ++ rest) ≡ n
unfolding number big_endian
number-big_endian zero n rest h = omega arith
number-big_endian (suc w) n rest h =
    let q : n / 256 < 256 ^ w = (div-lt_iff_lt-mul (lit< tt)).1 (rw pow-suc at h) in
    rw (append_assoc, number-big_endian w (n / 256) (n % 256 ∷ rest) q, get_or_at (big_endian w (n / 256)) (n % 256) rest 0 w (length-big_endian w (n / 256))) (div-add-mod' n 256)

pub numbers-big_endians : (w : ℕ) (xs rest : List ℕ) → ((i : ℕ) → get_or xs i 0 < 256 ^ w) → numbers w (length xs) (big_endians w xs ++ rest) ≡ xs
unfolding numbers big_endians
numbers-big_endians w [] rest h = refl
numbers-big_endians w (x ∷ xs) rest h =
    rw (append_assoc, number-big_endian w x (big_endians w xs ++ rest) (h 0), drop_at (big_endian w x) (big_endians w xs ++ rest) w (length-big_endian w x), numbers-big_endians w xs rest (λ i. h (suc i)))

-- the other way: what was read is what stands there
pub big_endian-number : (w : ℕ) (l : List ℕ) → w ≤ length l → ((i : ℕ) → get_or l i 0 < 256) → big_endian w (number w l) ≡ take w l
unfolding number big_endian
big_endian-number zero l h b = refl
big_endian-number (suc w) l h b =
    let k : get_or l w 0 < 256 = b w in
    let q : (number w l * 256 + get_or l w 0) / 256 ≡ number w l = omega arith in
    let r : (number w l * 256 + get_or l w 0) % 256 ≡ get_or l w 0 = omega arith in
    rw (q, r, big_endian-number w l (omega arith) b, take-suc l w 0 (omega arith))

pub big_endians-numbers : (w c : ℕ) (l : List ℕ) → w * c ≤ length l → ((i : ℕ) → get_or l i 0 < 256) → big_endians w (numbers w c l) ≡ take (w * c) l
unfolding numbers big_endians
big_endians-numbers w zero l h b = rw (mul-zero w)
big_endians-numbers w (suc c) l h b =
    let e : w * suc c ≡ w + w * c = mul-suc w c ∙ omega arith in
    let t = big_endians-numbers w c (drop w l) (rw length-drop (omega arith)) (λ j. rw get_or-drop (b (w + j))) in
    rw (big_endian-number w l (omega arith) b, t, e) (sym (take-add w (w * c) l))

-- ---- bounds

-- one more byte
pub byte_more : (w n b : ℕ) → n < 256 ^ w → b < 256 → n * 256 + b < 256 ^ suc w
byte_more w n b h k = rw pow-suc (omega arith)

pub number-below : (w : ℕ) (l : List ℕ) → ((i : ℕ) → get_or l i 0 < 256) → number w l < 256 ^ w
unfolding number
number-below zero l b = lit< tt
number-below (suc w) l b = byte_more w (number w l) (get_or l w 0) (number-below w l b) (b w)

pub numbers-below : (w c : ℕ) (l : List ℕ) → ((i : ℕ) → get_or l i 0 < 256) → (i : ℕ) → get_or (numbers w c l) i 0 < 256 ^ w
unfolding numbers
numbers-below w zero l b i = one-le-pow w 256 (lit< tt)
numbers-below w (suc c) l b zero = number-below w l b
numbers-below w (suc c) l b (suc i) = numbers-below w c (drop w l) (λ j. rw get_or-drop (b (w + j))) i

-- a number that is read, from bytes, fits their width
pub read_below : (d : List ℕ) (at w : ℕ) → ((i : ℕ) → get_or d i 0 < 256) → read_number d at w < 256 ^ w
unfolding read_number
read_below d at w b = go (leb w 8) (within d at w)
  where
    none : 0 < 256 ^ w
    none = one-le-pow w 256 (lit< tt)

    go : (s t : Bool) → cond s (cond t (number w (drop at d)) 0) 0 < 256 ^ w
    go true true = number-below w (drop at d) (λ i. rw get_or-drop (b (at + i)))
    go true false = none
    go false t = none

-- ---- as the functions read and write

-- a number that was written where it fits is read there
pub read_written : (d : List ℕ) (at w n : ℕ) → w ≤ 8 → at + w ≤ length d → n < 256 ^ w → read_number (written d at (big_endian w n)) at w ≡ n
unfolding read_number
read_written d at w n e h k =
    let l : length (big_endian w n) ≡ w = length-big_endian w n in
    rw (length-written, le-leb w 8 e, le-leb (at + w) (length d) h, written_from d at (big_endian w n) (omega arith)) (number-big_endian w n _ k)

pub read_words-written : (d : List ℕ) (at : ℕ) (xs out : List ℕ) → at + 2 * length xs ≤ length d → ((i : ℕ) → get_or xs i 0 < 65536) → length out ≡ length xs
    → read_words (written d at (big_endians 2 xs)) at out ≡ xs
unfolding read_words
read_words-written d at xs out h k e =
    let l : length (big_endians 2 xs) ≡ 2 * length xs = length-big_endians 2 xs in
    rw (length-written, e, le-leb (at + 2 * length xs) (length d) h, written_from d at (big_endians 2 xs) (omega arith)) (numbers-big_endians 2 xs _ k)

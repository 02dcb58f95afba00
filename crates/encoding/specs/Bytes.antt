-- Bytes in a lent list: what is written over it, numbers high byte first, and what is read back. Assumes nothing.
use Rattle.std.specs.Prelude.{ℕ, zero, suc, ◌+◌, ◌*◌, ◌/◌, ◌%◌, Bool, true, false, cond, List, [], ◌∷◌, ◌++◌, eqb, leb, length, take, drop, get_or}

-- `d` with `bs` written over it from index `at`
unfoldable pub over : List ℕ → ℕ → List ℕ → List ℕ
over d at bs = take at d ++ (bs ++ drop (at + length bs) d)

-- the `w` bytes of `n`, high byte first
unfoldable pub big_endian : ℕ → ℕ → List ℕ
big_endian zero n = []
big_endian (suc w) n = big_endian w (n / 256) ++ (n % 256 ∷ [])

-- each number of a list in `w` bytes
unfoldable pub big_endians : ℕ → List ℕ → List ℕ
big_endians w [] = []
big_endians w (x ∷ xs) = big_endian w x ++ big_endians w xs

-- the number in the first `w` bytes
unfoldable pub number : ℕ → List ℕ → ℕ
number zero l = 0
number (suc w) l = number w l * 256 + get_or l w 0

-- the first `c` numbers of `w` bytes
unfoldable pub numbers : ℕ → ℕ → List ℕ → List ℕ
numbers w zero l = []
numbers w (suc c) l = number w l ∷ numbers w c (drop w l)

-- `k` pieces one behind the other, from number `i` on
unfoldable pub each_from : (ℕ → List ℕ) → ℕ → ℕ → List ℕ
each_from f i zero = []
each_from f i (suc k) = f i ++ each_from f (suc i) k

-- whether `n` bytes at index `at` lie wholly in `d`
abbrev pub within : List ℕ → ℕ → ℕ → Bool
within d at n = leb (at + n) (length d)

-- `bs` written over `d` from index `at` where it fits whole, else `d` as it was
unfoldable pub written : List ℕ → ℕ → List ℕ → List ℕ
written d at bs = cond (within d at (length bs)) (over d at bs) d

-- the number in the `w` bytes at index `at`; 0 where they do not all lie in `d`, and for more than 8 bytes
unfoldable pub read_number : List ℕ → ℕ → ℕ → ℕ
read_number d at w = cond (leb w 8) (cond (within d at w) (number w (drop at d)) 0) 0

-- as many words from index `at` on as `out` holds where they all lie in `d`, else `out` as it was
unfoldable pub read_words : List ℕ → ℕ → List ℕ → List ℕ
read_words d at out = cond (within d at (2 * length out)) (numbers 2 (length out) (drop at d)) out

-- whether `a` stands in the list
unfoldable pub member : ℕ → List ℕ → Bool
member a [] = false
member a (b ∷ l) = cond (eqb b a) true (member a l)

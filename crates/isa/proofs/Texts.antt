-- The laws of texts: what a struct holds, and a loop that fills an array of zeros from the front.
-- Assumes nothing.
use Prim.Native.Char.{code}
use Prim.Native.Nat.{ℕ, zero, suc, ◌+◌, ◌-◌, ◌≤◌, ◌<◌, min}
use native.Mathlib.Omega.{arith}
use native.Mathlib.Numerals.{add-one}
use mathlib.Core.Path.{◌≡◌, refl, sym, ap, ◌∙◌}
use mathlib.Core.List.{List, [], ◌∷◌, ◌++◌, append_assoc}
use borrow.Author.Tests.{ne_eqb}
use lib.ListN.{length, get_or, take, drop, set, replicate, length-append, length-replicate}
use lib.Seq.{take-append_seam, set-append_seam, take-suc, length-take-le}
use Rattle.std.proofs.lemmas.List.{take_min, length-take, drop-replicate}
use Rattle.isa.specs.Text.{padded, fixed_text, text, text_of, trimmed, unless_space}

pub text_of-text : (xs : List ℕ) → text_of (text xs) ≡ xs
unfolding text_of fixed_text padded
text_of-text xs = take-append_seam xs (replicate (32 - length xs) 0)

pub length-padded : (n : ℕ) (xs : List ℕ) → length xs ≤ n → length (padded n xs) ≡ n
unfolding padded
length-padded n xs h = simp (length-append, length-replicate) (omega arith)

-- zeros behind a list are what stands past its end
pub zeros_at : (n i : ℕ) → ◌≡◌ {A = ℕ} (get_or (replicate n 0) i 0) 0
zeros_at zero i = refl
zeros_at (suc n) zero = refl
zeros_at (suc n) (suc i) = zeros_at n i

pub padded_at : (xs : List ℕ) (n i : ℕ) → get_or (xs ++ replicate n 0) i 0 ≡ get_or xs i 0
padded_at [] n i = zeros_at n i
padded_at (x ∷ xs) n zero = refl
padded_at (x ∷ xs) n (suc i) = padded_at xs n i

-- ---- a loop that fills an array of n zeros with xs from the front

-- one byte stored past the live ones
padded_stored : (n : ℕ) (xs : List ℕ) (b : ℕ) → length xs < n → set (padded n xs) (length xs) b ≡ padded n (xs ++ (b ∷ []))
unfolding padded
padded_stored n xs b h =
    let k : ℕ = n - suc (length xs) in
    let e : n - length xs ≡ suc k = omega arith in
    let f : n - length (xs ++ (b ∷ [])) ≡ k = simp length-append (omega arith) in
    rw (e, f, append_assoc) (set-append_seam xs 0 (replicate k 0) b)

-- a turn
pub filled_next : (n : ℕ) (xs : List ℕ) (i : ℕ) {bytes : List ℕ} → i < n → i < length xs → bytes ≡ padded n (take i xs)
    → set bytes i (get_or xs i 0) ≡ padded n (take (i + 1) xs)
filled_next n xs i h k e =
    let l : length (take i xs) ≡ i = length-take-le i xs (omega arith) in
    let p : set (padded n (take i xs)) (length (take i xs)) (get_or xs i 0) ≡ padded n (take i xs ++ (get_or xs i 0 ∷ [])) = padded_stored n (take i xs) (get_or xs i 0) (omega arith) in
    rw (e, add-one, take-suc xs i 0 k) (rw l at p)

-- its end, after n turns, n the smaller of k and the length of xs
pub filled_text : (room : ℕ) (xs : List ℕ) (k n : ℕ) {bytes : List ℕ} → n ≡ min k (length xs) → bytes ≡ padded room (take n xs)
    → record { bytes = bytes; len = n } ≡ fixed_text room (take k xs)
unfolding fixed_text
filled_text room xs k n e b = rw (b, e, take_min, ← (length-take k xs))

-- the first bytes copied, zeros past them
pub copied_text : (room : ℕ) (xs : List ℕ) (k n : ℕ) {front : List ℕ} → n ≡ min k (length xs) → front ≡ take n xs
    → record { bytes = front ++ drop n (replicate room 0); len = n } ≡ fixed_text room (take k xs)
unfolding padded
copied_text room xs k n e f =
    let l : length (take n xs) ≡ n = length-take-le n xs (omega arith) in
    filled_text room xs k n e (rw (f, l, drop-replicate))

-- ---- without the spaces at the end

unless_space-more : (x : ℕ) (xs : List ℕ) (b : ℕ) → unless_space x (xs ++ (b ∷ [])) ≡ x ∷ (xs ++ (b ∷ []))
unless_space-more x [] b = refl
unless_space-more x (y ∷ ys) b = refl

trimmed_space : (xs : List ℕ) (b : ℕ) → b ≡ code " " → trimmed (xs ++ (b ∷ [])) ≡ trimmed xs
unfolding trimmed
trimmed_space [] b e = rw e
trimmed_space (x ∷ xs) b e = ap (unless_space x) (trimmed_space xs b e)

trimmed_other : (xs : List ℕ) (b : ℕ) → (b ≡ code " " → ⊥) → trimmed (xs ++ (b ∷ [])) ≡ xs ++ (b ∷ [])
unfolding trimmed
trimmed_other [] b h = simp (ne_eqb b (code " ") h)
trimmed_other (x ∷ xs) b h = ap (unless_space x) (trimmed_other xs b h) ∙ unless_space-more x xs b

-- a loop that looks for the last byte that is no space: a turn at another byte, and at a space
pub trim_other : (s : List ℕ) (i : ℕ) → i < length s → (get_or s i 0 ≡ code " " → ⊥) → take (i + 1) s ≡ trimmed (take (i + 1) s)
trim_other s i h k = rw (add-one, take-suc s i 0 h) (sym (trimmed_other (take i s) (get_or s i 0) k))

pub trim_space : (s : List ℕ) (i n : ℕ) → i < length s → get_or s i 0 ≡ code " " → take n s ≡ trimmed (take i s) → take n s ≡ trimmed (take (i + 1) s)
trim_space s i n h k e = rw (add-one, take-suc s i 0 h) (e ∙ sym (trimmed_space (take i s) (get_or s i 0) k))

-- Laws of `distinct` (`specs/Touched.antt`): few numbers are different and small.
-- Assumes nothing.
use Rattle.std.proofs.Common.{◌+◌, ◌≡◌, ℕ, zero, suc, ◌<◌, ◌≤◌, Bool, true, false, cond, eqb, List, [], ◌∷◌, ◌++◌, length, get_or, set, sym, refl, ap, arith, ne_eqb, eqb-true}
use borrow.Author.Tests.{eqb-false}
use Rattle.control.proofs.Lawfuls.{true-false}
use Rattle.trace.specs.Touched.{distinct}
use Rattle.encoding.specs.Bytes.{member}

-- every number of the list is below n
abbrev Below : ℕ → List ℕ → Type 0
Below n [] = Unit {0}
Below n (x ∷ xs) = (x < n) × Below n xs

-- x before the list, unless it goes
abbrev keep : Bool → ℕ → List ℕ → List ℕ
keep true x xs = xs
keep false x xs = x ∷ xs

-- the list with every n taken out
without : ℕ → List ℕ → List ℕ
without n [] = []
without n (x ∷ xs) = keep (eqb x n) x (without n xs)

-- a test or another is false: both are
pick_false : (b m : Bool) → cond b true m ≡ false → (b ≡ false) × (m ≡ false)
pick_false true m e = absurd (true-false e)
pick_false false m e = (refl, e)

-- none of the one and all of the other: both
pub pick_true : (b m : Bool) → cond b false m ≡ true → (b ≡ false) × (m ≡ true)
pick_true true m e = absurd (true-false (sym e))
pick_true false m e = (refl, e)

-- a is not in front, nor behind
mem_keep : (b : Bool) (a x : ℕ) (xs : List ℕ) → eqb x a ≡ false → member a xs ≡ false → member a (keep b x xs) ≡ false
unfolding member
mem_keep true a x xs e h = h
mem_keep false a x xs e h = simp (e, h)

-- taking out adds nothing
mem_without : (a n : ℕ) (l : List ℕ) → member a l ≡ false → member a (without n l) ≡ false
unfolding member without
mem_without a n [] h = h
mem_without a n (x ∷ xs) h =
    let p = pick_false (eqb x a) (member a xs) h in
    mem_keep (eqb x n) a x (without n xs) p.0 (mem_without a n xs p.1)

-- one more that is not there leaves them different
distinct_keep : (b : Bool) (x : ℕ) (xs : List ℕ) → member x xs ≡ false → distinct xs ≡ true → distinct (keep b x xs) ≡ true
unfolding distinct
distinct_keep true x xs e h = h
distinct_keep false x xs e h = simp (e, h)

-- taking out leaves them different
distinct_without : (n : ℕ) (l : List ℕ) → distinct l ≡ true → distinct (without n l) ≡ true
unfolding distinct without
distinct_without n [] h = h
distinct_without n (x ∷ xs) h =
    let p = pick_true (member x xs) (distinct xs) h in
    distinct_keep (eqb x n) x (without n xs) (mem_without x n xs p.0) (distinct_without n xs p.1)

-- nothing is taken out of a list that has no n
without_none : (n : ℕ) (l : List ℕ) → member n l ≡ false → length (without n l) ≡ length l
unfolding member without
without_none n [] h = refl
without_none n (x ∷ xs) h =
    let p = pick_false (eqb x n) (member n xs) h in
    rw p.0 (ap suc (without_none n xs p.1))

-- what is below n + 1 and is not n is below n
below_keep : (n x : ℕ) (xs : List ℕ) → x < suc n → Below n xs → Below n (keep (eqb x n) x xs)
below_keep n x xs h b = go (eqb x n) refl
  where
    go : (t : Bool) → eqb x n ≡ t → Below n (keep t x xs)
    go true e = b
    go false e = let ne : x ≡ n → ⊥ = eqb-false x n e in (omega arith, b)

-- so without n all are below n
below_without : (n : ℕ) (l : List ℕ) → Below (suc n) l → Below n (without n l)
unfolding without
below_without n [] h = tt
below_without n (x ∷ xs) h = below_keep n x (without n xs) h.0 (below_without n xs h.1)

-- at most one entry of a list of different numbers is n
length_without : (n : ℕ) (l : List ℕ) → distinct l ≡ true → length l ≤ suc (length (without n l))
unfolding distinct without
length_without n [] h = omega arith
length_without n (x ∷ xs) h = go (length_without n xs p.1) (eqb x n) refl
  where
    p : (member x xs ≡ false) × (distinct xs ≡ true)
    p = pick_true (member x xs) (distinct xs) h

    go : length xs ≤ suc (length (without n xs)) → (t : Bool) → eqb x n ≡ t → suc (length xs) ≤ suc (length (keep t x (without n xs)))
    go ih true e =
        let q : member n xs ≡ false = rw (← eqb-true x n e) p.0 in
        omega (arith, without_none n xs q)
    go ih false e = omega arith

-- there are at most n different numbers below n
pub few : (n : ℕ) (l : List ℕ) → distinct l ≡ true → Below n l → length l ≤ n
few zero [] d b = omega arith
few zero (x ∷ xs) d b = omega (arith, b.0)
few (suc n) l d b = omega (arith, length_without n l d, few n (without n l) (distinct_without n l d) (below_without n l b))

-- each entry is below n: all are
pub below_of : (n : ℕ) (l : List ℕ) → ((i : ℕ) → i < length l → get_or l i 0 < n) → Below n l
below_of n [] h = tt
below_of n (x ∷ xs) h = (h 0 (omega arith), below_of n xs (λ i lt. h (suc i) (omega arith)))

-- where a number below n is missing, there are fewer than n
pub full : (n a : ℕ) (l : List ℕ) → distinct l ≡ true → Below n l → a < n → member a l ≡ false → length l < n
unfolding distinct
full n a l d b h m = few n (a ∷ l) (simp (m, d)) (h, b)

-- a is there, or is the one added
pub mem_last : (a x : ℕ) (p : List ℕ) → member a (p ++ (x ∷ [])) ≡ cond (member a p) true (eqb x a)
unfolding member
mem_last a x [] = go (eqb x a)
  where
    go : (b : Bool) → cond b true false ≡ b
    go true = refl
    go false = refl
mem_last a x (y ∷ ys) = go (eqb y a) (mem_last a x ys)
  where
    go : (b : Bool) → member a (ys ++ (x ∷ [])) ≡ cond (member a ys) true (eqb x a) → cond b true (member a (ys ++ (x ∷ []))) ≡ cond (cond b true (member a ys)) true (eqb x a)
    go true h = refl
    go false h = h

-- one that is not there may be added
pub distinct_snoc : (a : ℕ) (l : List ℕ) → distinct l ≡ true → member a l ≡ false → distinct (l ++ (a ∷ [])) ≡ true
unfolding distinct member
distinct_snoc a [] d m = refl
distinct_snoc a (x ∷ xs) d m =
    let p = pick_true (member x xs) (distinct xs) d in
    let q = pick_false (eqb x a) (member a xs) m in
    let n : eqb a x ≡ false = ne_eqb a x (λ e. eqb-false x a q.0 (sym e)) in
    let m : member x (xs ++ (a ∷ [])) ≡ false = simp (mem_last, p.0, n) in
    rw m (distinct_snoc a xs p.1 q.1)

-- writing a number below h into numbers that are all below h, live or not, leaves all below it
pub below_set : (h : ℕ) (l : List ℕ) (i v : ℕ) → ((j : ℕ) → get_or l j 0 < h) → v < h → (j : ℕ) → get_or (set l i v) j 0 < h
below_set h [] i v f b j = f j
below_set h (x ∷ xs) zero v f b zero = b
below_set h (x ∷ xs) zero v f b (suc j) = f (suc j)
below_set h (x ∷ xs) (suc i) v f b zero = f 0
below_set h (x ∷ xs) (suc i) v f b (suc j) = below_set h xs i v (λ k. f (suc k)) b j

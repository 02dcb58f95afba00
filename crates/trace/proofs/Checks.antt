-- Laws of the tests of a state (`specs/Refusal.antt`): no touched address twice, and no live text over 32 bytes.
-- Assumes nothing.
use Rattle.std.proofs.Common.{◌≡◌, ℕ, suc, ◌+◌, ◌-◌, ◌<◌, ◌≤◌, Bool, true, false, cond, not, ◌&&◌, ◌||◌, eqb, ltb, List, [], ◌∷◌, ◌++◌, length, get_or, take, drop, set, replicate, sym, refl, ap, ◌∙◌, add-one, arith, length-drop, take-append-drop, length-take-le, get_or-drop, take_all, drop-cons, get_or-set_other, get_or-take, take-suc, get_or-set_same, take-take, eq-eqb, eqb-true}
use borrow.Author.Tests.{eqb-false}
use lib.Seq.{take-append-le, take-append-add}
use Rattle.isa.specs.Sizes.{memory_words, text_width}
use Rattle.trace.specs.Trace.{turn, short_texts, trace_limit}
use Rattle.trace.specs.Touched.{distinct}
use Rattle.encoding.specs.Bytes.{member}
use Rattle.isa.proofs.Texts.{zeros_at}
use Rattle.control.proofs.Lawfuls.{true-false}
use Rattle.trace.proofs.Lists.{mem_last}

-- ---- No address twice, by a table of those seen.

-- x is where it is
mem_here : (x : ℕ) (p r : List ℕ) → member x (p ++ (x ∷ r)) ≡ true
unfolding member
mem_here x [] r = rw (eq-eqb x x refl)
mem_here x (y ∷ ys) r = go (eqb y x) (mem_here x ys r)
  where
    go : (b : Bool) → member x (ys ++ (x ∷ r)) ≡ true → cond b true (member x (ys ++ (x ∷ r))) ≡ true
    go true h = refl
    go false h = h

-- a number that came before comes twice
pub dup : (x : ℕ) (p r : List ℕ) → member x p ≡ true → distinct (p ++ (x ∷ r)) ≡ false
unfolding distinct member
dup x [] r m = absurd (true-false (sym m))
dup x (y ∷ ys) r m = go (eqb y x) refl m (λ h. dup x ys r h)
  where
    last : (b : Bool) → distinct (ys ++ (x ∷ r)) ≡ false → cond b false (distinct (ys ++ (x ∷ r))) ≡ false
    last true e = refl
    last false e = e

    go : (b : Bool) → eqb y x ≡ b → cond b true (member x ys) ≡ true → (member x ys ≡ true → distinct (ys ++ (x ∷ r)) ≡ false) → cond (member y (ys ++ (x ∷ r))) false (distinct (ys ++ (x ∷ r))) ≡ false
    go true e h f =
        let q : y ≡ x = eqb-true y x e in
        let z : member y (ys ++ (x ∷ r)) ≡ true = rw q (mem_here x ys r) in
        rw z
    go false e h f = last (member y (ys ++ (x ∷ r))) (f h)

-- the first n, at the i-th of them
pub split : (l : List ℕ) (i n : ℕ) → i < n → n ≤ length l → take n l ≡ take i l ++ (get_or l i 0 ∷ drop (i + 1) (take n l))
split l i n h b =
    let w = length-take-le n l b in
    let d : drop i (take n l) ≡ get_or l i 0 ∷ drop (i + 1) (take n l) = rw (add-one, drop-cons (take n l) i 0 (omega (arith, w)), get_or-take n l i 0 h) in
    sym (take-append-drop i (take n l)) ∙ rw (take-take i n l (omega arith), d)

-- the first i + 1
pub one_more_lem : (l : List ℕ) (i : ℕ) → i < length l → take (i + 1) l ≡ take i l ++ (get_or l i 0 ∷ [])
one_more_lem l i h = rw (add-one, take-suc l i 0 h)

-- the table's entry of the one added
bit : (m : Bool) → ◌≡◌ {A = ℕ} (cond (cond m true true) 1 0) 1
bit true = refl
bit false = refl

-- and of any other
same_bit : (m : Bool) → ◌≡◌ {A = ℕ} (cond (cond m true false) 1 0) (cond m 1 0)
same_bit true = refl
same_bit false = refl

module _ (seen p : List ℕ) (x : ℕ) (long : length seen ≡ memory_words) (table : (a : ℕ) → a < memory_words → get_or seen a 0 ≡ cond (member a p) 1 0) where
  -- the table after one more
  pub seen_next : (a : ℕ) → a < memory_words → get_or (set seen x 1) a 0 ≡ cond (member a (p ++ (x ∷ []))) 1 0
  seen_next a h = go (eqb x a) refl
    where
      go : (b : Bool) → eqb x a ≡ b → get_or (set seen x 1) a 0 ≡ cond (member a (p ++ (x ∷ []))) 1 0
      go true e = rw (mem_last, e, bit (member a p), ← eqb-true x a e) (get_or-set_same seen x 1 0 (omega (arith, eqb-true x a e)))
      go false e = rw (mem_last, e, same_bit (member a p), get_or-set_other seen x a 1 0 (λ z. eqb-false x a e (sym z))) (table a h)

module _ (seen p : List ℕ) (x : ℕ) (long : length seen ≡ memory_words) (small : x < memory_words) (table : (a : ℕ) → a < memory_words → get_or seen a 0 ≡ cond (member a p) 1 0) where
  -- the table says 1: it came before
  pub is_seen : get_or seen x 0 ≡ 1 → member x p ≡ true
  is_seen e = go (member x p) (sym (table x small) ∙ e)
    where
      go : (m : Bool) → ◌≡◌ {A = ℕ} (cond m 1 0) 1 → m ≡ true
      go true z = refl
      go false z = absurd (omega arith)

  -- the table does not: it did not
  pub not_seen : (get_or seen x 0 ≡ 1 → ⊥) → member x p ≡ false
  not_seen e = go (member x p) (λ z. e (table x small ∙ z))
    where
      go : (m : Bool) → (◌≡◌ {A = ℕ} (cond m 1 0) 1 → ⊥) → m ≡ false
      go true z = absurd (z refl)
      go false z = refl

-- at first the table is all 0
pub empty_table : (a : ℕ) → ◌≡◌ {A = ℕ} (get_or (replicate memory_words 0) a 0) 0
empty_table a = zeros_at memory_words a

-- no address is there twice
pub none_twice : distinct [] ≡ true
unfolding distinct
none_twice = refl

-- none is there
pub none_there : (a : ℕ) → member a [] ≡ false
unfolding member
none_there a = refl

-- ---- No text over 32 bytes.

-- none in two lists: none in the one and none in the other
short_append : (a b : List ℕ) → short_texts (a ++ b) ≡ short_texts a && short_texts b
unfolding short_texts
short_append [] b = refl
short_append (n ∷ a) b = go (ltb text_width n) (short_append a b)
  where
    go : (t : Bool) → short_texts (a ++ b) ≡ short_texts a && short_texts b → cond t false (short_texts (a ++ b)) ≡ cond t false (short_texts a) && short_texts b
    go true e = refl
    go false e = e

-- of one length
short_one : (n : ℕ) → short_texts (n ∷ []) ≡ not (ltb text_width n)
unfolding short_texts
short_one n = go (ltb text_width n)
  where
    go : (t : Bool) → cond t false true ≡ not t
    go true = refl
    go false = refl

-- of no length
pub short_none : (l : List ℕ) (s : ℕ) → true ≡ short_texts (take (s - s) l)
unfolding short_texts
short_none l s = let e : s - s ≡ 0 = omega arith in rw e

-- what the loop keeps: one length more, from s on up to i
pub short_next : (l : List ℕ) (s i : ℕ) (over : Bool) → s ≤ i → i < length l → not over ≡ short_texts (take (i - s) (drop s l))
    → not (over || ltb text_width (get_or l i 0)) ≡ short_texts (take (i + 1 - s) (drop s l))
short_next l s i over le lt e =
    let k : i + 1 - s ≡ suc (i - s) = omega arith in
    let j : s + (i - s) ≡ i = omega arith in
    let b : i - s < length (drop s l) = simp length-drop (omega arith) in
    rw (k, take-suc (drop s l) (i - s) 0 b, get_or-drop, j, short_append, short_one, ← e) (go over)
  where
    go : (t : Bool) → not (t || ltb text_width (get_or l i 0)) ≡ not t && not (ltb text_width (get_or l i 0))
    go true = refl
    go false = refl

module _ (l : List ℕ) (s n : ℕ) (full : length l ≡ trace_limit) where
  -- the live ones are all before the ring's end
  pub short_linear : s + n ≤ trace_limit → short_texts (take (s + n - s) (drop s l)) ≡ short_texts (take n (turn l s))
  short_linear h =
      let k : s + n - s ≡ n = omega arith in
      let b : n ≤ length (drop s l) = simp length-drop (omega arith) in
      rw (k, take-append-le n (drop s l) (take s l) b)

  -- they go round it
  pub short_round : {a b : Bool} → s < trace_limit → n ≤ trace_limit → trace_limit < s + n → a ≡ short_texts (take (trace_limit - s) (drop s l)) → b ≡ short_texts (take (s + n - trace_limit - 0) l) → a && b ≡ short_texts (take n (turn l s))
  short_round hs hn h first second =
      let j = s + n - trace_limit in
      let b : length (drop s l) + j ≡ n = simp length-drop (omega arith) in
      let w : length (drop s l) ≤ trace_limit - s = simp length-drop (omega arith) in
      let e : take n (turn l s) ≡ drop s l ++ take j l = ap (λ (k : ℕ). take k (turn l s)) (sym b) ∙ rw (take-append-add, take-take j s l (omega arith)) in
      let z : s + n - trace_limit - 0 ≡ j = omega arith in
      rw (first, second, z, e, short_append, take_all (trace_limit - s) (drop s l) w)

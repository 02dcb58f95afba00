-- Owners joined; what is hidden of a union, and owner by owner (02, Change 7); and that 01's marks are owner byte 01 under clearance 00.
-- Assumes nothing.
use Prim.Native.Nat.{ℕ, zero, suc, ◌+◌, ◌-◌, ◌*◌, ◌/◌, ◌%◌, ◌^◌, ◌<◌, ◌≤◌, min, max}
use native.Mathlib.Omega.{arith}
use native.Mathlib.Nat.{div-div-eq-div-mul, div-eq_of_lt, pow-succ', two-pow-succ, pow-le-pow_right, lt_of_lt_of_le, lt_of_not-le}
use mathlib.Core.Path.{◌≡◌, refl, sym, ap, ap₂, ◌∙◌}
use mathlib.Core.Logic.{◌↔◌}
use mathlib.Core.Bool.{Bool, true, false, not, ◌||◌, true≢false, false≢true}
use borrow.Author.Tests.{eqb-true, eqb-false, eq-eqb, ne_eqb}
use lib.Arith.{bin_ind}
use lib.Bits.{bit_and, bit_or, and_step, or_step, or_comm, or_self, or_zero_r, or_shr, or_add_and}
use lib.Dec.{eqb}
use Rattle.marks.specs.Owners.{owned, joined, hidden_from, Outside}

-- ---- the union's grouping, bit by bit

or_half : (a b : ℕ) → bit_or a b / 2 ≡ bit_or (a / 2) (b / 2)
or_half a b = omega (arith, or_step a b)

or_odd : (a b : ℕ) → bit_or a b % 2 ≡ max (a % 2) (b % 2)
or_odd a b = omega (arith, or_step a b)

abbrev Grouped : ℕ → Type 0
Grouped a = (b c : ℕ) → bit_or (bit_or a b) c ≡ bit_or a (bit_or b c)

or_assoc : (a : ℕ) → Grouped a
or_assoc = bin_ind Grouped (λ b c. refl) step
  where
    step : (a : ℕ) → Grouped (a / 2) → Grouped a
    step a ih b c =
        let high : bit_or (bit_or a b / 2) (c / 2) ≡ bit_or (a / 2) (bit_or b c / 2) =
        ap (λ (x : ℕ). bit_or x (c / 2)) (or_half a b) ∙ ih (b / 2) (c / 2) ∙ ap (bit_or (a / 2)) (sym (or_half b c)) in
        let low : max (bit_or a b % 2) (c % 2) ≡ max (a % 2) (bit_or b c % 2) = omega (arith, or_odd a b, or_odd b c) in
        or_step (bit_or a b) c ∙ ap₂ (λ (x y : ℕ). x * 2 + y) high low ∙ sym (or_step a (bit_or b c))

-- ---- what is hidden of a union

-- a part of the clearance: both parts are, where the union is
union_inside : (c a b : ℕ) → bit_or a c ≡ c → bit_or b c ≡ c → bit_or (bit_or a b) c ≡ c
union_inside c a b p q = or_assoc a b c ∙ ap (bit_or a) q ∙ p

first_inside : (c a b : ℕ) → bit_or (bit_or a b) c ≡ c → bit_or a c ≡ c
first_inside c a b p =
    ap (bit_or a) (sym p)
    ∙ sym (or_assoc a (bit_or a b) c)
    ∙ ap (λ (x : ℕ). bit_or x c) (sym (or_assoc a a b) ∙ ap (λ (x : ℕ). bit_or x b) (or_self a))
    ∙ p

second_inside : (c a b : ℕ) → bit_or (bit_or a b) c ≡ c → bit_or b c ≡ c
second_inside c a b p = first_inside c b a (ap (λ (x : ℕ). bit_or x c) (or_comm b a) ∙ p)

pub hidden-none : (c : ℕ) → hidden_from c 0 ≡ false
hidden-none c = ap not (eq-eqb c c refl)

pub hidden_either : (c a b : ℕ) → hidden_from c (joined a b) ≡ (hidden_from c a || hidden_from c b)
hidden_either c a b = go (eqb (bit_or a c) c) (eqb (bit_or b c) c) refl refl
  where
    go : (s t : Bool) → eqb (bit_or a c) c ≡ s → eqb (bit_or b c) c ≡ t → hidden_from c (joined a b) ≡ (not s || not t)
    go true true p q = ap not (eq-eqb _ c (union_inside c a b (eqb-true _ c p) (eqb-true _ c q)))
    go true false p q = ap not (ne_eqb _ c (λ e. eqb-false _ c q (second_inside c a b e)))
    go false t p q = ap not (ne_eqb _ c (λ e. eqb-false _ c p (first_inside c a b e)))

-- ---- as the code asks it: which of the value's owners are outside the clearance

halves : (k c : ℕ) → c < 2 ^ suc k → (2 ^ suc k - 1 - c) / 2 ≡ 2 ^ k - 1 - c / 2
halves k c h = omega (arith, two-pow-succ k)

odds : (k c : ℕ) → c < 2 ^ suc k → (2 ^ suc k - 1 - c) % 2 ≡ 1 - c % 2
odds k c h = omega (arith, two-pow-succ k)

one_side : (x y : ℕ) → x < 2 → y < 2 → min x (1 - y) + min x y ≡ x
one_side x zero p q = omega arith
one_side x (suc zero) p q = omega arith
one_side x (suc (suc y)) p q = absurd (omega arith)

-- two numbers by their halves and last bits
by_halves : (a m n x y u v : ℕ) → m ≡ x * 2 + u → n ≡ y * 2 + v → x + y ≡ a / 2 → u + v ≡ a % 2 → m + n ≡ a
by_halves a m n x y u v p q r s = omega arith

-- of k owners, those outside and those inside are all
outside_inside : (k a c : ℕ) → a < 2 ^ k → c < 2 ^ k → bit_and a (2 ^ k - 1 - c) + bit_and a c ≡ a
outside_inside zero a c p q = ap (λ (x : ℕ). bit_and x (1 - 1 - c) + bit_and x c) z ∙ sym z
  where
    z : a ≡ 0
    z = omega arith
outside_inside (suc k) a c p q =
    let d = 2 ^ suc k - 1 - c in
    by_halves a (bit_and a d) (bit_and a c) (bit_and (a / 2) (2 ^ k - 1 - c / 2)) (bit_and (a / 2) (c / 2)) (min (a % 2) (1 - c % 2)) (min (a % 2) (c % 2))
    (and_step a d ∙ ap₂ (λ (x y : ℕ). bit_and (a / 2) x * 2 + min (a % 2) y) (halves k c q) (odds k c q))
    (and_step a c)
    (outside_inside k (a / 2) (c / 2) (omega (arith, two-pow-succ k)) (omega (arith, two-pow-succ k)))
    (one_side (a % 2) (c % 2) (omega arith) (omega arith))

pub outside_none : (c o : ℕ) → c < 2 ^ 8 → o < 2 ^ 8 → eqb (bit_and o (2 ^ 8 - 1 - c)) 0 ≡ eqb (joined o c) c
outside_none c o p q = go (eqb (joined o c) c) refl
  where
    go : (b : Bool) → eqb (joined o c) c ≡ b → eqb (bit_and o (2 ^ 8 - 1 - c)) 0 ≡ b
    go true e =
        let u : joined o c ≡ c = eqb-true (joined o c) c e in
        let z : bit_and o (2 ^ 8 - 1 - c) ≡ 0 = omega (arith, outside_inside 8 o c q p, or_add_and o c, u) in
        eq-eqb (bit_and o (2 ^ 8 - 1 - c)) 0 z
    go false e =
        ne_eqb (bit_and o (2 ^ 8 - 1 - c)) 0 (λ (z : bit_and o (2 ^ 8 - 1 - c) ≡ 0).
        let u : joined o c ≡ c = omega (arith, outside_inside 8 o c q p, or_add_and o c, z) in
        eqb-false (joined o c) c e u)

-- ---- owner by owner

either_one : (x y : ℕ) → x < 2 → y < 2 → eqb (max x y) 1 ≡ (eqb x 1 || eqb y 1)
either_one zero zero p q = refl
either_one zero (suc zero) p q = refl
either_one zero (suc (suc y)) p q = absurd (omega arith)
either_one (suc zero) zero p q = refl
either_one (suc zero) (suc zero) p q = refl
either_one (suc zero) (suc (suc y)) p q = absurd (omega arith)
either_one (suc (suc x)) y p q = absurd (omega arith)

pub owned_either : (i a b : ℕ) → owned i (joined a b) ≡ (owned i a || owned i b)
owned_either i a b =
    ap (λ (x : ℕ). eqb (x % 2) 1) (or_shr a b i)
    ∙ ap (λ (x : ℕ). eqb x 1) (or_odd (a / 2 ^ i) (b / 2 ^ i))
    ∙ either_one (a / 2 ^ i % 2) (b / 2 ^ i % 2) (omega arith) (omega arith)

-- owner i of half the byte is the next one of the whole
owned_half : (i a : ℕ) → owned i (a / 2) ≡ owned (suc i) a
owned_half i a = ap (λ (x : ℕ). eqb (x % 2) 1) (div-div-eq-div-mul a 2 (2 ^ i) ∙ ap (λ (x : ℕ). a / x) (sym (pow-succ' 2 i)))

abbrev Found : ℕ → Type 0
Found a = (c : ℕ) → (bit_or a c ≡ c → ⊥) → Outside c a

found : (a : ℕ) → Found a
found = bin_ind Found (λ c h. absurd (h refl)) step
  where
    later : (a c : ℕ) → Outside (c / 2) (a / 2) → Outside c a
    later a c o = record { owner = suc o.owner; has = sym (owned_half o.owner a) ∙ o.has; lacks = sym (owned_half o.owner c) ∙ o.lacks }

    step : (a : ℕ) → Found (a / 2) → Found a
    step a ih c h = go (a % 2) (c % 2) refl refl
      where
        same : max (a % 2) (c % 2) ≡ c % 2 → Outside c a
        same e = later a c (ih (c / 2) (λ p. h (omega (arith, or_step a c, p, e))))

        go : (x y : ℕ) → a % 2 ≡ x → c % 2 ≡ y → Outside c a
        go zero y p q = same (omega arith)
        go (suc x) zero p q =
            record {
              owner = 0;
              has = eq-eqb (a / 2 ^ 0 % 2) 1 (omega arith);
              lacks = ne_eqb (c / 2 ^ 0 % 2) 1 (λ e. absurd (omega arith));
            }
        go (suc x) (suc y) p q = same (omega arith)

-- what is hidden from a clearance: what has an owner that the clearance lacks
pub hidden_outside : (c o : ℕ) → (hidden_from c o ≡ true) ↔ Outside c o
hidden_outside c o = (to, from)
  where
    to : hidden_from c o ≡ true → Outside c o
    to e = found o c (λ p. true≢false (sym e ∙ ap not (eq-eqb _ c p)))

    from : Outside c o → hidden_from c o ≡ true
    from x =
        let i = x.owner in
        ap not (ne_eqb _ c (λ p. true≢false (sym (ap (λ (b : Bool). b || owned i c) x.has) ∙ sym (owned_either i o c) ∙ ap (owned i) p ∙ x.lacks)))

-- a byte has no more than eight
pub owner-few : (i o : ℕ) → o < 2 ^ 8 → owned i o ≡ true → i < 8
owner-few i o h e = lt_of_not-le (λ p. false≢true (sym (ap (λ (x : ℕ). eqb (x % 2) 1) (div-eq_of_lt (lt_of_lt_of_le h (pow-le-pow_right (omega arith) p)))) ∙ e))

-- ---- 01's marks, 0 and 1, as owner byte 01 under clearance 00

-- marked is hidden
pub mark_hides : (m : ℕ) → hidden_from 0 m ≡ not (eqb m 0)
mark_hides m = ap (λ (x : ℕ). not (eqb x 0)) (or_zero_r m)

-- marked if either is
pub marks_join : (a b : ℕ) → a ≤ 1 → b ≤ 1 → joined a b ≡ max a b
marks_join zero b p q = omega arith
marks_join (suc zero) zero p q = refl
marks_join (suc zero) (suc zero) p q = refl
marks_join (suc zero) (suc (suc b)) p q = absurd (omega arith)
marks_join (suc (suc a)) b p q = absurd (omega arith)

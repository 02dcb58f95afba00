-- A text is read by a pattern exactly where it is written by it.
-- Assumes nothing.
use Prim.Native.Nat.{ℕ, zero, suc, ◌+◌, ◌*◌, ◌≤◌, ◌<◌}
use native.Mathlib.Omega.{arith}
use mathlib.Core.Path.{◌≡◌, refl, sym, ap, ◌∙◌}
use mathlib.Core.Bool.{Bool, true, false, cond, not, ◌&&◌}
use mathlib.Core.List.{List, [], ◌∷◌, ◌++◌, append-nil}
use borrow.Author.Tests.{ltb-true, ltb-false, lt-ltb, le-ltb, eqb-true, eq-eqb, not-true}
use borrow.Table.Steps.{cases}
use lib.Dec.{eqb, ltb, lit≤}
use lib.ListN.{length, get_or, drop}
use Rattle.isa.specs.Format.{hex_digit}
use Rattle.isa.proofs.Truths.{both, below, tested}
use Rattle.assemble.specs.Grammar.{all, front, behind, is_space, spaces, is_name_byte, is_label, digit_in, Token, letter, blank, digit, name}
use Rattle.assemble.specs.Grammar.{made, counted, referred, Digits, Fits, Found, none, found, at_end, scan}

pub false-true : {A : Type 0} → false ≡ true → A
false-true e = let z : ◌≡◌ {A = ℕ} 0 1 = cc in absurd (omega arith)

-- ---- bytes that pass

pub front-behind : (f : ℕ → Bool) (s : List ℕ) → front f s ++ behind f s ≡ s
front-behind f [] = refl
front-behind f (b ∷ s) = cases (f b) (λ e. rw e (ap (λ (r : List ℕ). b ∷ r) (front-behind f s))) (λ e. rw e)

-- bytes that pass, in front of a text
pub past : (f : ℕ → Bool) (x y : List ℕ) → all f x ≡ true → (front f (x ++ y) ≡ x ++ front f y) × (behind f (x ++ y) ≡ behind f y)
past f [] y e = (refl, refl)
past f (b ∷ x) y e =
    let p = both (f b) (all f x) e in
    let r = past f x y p.1 in
    (rw p.0 (ap (λ (z : List ℕ). b ∷ z) r.0), rw p.0 r.1)

pub skip_spaces : (n : ℕ) (s : List ℕ) → behind is_space (spaces n ++ s) ≡ behind is_space s
skip_spaces zero s = refl
skip_spaces (suc n) s = skip_spaces n s

spaces-front : (s : List ℕ) → front is_space s ≡ spaces (length (front is_space s))
spaces-front [] = refl
spaces-front (b ∷ s) = cases (is_space b) (λ e. rw e (λ i. eqb-true b 32 e i ∷ spaces-front s i)) (λ e. rw e)

-- the spaces at the front and what is behind them
pub spaced-front : (s : List ℕ) → s ≡ spaces (length (front is_space s)) ++ behind is_space s
spaced-front s = sym (front-behind is_space s) ∙ ap (λ (x : List ℕ). x ++ behind is_space s) (spaces-front s)

-- ---- digits and labels

pub digit_read : (d : ℕ) → d < 16 → digit_in (hex_digit d) ≡ d
digit_read d h = eqb-true (digit_in (hex_digit d)) d (tested (λ (k : ℕ). eqb (digit_in (hex_digit k)) k) 16 refl d h)

pub digit-name : (d : ℕ) → d < 16 → is_name_byte (hex_digit d) ≡ true
digit-name d h = tested (λ (k : ℕ). is_name_byte (hex_digit k)) 16 refl d h

-- a digit's byte is below 71, and each of those that is a digit is its value's
digit-written : (b : ℕ) → ltb (digit_in b) 16 ≡ true → hex_digit (digit_in b) ≡ b
digit-written b e = eqb-true (hex_digit (digit_in b)) b (cases (ltb b 71) (λ l. rw e at (tested right 71 refl b (ltb-true b 71 l))) high)
  where
    right : ℕ → Bool
    right k = cond (ltb (digit_in k) 16) (eqb (hex_digit (digit_in k)) k) true

    high : ltb b 71 ≡ false → eqb (hex_digit (digit_in b)) b ≡ true
    high l =
        let g : 71 ≤ b = ltb-false b 71 l in
        let q : digit_in b ≡ 16 = simp (le-ltb b 48 (omega arith), le-ltb b 58 (omega arith), le-ltb b 65 (omega arith), le-ltb b 71 (omega arith)) in
        absurd (omega (arith, ltb-true (digit_in b) 16 e))

pub label_first : (l : List ℕ) → is_label l ≡ true → get_or l 0 0 ≡ 76
label_first l e = eqb-true (get_or l 0 0) 76 (both (eqb (get_or l 0 0) 76) _ e).0

pub label-bytes : (l : List ℕ) → is_label l ≡ true → all is_name_byte l ≡ true
label-bytes l e = (both (ltb (length l) 8) _ (both (ltb 1 (length l)) _ (both (eqb (get_or l 0 0) 76) _ e).1).1).1

pub rest-digits : (ds : List ℕ) → Digits ds → Digits (drop 1 ds)
rest-digits [] h i = h i
rest-digits (d ∷ ds) h i = h (suc i)

pub cons_digits : (d : ℕ) (ds : List ℕ) → d < 16 → Digits ds → Digits (d ∷ ds)
cons_digits d ds h k zero = h
cons_digits d ds h k (suc i) = k i

-- ---- what is wanted of a pattern

-- it begins with a byte that passes
abbrev pub begins : (ℕ → Bool) → List Token → Bool
begins f [] = false
begins f (letter c ∷ t) = f c
begins f (blank ∷ t) = false
begins f (digit k ∷ t) = below (λ (d : ℕ). f (hex_digit d)) 16
begins f (name ∷ t) = false

-- no space, and no byte of a label
abbrev pub solid : List Token → Bool
solid t = begins (λ (b : ℕ). not (is_space b)) t

abbrev closed : List Token → Bool
closed t = begins (λ (b : ℕ). not (is_name_byte b)) t

abbrev nameless : List Token → Bool
nameless [] = true
nameless (letter c ∷ t) = nameless t
nameless (blank ∷ t) = nameless t
nameless (digit k ∷ t) = nameless t
nameless (name ∷ t) = false

-- what stands behind a blank is no space, and behind a label no byte of a label; and there is at most one label
abbrev pub neat : List Token → Bool
neat [] = true
neat (letter c ∷ t) = neat t
neat (blank ∷ t) = solid t && neat t
neat (digit k ∷ t) = neat t
neat (name ∷ t) = (closed t && nameless t) && neat t

-- ---- what a pattern writes is read by it

-- it begins with no byte that passes
pub stops_made : (f : ℕ → Bool) (t : List Token) (ds l gs : List ℕ) → Digits ds → begins (λ (b : ℕ). not (f b)) t ≡ true
    → (front f (made t ds l gs) ≡ []) × (behind f (made t ds l gs) ≡ made t ds l gs)
unfolding made
stops_made f [] ds l gs h e = false-true e
stops_made f (letter c ∷ t) ds l gs h e = let q = not-true (f c) e in (rw q, rw q)
stops_made f (blank ∷ t) ds l gs h e = false-true e
stops_made f (digit k ∷ t) ds l gs h e =
    let d = get_or ds 0 0 in
    let q = not-true (f (hex_digit d)) (tested (λ (d : ℕ). not (f (hex_digit d))) 16 e d (h 0)) in
    (rw q, rw q)
stops_made f (name ∷ t) ds l gs h e = false-true e

pub scan-made : (t : List Token) (ds l gs : List ℕ) (w : ℕ) (r : List ℕ) → neat t ≡ true → Digits ds → is_label l ≡ true
    → scan t w r (made t ds l gs) ≡ found (counted t ds w) (referred t l r)
unfolding made counted referred scan
scan-made [] ds l gs w r e h n = rw (← append-nil (spaces (get_or gs 0 0)), skip_spaces (get_or gs 0 0) [])
scan-made (letter c ∷ t) ds l gs w r e h n = rw (eq-eqb c c refl) (scan-made t ds l gs w r e h n)
scan-made (blank ∷ t) ds l gs w r e h n =
    let p = both (solid t) (neat t) e in
    rw (skip_spaces (get_or gs 0 0) (made t ds l (drop 1 gs)), (stops_made is_space t ds l (drop 1 gs) h p.0).1) (scan-made t ds l (drop 1 gs) w r p.1 h n)
scan-made (digit k ∷ t) ds l gs w r e h n =
    rw (digit_read (get_or ds 0 0) (h 0), lt-ltb (get_or ds 0 0) 16 (h 0)) (scan-made t (drop 1 ds) l gs (w + k * get_or ds 0 0) r e (rest-digits ds h) n)
scan-made (name ∷ t) ds l gs w r e h n =
    let p = both (closed t && nameless t) (neat t) e in
    let c = stops_made is_name_byte t ds l gs h (both (closed t) (nameless t) p.0).0 in
    let b = past is_name_byte l (made t ds l gs) (label-bytes l n) in
    rw (b.0, b.1, c.0, c.1, append-nil l, n) (scan-made t ds l gs w l p.1 h n)

-- ---- what is read by a pattern is written by it

-- with the label l where the pattern has none
abbrev Fitting : List Token → ℕ → List ℕ → List ℕ → ℕ → List ℕ → List ℕ → Type 0
Fitting t w r s v q l = (m : Fits t w r s v q) × (nameless t ≡ true → m.label ≡ l)

pub none_found : {A : Type 0} {v : ℕ} {q : List ℕ} → none ≡ found v q → A
none_found e = let z : ◌≡◌ {A = ℕ} 0 1 = cc in absurd (omega arith)

ended : (w : ℕ) (r s b : List ℕ) (v : ℕ) (q l : List ℕ) → behind is_space s ≡ b → is_label l ≡ true → at_end b (found w r) ≡ found v q → Fitting [] w r s v q l
unfolding made counted referred
ended w r s [] v q l e n h =
    let k = length (front is_space s) in
    let t : s ≡ spaces k = spaced-front s ∙ rw e (append-nil (spaces k)) in
    (record { digits = []; label = l; gaps = k ∷ []; hexadecimal = λ i. lit≤ tt; named = n; text = t; word = cc; refers = cc }, λ a. refl)
ended w r s (x ∷ b) v q l e n h = none_found h

-- a token more in front: from what is written of the rest
more : {t : List Token} {k : Token} {w u : ℕ} {r o s x : List ℕ} {v : ℕ} {q l : List ℕ} (m : Fits t w r s v q) (ds gs : List ℕ)
    → Digits ds → x ≡ made (k ∷ t) ds m.label gs → v ≡ counted (k ∷ t) ds u → q ≡ referred (k ∷ t) m.label o
    → (nameless (k ∷ t) ≡ true → m.label ≡ l) → Fitting (k ∷ t) u o x v q l
more m ds gs h e f g a = (record { digits = ds; label = m.label; gaps = gs; hexadecimal = h; named = m.named; text = e; word = f; refers = g }, a)

-- where the test v of a byte holds, the rest is read on
by_test : {A : Type 0} (v : Bool) {o : Found} {n : ℕ} {q : List ℕ} → (v ≡ true → o ≡ found n q → A) → cond v o none ≡ found n q → A
by_test true f e = f refl e
by_test false f e = none_found e

pub scanned : (t : List Token) (w : ℕ) (r s : List ℕ) (v : ℕ) (q l : List ℕ) → neat t ≡ true → is_label l ≡ true → scan t w r s ≡ found v q → Fitting t w r s v q l
unfolding scan made counted referred
scanned [] w r s v q l e n h = ended w r s (behind is_space s) v q l refl n h
scanned (letter c ∷ t) w r [] v q l e n h = none_found h
scanned (letter c ∷ t) w r (b ∷ s) v q l e n h =
    by_test (eqb b c) (λ y k.
    let m = scanned t w r s v q l e n k in
    let f = m.0 in
    more f f.digits f.gaps f.hexadecimal (λ i. eqb-true b c y i ∷ f.text i) f.word f.refers m.1) h
scanned (blank ∷ t) w r [] v q l e n h = none_found h
scanned (blank ∷ t) w r (b ∷ s) v q l e n h =
    by_test (is_space b) (λ y k.
    let m = scanned t w r (behind is_space s) v q l (both (solid t) (neat t) e).1 n k in
    let f = m.0 in
    let j = length (front is_space s) in
    let x : s ≡ spaces j ++ made t f.digits f.label f.gaps = spaced-front s ∙ ap (λ (z : List ℕ). spaces j ++ z) f.text in
    more f f.digits (j ∷ f.gaps) f.hexadecimal (λ i. eqb-true b 32 y i ∷ x i) f.word f.refers m.1) h
scanned (digit j ∷ t) w r [] v q l e n h = none_found h
scanned (digit j ∷ t) w r (b ∷ s) v q l e n h =
    by_test (ltb (digit_in b) 16) (λ y k.
    let m = scanned t (w + j * digit_in b) r s v q l e n k in
    let f = m.0 in
    let d = cons_digits (digit_in b) f.digits (ltb-true (digit_in b) 16 y) f.hexadecimal in
    more f (digit_in b ∷ f.digits) f.gaps d (λ i. sym (digit-written b y) i ∷ f.text i) f.word f.refers m.1) h
scanned (name ∷ t) w r s v q l e n h =
    by_test (is_label (front is_name_byte s)) (λ y k.
    let p = both (closed t && nameless t) (neat t) e in
    let m = scanned t w (front is_name_byte s) (behind is_name_byte s) v q (front is_name_byte s) p.1 y k in
    let f = m.0 in
    let z = sym (m.1 (both (closed t) (nameless t) p.0).1) in
    let x = sym (front-behind is_name_byte s) ∙ (λ i. z i ++ f.text i) in
    more f f.digits f.gaps f.hexadecimal x f.word (f.refers ∙ ap (referred t f.label) z) (λ a. false-true a)) h

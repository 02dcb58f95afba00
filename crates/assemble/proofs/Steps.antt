-- The turns of the loops and the steps of a form, over positions.
-- Assumes nothing.
use Prim.Native.Nat.{ℕ, suc, ◌+◌, ◌*◌, ◌-◌, ◌≤◌, ◌<◌}
use native.Mathlib.Nat.{sub-zero}
use native.Mathlib.Omega.{arith}
use native.Mathlib.Numerals.{add-one}
use mathlib.Core.Path.{◌≡◌, refl, sym, ap, ◌∙◌}
use mathlib.Core.Bool.{Bool, true, false, cond, not}
use mathlib.Core.List.{List, [], ◌∷◌, map}
use borrow.Author.Tests.{eqb-true, ne_eqb, ltb-false}
use borrow.Table.Steps.{cases}
use lib.Dec.{eqb, ltb}
use lib.ListN.{length, get_or, take, drop, length-drop, drop_of_length-le}
use lib.Seq.{drop-cons, drop-drop, take_all}
use Rattle.std.specs.Prelude.{Option, Some, None, is_some, Result, Ok, Err, IsErrAnd}
use Rattle.encoding.specs.declared.refusal.Refusal.{Refusal}
use Rattle.std.specs.List.{position_or_len}
use Rattle.isa.specs.Format.{hex_digit}
use Rattle.assemble.specs.Grammar.{all, front, behind, is_space, is_name_byte, is_label, digit_in}
use Rattle.assemble.specs.Grammar.{Token, letter, blank, digit, name, token, Form, form, forms, form_at, Found, none, found, at_end, scan, or_else, tried}
use Rattle.assemble.specs.Assembly.{key}
use Rattle.assemble.specs.Reading.{Passed, hex_value, label_key, seen, ended, keyed, after, Next}
use Rattle.assemble.specs.declared.forms.Seen.{Seen}
use Rattle.assemble.specs.declared.forms.Spot.{Spot}
use Rattle.isa.proofs.Truths.{tested}
use Rattle.assemble.proofs.Scans.{false-true, label_first, begins}

-- ---- a refusal that a `?` passes on

pub passed_on : {A : Type 0} (r : Result A Refusal) (e : Refusal) → IsErrAnd r (λ x. x ≡ e) → r ≡ Err e
passed_on (Ok a) e h = absurd h
passed_on (Err b) e h = ap (λ (x : Refusal). Err x) h

-- ---- bytes that are passed over

-- the part of a list from a place on
pub tail_whole : {A : Type 0} (s : List A) (e : ℕ) → take (length s - e) (drop e s) ≡ drop e s
tail_whole s e = take_all (length s - e) (drop e s) (rw length-drop (omega arith))

pub passed_front : {f : ℕ → Bool} {s : List ℕ} {e : ℕ} → Passed f s 0 e → take e s ≡ front f s
passed_front {f} {s} {e} p = rw sub-zero at p.passed

-- the first that does not pass
abbrev pub stop : (ℕ → Bool) → List ℕ → ℕ
stop f s = position_or_len (λ b. not (f b)) s

take_more : (n b : ℕ) (s : List ℕ) → take (1 + n) (b ∷ s) ≡ b ∷ take n s
take_more n b s = let e : 1 + n ≡ suc n = omega arith in rw e

drop_more : (n b : ℕ) (s : List ℕ) → drop (1 + n) (b ∷ s) ≡ drop n s
drop_more n b s = let e : 1 + n ≡ suc n = omega arith in rw e

front-stop : (f : ℕ → Bool) (s : List ℕ) → take (stop f s) s ≡ front f s
front-stop f [] = refl
front-stop f (b ∷ s) = cases (f b) (λ e. rw e (take_more (stop f s) b s ∙ ap (λ (x : List ℕ). b ∷ x) (front-stop f s))) (λ e. rw e)

behind-stop : (f : ℕ → Bool) (s : List ℕ) → drop (stop f s) s ≡ behind f s
behind-stop f [] = refl
behind-stop f (b ∷ s) = cases (f b) (λ e. rw e (drop_more (stop f s) b s ∙ behind-stop f s)) (λ e. rw e)

stop-most : (f : ℕ → Bool) (s : List ℕ) → stop f s ≤ length s
stop-most f [] = omega arith
stop-most f (b ∷ s) = cases (f b) (λ e. rw e (omega (arith, stop-most f s))) (λ e. rw e (omega arith))

passed_at : (f : ℕ → Bool) (s : List ℕ) (at n : ℕ) → at ≤ length s → n ≡ stop f (drop at s) → Passed f s at (at + n)
passed_at f s at n h e =
    let m : stop f (drop at s) ≤ length s - at = rw (← length-drop) (stop-most f (drop at s)) in
    let k : at + n - at ≡ n = omega arith in
    record {
      ahead = omega arith;
      inside = omega arith;
      passed = rw (k, e) (front-stop f (drop at s));
      left = sym (drop-drop n at s) ∙ rw e (behind-stop f (drop at s));
    }

-- what a search for it answers
module _ (f : ℕ → Bool) (s : List ℕ) (at : ℕ) (r : Option ℕ) (h : at ≤ length s)
    (p : r ≡ cond (ltb (stop f (drop at s)) (length (drop at s))) (Some (stop f (drop at s))) None) where
  pub stopped : (n : ℕ) → r ≡ Some n → Passed f s at (at + n)
  stopped n e = go (ltb (stop f (drop at s)) (length (drop at s))) (sym p ∙ e)
    where
      go : (v : Bool) → cond v (Some (stop f (drop at s))) None ≡ Some n → Passed f s at (at + n)
      go true q = passed_at f s at n h (cc q)
      go false q = absurd (cc q)

  pub all_passed : r ≡ None → Passed f s at (length s)
  all_passed e = go (ltb (stop f (drop at s)) (length (drop at s))) refl (sym p ∙ e)
    where
      go : (v : Bool) → ltb (stop f (drop at s)) (length (drop at s)) ≡ v → ◌≡◌ {A = Option ℕ} (cond v (Some (stop f (drop at s))) None) None → Passed f s at (length s)
      go true w q = absurd (cc q)
      go false w q =
          let g : length (drop at s) ≤ stop f (drop at s) = ltb-false _ _ w in
          let l : length (drop at s) ≡ length s - at = length-drop at s in
          let k : at + (length s - at) ≡ length s = omega arith in
          rw k at (passed_at f s at (length s - at) h (omega (arith, stop-most f (drop at s))))

-- ---- digits and labels

pub hex-none : (b : ℕ) → None ≡ hex_value b → ltb (digit_in b) 16 ≡ false
hex-none b e = cases (ltb (digit_in b) 16) (λ q. absurd (cc (rw q at e))) (λ q. q)

pub hex-some : (b d : ℕ) → Some d ≡ hex_value b → (ltb (digit_in b) 16 ≡ true) × (d ≡ digit_in b)
hex-some b d e = cases (ltb (digit_in b) 16) (λ q. (q, let p : Some d ≡ Some (digit_in b) = rw q at e in cc p)) (λ q. absurd (cc (rw q at e)))

pub front-all : (f : ℕ → Bool) (s : List ℕ) → all f (front f s) ≡ true
front-all f [] = refl
front-all f (b ∷ s) = cases (f b) (λ e. rw e (rw e (front-all f s))) (λ e. rw e)

pub label_positive : (l : List ℕ) → is_label l ≡ true → 0 < key l
unfolding key
label_positive [] e = false-true e
label_positive (b ∷ l) e = let h : b ≡ 76 = label_first (b ∷ l) e in omega arith

pub label-none : (l : List ℕ) → label_key l ≡ None → is_label l ≡ false
label-none l k = cases (is_label l) (λ e. absurd (cc (rw e at k))) (λ e. e)

pub label-some : (l : List ℕ) (n : ℕ) → label_key l ≡ Some n → (is_label l ≡ true) × (n ≡ key l)
label-some l n k = cases (is_label l) (λ e. (e, let q : Some (key l) ≡ Some n = rw e at k in cc q)) (λ e. absurd (cc (rw e at k)))

-- ---- a form

module _ (p s : List ℕ) (i : ℕ) (spot : Spot) where
  -- what the bytes of the form from i on read
  abbrev pub rest : Option Seen
  rest = keyed (map token (drop i p)) spot.word spot.refers (drop spot.at s)

  pub scan-turn : (n : Option Spot) → i < length p → Next (token (get_or p i 0)) s spot n → rest ≡ after n (map token (drop (i + 1) p)) s
  scan-turn n h x = ap (λ (q : List ℕ). keyed (map token q) spot.word spot.refers (drop spot.at s)) (drop-cons p i 0 h) ∙ rw add-one (x.reads (map token (drop (suc i) p)))

  pub scan_last : (e : ℕ) → length p ≤ i → Passed is_space s spot.at e → rest ≡ ended (drop e s) spot.word spot.refers
  unfolding keyed
  scan_last e h x = rw (drop_of_length-le p {i = i} h, x.left)

seen-cond : {a : Option Seen} (o : Found) (v : Bool) → a ≡ seen o → cond v a None ≡ seen (cond v o none)
seen-cond o true e = e
seen-cond o false e = refl

-- reading by keys is reading by labels
pub keyed-scan : (t : List Token) (w : ℕ) (r s : List ℕ) → keyed t w (key r) s ≡ seen (scan t w r s)
unfolding keyed scan
keyed-scan [] w r s = go (behind is_space s)
  where
    go : (b : List ℕ) → ended b w (key r) ≡ seen (at_end b (found w r))
    go [] = refl
    go (x ∷ b) = refl
keyed-scan (letter c ∷ t) w r [] = refl
keyed-scan (letter c ∷ t) w r (b ∷ s) = seen-cond (scan t w r s) (eqb b c) (keyed-scan t w r s)
keyed-scan (blank ∷ t) w r [] = refl
keyed-scan (blank ∷ t) w r (b ∷ s) = seen-cond (scan t w r (behind is_space s)) (is_space b) (keyed-scan t w r (behind is_space s))
keyed-scan (digit m ∷ t) w r [] = refl
keyed-scan (digit m ∷ t) w r (b ∷ s) = seen-cond (scan t (w + m * digit_in b) r s) (ltb (digit_in b) 16) (keyed-scan t (w + m * digit_in b) r s)
keyed-scan (name ∷ t) w r s =
    let l = front is_name_byte s in
    seen-cond (scan t w l (behind is_name_byte s)) (is_label l) (keyed-scan t w l (behind is_name_byte s))

-- ---- the forms in turn

-- the first that is read, else the second
abbrev pub first_seen : Option Seen → Option Seen → Option Seen
first_seen None q = q
first_seen (Some n) q = Some n

pub first_some : (n q : Option Seen) → is_some n ≡ true → first_seen n q ≡ n
first_some None q e = false-true e
first_some (Some n) q e = refl

pub first_none : (n q : Option Seen) → is_some n ≡ false → first_seen n q ≡ q
first_none None q e = refl
first_none (Some n) q e = false-true (sym e)

or_else_lem : (o q : Found) → seen (or_else o q) ≡ first_seen (seen o) (seen q)
or_else_lem none q = refl
or_else_lem (found w r) q = refl

-- what the forms from f on read, where n is what this one reads
pub tried-turn : (s : List ℕ) (f : ℕ) (n : Option Seen) → f < 17 → n ≡ keyed (form_at forms f).pattern (form_at forms f).base 0 s
    → seen (tried (drop f forms) s) ≡ first_seen n (seen (tried (drop (f + 1) forms) s))
unfolding tried forms key
tried-turn s f n h e =
    let p = form_at forms f in
    let o = tried (drop (suc f) forms) s in
    ap (λ (fs : List Form). seen (tried fs s)) (drop-cons forms f (form 0 "") h)
    ∙ or_else_lem (scan p.pattern p.base [] s) o
    ∙ rw add-one (ap (λ (x : Option Seen). first_seen x (seen o)) (sym (e ∙ keyed-scan p.pattern p.base [] s)))

-- the first byte of each form
abbrev pub heads : List ℕ
heads = 76 ∷ 76 ∷ 76 ∷ 76 ∷ 83 ∷ 83 ∷ 82 ∷ 78 ∷ 83 ∷ 83 ∷ 82 ∷ 82 ∷ 82 ∷ 74 ∷ 74 ∷ 72 ∷ 46 ∷ []

headed : (f : ℕ) → f < 17 → begins (λ (b : ℕ). eqb b (get_or heads f 0)) (form_at forms f).pattern ≡ true
unfolding forms
headed f h = tested (λ (k : ℕ). begins (λ (b : ℕ). eqb b (get_or heads k 0)) (form_at forms k).pattern) 17 refl f h

head_other : (p : List Token) (c w k : ℕ) (s : List ℕ) → begins (λ (b : ℕ). eqb b c) p ≡ true → (c ≡ get_or s 0 0 → ⊥) → keyed p w k s ≡ None
unfolding keyed
head_other [] c w k s e n = false-true e
head_other (letter d ∷ t) c w k [] e n = refl
head_other (letter d ∷ t) c w k (b ∷ s) e n = rw (ne_eqb b d (λ q. n (sym (eqb-true d c e) ∙ sym q)))
head_other (blank ∷ t) c w k s e n = false-true e
head_other (digit m ∷ t) c w k s e n =
    let d = tested (λ (j : ℕ). eqb (hex_digit j) c) 16 e in
    absurd (omega (arith, eqb-true 48 c (d 0 (omega arith)), eqb-true 49 c (d 1 (omega arith))))
head_other (name ∷ t) c w k s e n = false-true e

-- a form that begins with another byte
pub tried_other : (s : List ℕ) (f : ℕ) → f < 17 → (get_or heads f 0 ≡ get_or s 0 0 → ⊥) → seen (tried (drop f forms) s) ≡ seen (tried (drop (f + 1) forms) s)
tried_other s f h n = tried-turn s f None h (sym (head_other (form_at forms f).pattern (get_or heads f 0) (form_at forms f).base 0 s (headed f h) n))

pub tried-empty : (s : List ℕ) → length s ≡ 0 → seen (tried forms s) ≡ None
unfolding tried forms scan
tried-empty [] e = refl
tried-empty (b ∷ s) e = absurd (omega arith)
